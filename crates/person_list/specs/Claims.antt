-- What the person list comes to (document 02, C-14).
use Rattle.std.specs.Prelude.{ℕ, ◌≤◌, ◌<◌, ◌≡◌, false, List, length}
use Rattle.person_list.specs.PersonList.{person_of, bad_persons, own_numbers}

pub record LoginsHavePersons : Type 0 where
  -- 10 lets pass just the lists of length P by which each login is a person, with a number below P.
  pub passes : (p : ℕ) (persons : List ℕ) → length persons ≡ p → ((login : ℕ) → login < p → person_of persons login < p) → bad_persons p persons ≡ false
  pub whole : (p : ℕ) (persons : List ℕ) → bad_persons p persons ≡ false → length persons ≡ p
  pub known : (p : ℕ) (persons : List ℕ) → bad_persons p persons ≡ false → (login : ℕ) → login < p → person_of persons login < p
  -- An unknown login is no person: its number is none of a house's persons.
  pub unknown : (p : ℕ) (persons : List ℕ) → p ≤ 128 → bad_persons p persons ≡ false → (login : ℕ) → p ≤ login → p ≤ person_of persons login
  -- The list that gives every login its own number passes 10, and makes each login its own person.
  pub own-passes : (p : ℕ) → bad_persons p (own_numbers p) ≡ false
  pub own-person : (p login : ℕ) → login < p → person_of (own_numbers p) login ≡ login
