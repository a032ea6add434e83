-- The person list (document 02, C-14): 'a list gives the person number, below P, of each login'.
use Rattle.std.specs.Prelude.{ℕ, Bool, true, not, ◌||◌, List, length, get_or, eqb, leb}
use Rattle.vocabulary.specs.Those.{those, some}

-- No person: a person's number is below P, and P is at most 128.
abbrev pub nobody : ℕ
nobody = 65535

-- The person of a login; nobody for a login past the list's end. (A list longer than P would give an unknown login a person; it gets 10, so nothing
-- is granted.)
abbrev pub person_of : List ℕ → ℕ → ℕ
person_of persons login = get_or persons login nobody

-- Refusal 10: 'the list's length isn't P or an entry is P or more'.
unfoldable pub bad_persons : (p : ℕ) → List ℕ → Bool
bad_persons p persons = not (eqb (length persons) p) || some (those (λ s. leb p (person_of persons s)) (length persons))

-- Every login its own number: 'each login counts as one person' (document 01, 'The register'), and 'the desk program gives every login its own
-- number'.
unfoldable pub own_numbers : (p : ℕ) → List ℕ
own_numbers p = those (λ s. true) p
