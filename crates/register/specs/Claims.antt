-- What the mode changes in the register check (document 02, C-12).
use Rattle.std.specs.Prelude.{◌≡◌, true, false, cond, []}
use Rattle.vocabulary.specs.Answer.{answer}
use Rattle.register.specs.Register.{Register, register_of, bad_pairs, register_answer}

-- The same logins and folders by classes, without pairs.
abbrev pub in_classes : Register → Register
in_classes r = register_of r.logins r.classes r.clients

pub record ModesChecked : Type 0 where
  -- By classes the pairs are not looked at, malformed or not.
  pub classes : (r : Register) → r.by_pairs ≡ false → register_answer r ≡ register_answer (in_classes r)
  -- In either mode 1, 2 and 3 speak as they do by classes.
  pub refused : (r : Register) → ((register_answer (in_classes r)).number ≡ 0 → ⊥) → register_answer r ≡ register_answer (in_classes r)
  -- 'After 3' comes 11.
  pub pairs : (r : Register) → r.by_pairs ≡ true → (register_answer (in_classes r)).number ≡ 0 → register_answer r ≡ cond (bad_pairs r) (answer 11 []) (answer 0 [])
