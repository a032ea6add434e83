-- Each printed text fits in 4,096 bytes.
use Prim.Native.Nat.{ℕ, ◌≤◌, ◌<◌, ◌^◌}
use native.Mathlib.Omega.{arith}
use mathlib.Core.Path.{◌≡◌}
use mathlib.Core.Logic.{◌⊎◌, inl, inr}
use mathlib.Core.Bool.{Bool, true, false, cond, ◌&&◌}
use mathlib.Core.List.{List, [], ◌∷◌}
use lib.ListN.{length}
use Rattle.vocabulary.specs.Answer.{Answer, answer, judge}
use Rattle.vocabulary.specs.Those.{those, some, smallest}
use Rattle.vocabulary.proofs.Bools.{true-or-false}
use Rattle.vocabulary.proofs.Those.{smallest-holds, some-none}
use Rattle.register.specs.Register.{Register, folders, in_range, lone_zero, differs, earlier, later, bad_pairs, register_checks, register_answer}
use Rattle.register.proofs.Answers.{in_range-ranged, answer-range}
use Rattle.text_lines.proofs.Spaced.{Small}
use Rattle.text_lines.proofs.Printed.{printed-fits}
use Rattle.desk_print.specs.Lines.{input_too_long, bad_line, bad_register, serial_text, dash_text}

-- ---- each line

pub input-too-long-fits : length input_too_long ≤ 4096
input-too-long-fits = printed-fits (105 ∷ 110 ∷ 112 ∷ 117 ∷ 116 ∷ 32 ∷ []) 41 [] (omega arith) (omega arith) (omega arith) tt

-- A line's number is at most one more than a length of 64 bits.
pub bad-line-fits : (n : ℕ) → n ≤ 2 ^ 64 → length (bad_line n) ≤ 4096
bad-line-fits n h = printed-fits (108 ∷ 105 ∷ 110 ∷ 101 ∷ 32 ∷ []) n (40 ∷ []) (omega arith) (omega arith) h (omega arith, tt)

pub serial-fits : (serial number : ℕ) (list : List ℕ) → serial < 65536 → number < 65536 → Small list → length list < 512
    → length (serial_text serial number list) ≤ 4096
serial-fits serial number list s n small few = printed-fits [] serial (number ∷ list) (omega arith) (omega arith) (omega arith) (n, small)

pub dash-fits : (number : ℕ) → number < 65536 → length (dash_text number) ≤ 4096
dash-fits number n = printed-fits (45 ∷ 32 ∷ []) number [] (omega arith) (omega arith) (omega arith) tt

-- ---- the register's answer

smallest-most : (p : ℕ → Bool) (n : ℕ) → smallest (those p n) ≤ n
smallest-most p n = by (true-or-false (some (those p n)))
  where
    by : (some (those p n) ≡ true) ⊎ (some (those p n) ≡ false) → smallest (those p n) ≤ n
    by (inl e) = omega (arith, (smallest-holds p n e).0)
    by (inr e) = rw (some-none (those p n) e) (omega arith)

-- A number of the register's check, with few folders.
abbrev Few : Answer → Type 0
Few a = (a.number ≤ 11) × Small a.carried × (length a.carried ≤ 2)

register-few : (r : Register) → Few (register_answer r)
unfolding register_answer register_checks judge later earlier
register-few r = by (true-or-false (in_range r))
  where
    told : (a b c : Bool) (f g h : ℕ) → f ≤ 512 → g ≤ 512 → h ≤ 512 →
        Few (cond a (answer 2 (f ∷ [])) (cond b (answer 3 (g ∷ h ∷ [])) (cond c (answer 11 []) (answer 0 []))))
    told true b c f g h i j k = (omega arith, (omega arith, tt), omega arith)
    told false true c f g h i j k = (omega arith, (omega arith, (omega arith, tt)), omega arith)
    told false false true f g h i j k = (omega arith, tt, omega arith)
    told false false false f g h i j k = (omega arith, tt, omega arith)

    by : (in_range r ≡ true) ⊎ (in_range r ≡ false) → Few (register_answer r)
    by (inl e) =
        let few = (in_range-ranged r e).folders-few in
        let first = smallest (later r) in
        let later-few : first ≤ 512 = omega (arith, smallest-most (λ f. some (earlier r f)) (folders r)) in
        rw e
        (told (some (those (lone_zero r) (folders r))) (some (later r)) (r.by_pairs && bad_pairs r) (smallest (those (lone_zero r) (folders r))) first (smallest (earlier r first))
        (omega (arith, smallest-most (lone_zero r) (folders r))) later-few (omega (arith, smallest-most (differs r first) first)))
    by (inr e) = rw (answer-range r e) (omega arith, tt, omega arith)

pub bad-register-fits : (r : Register) → length (bad_register (register_answer r)) ≤ 4096
bad-register-fits r =
    let few = register-few r in
    printed-fits (114 ∷ 101 ∷ 103 ∷ 105 ∷ 115 ∷ 116 ∷ 101 ∷ 114 ∷ 32 ∷ []) (register_answer r).number (register_answer r).carried (omega arith) (omega (arith, few.2)) (omega (arith, few.0)) few.1
