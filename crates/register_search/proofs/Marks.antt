-- Laws of the marks by which refusal 3 is sought among few folders.
use Prim.Native.Nat.{ℕ, ◌+◌, ◌-◌, ◌<◌}
use mathlib.Core.Path.{◌≡◌, refl, ◌∙◌}
use mathlib.Core.List.{List}
use native.Mathlib.Nat.{not-suc-le-zero}
use native.Mathlib.Omega.{arith}
use native.Mathlib.Decide.{ℕ_discrete}
use lib.ListN.{get_or, set, replicate, length-replicate, get_or-replicate, length-set}
use lib.Seq.{get_or-set_same, get_or-set_other}
use Rattle.register_search.specs.Marks.{Marked, Telling, mark_of}

-- No folder has left a mark yet.
pub marked-none : (clients : List ℕ) → Marked clients (replicate 128 0) 0
marked-none clients =
    record {
      places = length-replicate {A = ℕ} 128 0;
      left = λ g h. absurd (not-suc-le-zero h);
      within = λ s h. rw (get_or-replicate {A = ℕ} 128 s 0 0 h) (omega arith);
    }

-- One folder more leaves its mark.
pub marked_more : (clients marks : List ℕ) (n : ℕ) → Marked clients marks n → Marked clients (set marks (mark_of (get_or clients n 0)) (n + 1)) (n + 1)
marked_more clients marks n t =
    record {
      places = length-set marks own (n + 1) ∙ t.places;
      left = λ g h. elim (ℕ_discrete (mark_of (get_or clients g 0)) own) [ yes e ↦ rw (e, new) (omega arith) | no d ↦ kept g h d ];
      within = λ s h. elim (ℕ_discrete s own) [ yes e ↦ rw (e, new) (omega arith) | no d ↦ rw (old s d) (omega (arith, t.within s h)) ];
    }
  where
    own : ℕ
    own = mark_of (get_or clients n 0)

    new : get_or (set marks own (n + 1)) own 0 ≡ n + 1
    new = get_or-set_same marks own (n + 1) 0 (omega (arith, t.places))

    old : (s : ℕ) → (s ≡ own → ⊥) → get_or (set marks own (n + 1)) s 0 ≡ get_or marks s 0
    old s d = get_or-set_other marks own s (n + 1) 0 d

    kept : (g : ℕ) → g < n + 1 → (mark_of (get_or clients g 0) ≡ own → ⊥) → 0 < get_or (set marks own (n + 1)) (mark_of (get_or clients g 0)) 0
    kept g h d =
        elim (ℕ_discrete g n) [
          | yes e ↦ absurd (d (rw e refl))
          | no other ↦ rw (old (mark_of (get_or clients g 0)) d) (t.left g (omega arith))
        ]

-- One that a folder of its client left is to be believed.
pub same-telling : (clients : List ℕ) (f mark : ℕ) → 0 < mark → get_or clients (mark - 1) 0 ≡ get_or clients f 0 → Telling clients f mark
same-telling clients f mark some same =
    record {
      none = λ z g h e. omega (arith, z);
      one = λ _ _. same;
    }
