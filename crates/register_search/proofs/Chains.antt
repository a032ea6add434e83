-- Laws of the table by which refusal 3 is sought.
use Prim.Native.Nat.{ℕ, zero, suc, ◌+◌, ◌-◌, ◌≤◌, ◌<◌}
use mathlib.Core.Path.{◌≡◌, refl, ap, sym, ◌∙◌}
use mathlib.Core.Bool.{Bool, true, false, cond, false≢true}
use mathlib.Core.List.{List}
use mathlib.Core.Logic.{⊎_elim}
use native.Mathlib.Numerals.{add-one}
use native.Mathlib.Nat.{not-suc-le-zero}
use native.Mathlib.Omega.{arith}
use native.Mathlib.Decide.{ℕ_discrete}
use lib.ListN.{length, get_or, set, replicate, length-replicate, get_or-replicate, length-set}
use lib.Seq.{get_or-set_same, get_or-set_other}
use borrow.Author.Tests.{eq-eqb, ne_eqb, eqb-true}
use Rattle.vocabulary.proofs.Those.{below_suc}
use Rattle.register_search.specs.Chains.{past_last, of_client, slot_of, in_slot, Chained}

pub past_last-suc : (p : ℕ → Bool) (n : ℕ) → past_last p (n + 1) ≡ cond (p n) (n + 1) (past_last p n)
unfolding past_last
past_last-suc p n = rw add-one

past_last-skip : (p : ℕ → Bool) (n : ℕ) → p n ≡ false → past_last p (suc n) ≡ past_last p n
unfolding past_last
past_last-skip p n e = rw e

past_last-take : (p : ℕ → Bool) (n : ℕ) → p n ≡ true → past_last p (suc n) ≡ suc n
unfolding past_last
past_last-take p n e = rw e

pub past_last-zero : (p : ℕ → Bool) → past_last p 0 ≡ 0
unfolding past_last
past_last-zero p = refl

pub past_last-le : (p : ℕ → Bool) (n : ℕ) → past_last p n ≤ n
unfolding past_last
past_last-le p zero = omega arith
past_last-le p (suc n) = at (p n) (past_last-le p n)
  where
    at : {m : ℕ} (b : Bool) → m ≤ n → cond b (suc n) m ≤ suc n
    at true h = omega arith
    at false h = omega arith

-- The last number that passes does pass.
pub past_last-holds : (p : ℕ → Bool) (n f : ℕ) → past_last p n ≡ suc f → p f ≡ true
unfolding past_last
past_last-holds p zero f e = absurd (omega arith)
past_last-holds p (suc n) f e = at (p n) refl (past_last-holds p n f) e
  where
    at : {m : ℕ} (b : Bool) → p n ≡ b → (m ≡ suc f → p f ≡ true) → cond b (suc n) m ≡ suc f → p f ≡ true
    at true h lower e = let same : n ≡ f = omega arith in rw (← same) h
    at false h lower e = lower e

-- What lies past the last that passes does not pass.
pub past_last-none : (p : ℕ → Bool) (n k : ℕ) → past_last p n ≤ k → k < n → p k ≡ false
unfolding past_last
past_last-none p zero k a h = absurd (not-suc-le-zero h)
past_last-none p (suc n) k a h = at (p n) refl (past_last-none p n k) a
  where
    at : {m : ℕ} (b : Bool) → p n ≡ b → (m ≤ k → k < n → p k ≡ false) → cond b (suc n) m ≤ k → p k ≡ false
    at true e lower a = absurd (omega arith)
    at false e lower a = ⊎_elim (λ below. lower a below) (λ same. rw same e) (below_suc h)

-- The last that passes a test is not past the last that passes a wider test.
pub past_last-within : (p q : ℕ → Bool) → ((k : ℕ) → p k ≡ false → q k ≡ false) → (n : ℕ) → past_last q (past_last p n) ≡ past_last q n
unfolding past_last
past_last-within p q w zero = refl
past_last-within p q w (suc n) = at (past_last p n) (p n) refl (past_last-within p q w n)
  where
    at : (m : ℕ) (b : Bool) → p n ≡ b → past_last q m ≡ past_last q n → past_last q (cond b (suc n) m) ≡ past_last q (suc n)
    at m true e lower = refl
    at m false e lower = lower ∙ sym (past_last-skip q n (w n e))

-- A folder of a client is in the client's slot.
pub of_client-in_slot : (clients : List ℕ) (c k : ℕ) → in_slot clients (slot_of c) k ≡ false → of_client clients c k ≡ false
of_client-in_slot clients c k e =
    ne_eqb (get_or clients k 0) c (λ same. absurd (false≢true (sym e ∙ eq-eqb (slot_of (get_or clients k 0)) (slot_of c) (ap slot_of same))))

get_d-zeros : (n i : ℕ) → get_or {A = ℕ} (replicate n 0) i 0 ≡ 0
get_d-zeros zero i = refl
get_d-zeros (suc n) zero = refl
get_d-zeros (suc n) (suc i) = get_d-zeros n i

-- The table of no folder.
pub chained-none : (clients : List ℕ) → Chained clients (replicate 2048 0) (replicate 512 0) 0
chained-none clients =
    record {
      slots = length-replicate {A = ℕ} 2048 0;
      places = length-replicate {A = ℕ} 512 0;
      at_head = λ s h. rw (get_or-replicate {A = ℕ} 2048 s 0 0 h, past_last-zero);
      fresh = λ g h. get_d-zeros 512 g;
      at_next = λ g h. absurd (not-suc-le-zero h);
    }

-- One folder more: it heads its slot, and what headed the slot comes next.
pub chained_more :
    (clients heads nexts : List ℕ) (n : ℕ) → n < 512 → Chained clients heads nexts n →
    Chained clients (set heads (slot_of (get_or clients n 0)) (n + 1)) (set nexts n (get_or heads (slot_of (get_or clients n 0)) 0)) (n + 1)
chained_more clients heads nexts n h t =
    record {
      slots = length-set heads (slot_of (get_or clients n 0)) (n + 1) ∙ t.slots;
      places = length-set nexts n (get_or heads (slot_of (get_or clients n 0)) 0) ∙ t.places;
      at_head = λ s h. elim (ℕ_discrete s (slot_of (get_or clients n 0))) [ yes e ↦ own s e | no d ↦ other s h d ];
      fresh = λ g h. get_or-set_other nexts n g (get_or heads (slot_of (get_or clients n 0)) 0) 0 (λ e. absurd (omega arith)) ∙ t.fresh g (omega arith);
      at_next = λ g h. elim (ℕ_discrete g n) [ yes e ↦ last g e | no d ↦ passed g (omega arith) d ];
    }
  where
    fits : slot_of (get_or clients n 0) < length heads
    fits = omega (arith, t.slots)

    room : n < length nexts
    room = omega (arith, t.places)

    own : (s : ℕ) → s ≡ slot_of (get_or clients n 0) → get_or (set heads (slot_of (get_or clients n 0)) (n + 1)) s 0 ≡ past_last (in_slot clients s) (n + 1)
    own s e = rw (past_last-suc, eq-eqb _ _ (sym e), e, get_or-set_same heads (slot_of (get_or clients n 0)) (n + 1) 0 fits)

    other : (s : ℕ) → s < 2048 → (s ≡ slot_of (get_or clients n 0) → ⊥) → get_or (set heads (slot_of (get_or clients n 0)) (n + 1)) s 0 ≡ past_last (in_slot clients s) (n + 1)
    other s h d = rw (past_last-suc, ne_eqb _ _ (λ e. d (sym e)), get_or-set_other heads (slot_of (get_or clients n 0)) s (n + 1) 0 d) (t.at_head s h)

    last : (g : ℕ) → g ≡ n → get_or (set nexts n (get_or heads (slot_of (get_or clients n 0)) 0)) g 0 ≡ past_last (in_slot clients (slot_of (get_or clients g 0))) g
    last g e = rw (e, get_or-set_same nexts n (get_or heads (slot_of (get_or clients n 0)) 0) 0 room) (t.at_head (slot_of (get_or clients n 0)) (omega arith))

    passed : (g : ℕ) → g < n + 1 → (g ≡ n → ⊥) → get_or (set nexts n (get_or heads (slot_of (get_or clients n 0)) 0)) g 0 ≡ past_last (in_slot clients (slot_of (get_or clients g 0))) g
    passed g h d = rw (get_or-set_other nexts n g (get_or heads (slot_of (get_or clients n 0)) 0) 0 d) (t.at_next g (omega arith))

-- A walk for the last folder of client c below f has come to `past`: what it has passed is not of this client, and the folder
-- before `past` is in the client's slot.
pub record Walking (clients : List ℕ) (c f past : ℕ) : Type 0 where
  pub within : past ≤ f
  pub same : past_last (of_client clients c) past ≡ past_last (of_client clients c) f
  pub slot : (g : ℕ) → past ≡ suc g → slot_of (get_or clients g 0) ≡ slot_of c

module _ (clients : List ℕ) (c f : ℕ) where
  walk_from : (m : ℕ) → m ≤ f → past_last (of_client clients c) m ≡ past_last (of_client clients c) f → Walking clients c f (past_last (in_slot clients (slot_of c)) m)
  walk_from m h e =
      record {
        within = omega (arith, past_last-le (in_slot clients (slot_of c)) m);
        same = past_last-within (in_slot clients (slot_of c)) (of_client clients c) (of_client-in_slot clients c) m ∙ e;
        slot = λ g at. eqb-true (slot_of (get_or clients g 0)) (slot_of c) (past_last-holds (in_slot clients (slot_of c)) m g at);
      }

  pub walk_start : (heads nexts : List ℕ) → Chained clients heads nexts f → Walking clients c f (get_or heads (slot_of c) 0)
  walk_start heads nexts t = rw (t.at_head (slot_of c) (omega arith)) (walk_from f (omega arith) refl)

  pub walk-next :
      (heads nexts : List ℕ) → Chained clients heads nexts f → (past : ℕ) → Walking clients c f past → 0 < past →
      of_client clients c (past - 1) ≡ false → Walking clients c f (get_or nexts (past - 1) 0)
  walk-next heads nexts t zero w h e = absurd (not-suc-le-zero h)
  walk-next heads nexts t (suc g) w h e =
      let one_less : suc g - 1 ≡ g = omega arith in
      let below : g < f = omega (arith, w.within) in
      let not-of : of_client clients c g ≡ false = rw one_less at e in
      rw (one_less, t.at_next g below, w.slot g refl)
      (walk_from g (omega arith) (sym (past_last-skip (of_client clients c) g not-of) ∙ w.same))

  pub walk-found : (past : ℕ) → Walking clients c f past → 0 < past → of_client clients c (past - 1) ≡ true → past ≡ past_last (of_client clients c) f
  walk-found zero w h e = absurd (not-suc-le-zero h)
  walk-found (suc g) w h e =
      let one_less : suc g - 1 ≡ g = omega arith in
      let of : of_client clients c g ≡ true = rw one_less at e in
      sym (past_last-take (of_client clients c) g of) ∙ w.same

  pub walk_end : (past : ℕ) → Walking clients c f past → past ≤ 0 → past ≡ past_last (of_client clients c) f
  walk_end zero w h = sym (past_last-zero (of_client clients c)) ∙ w.same
  walk_end (suc g) w h = absurd (not-suc-le-zero h)

  -- A walk goes down.
  pub walk-falls : (heads nexts : List ℕ) → Chained clients heads nexts f → (past : ℕ) → Walking clients c f past → 0 < past → get_or nexts (past - 1) 0 < past
  walk-falls heads nexts t past w h =
      let below : past - 1 < f = omega (arith, w.within) in
      rw (t.at_next (past - 1) below)
      (omega (arith, past_last-le (in_slot clients (slot_of (get_or clients (past - 1) 0))) (past - 1)))
