-- Laws of the passes over the pairs: what is listed of each pair, and that after all passes the marked clients are those in conflict.
use Prim.Native.Nat.{ℕ, ◌+◌, ◌≤◌, ◌<◌}
use mathlib.Core.Path.{◌≡◌, refl, ap, ◌∙◌}
use mathlib.Core.Bool.{Bool, true, false, ◌&&◌, ◌||◌, and-true, and-false, or-false, or_self}
use mathlib.Core.List.{List, []}
use native.Mathlib.Omega.{arith}
use native.Mathlib.Decide.{ℕ_discrete}
use lib.Dec.{eqb, leb}
use lib.ListN.{length, get_or, set, replicate}
use lib.Seq.{get_or-set_same, get_or-set_other}
use borrow.Author.Tests.{eqb-true, leb-true}
use Rattle.vocabulary.specs.Those.{those, some}
use Rattle.vocabulary.proofs.Those.{those-agree}
use Rattle.vocabulary.proofs.Bools.{both}
use Rattle.register.specs.Register.{Register, register_by, pairs, client_of}
use Rattle.policy.specs.Conflict.{pair_names, paired}
use Rattle.register_pairs.specs.Pair.{names_client, other_client, pairs_fit}
use Rattle.row_marks.specs.declared.client_set.ClientSet.{ClientSet}
use Rattle.row_marks.specs.declared.fitting.ClientRow.{ClientRow}
use Rattle.row_marks.specs.declared.fitting.FewPairs.{FewPairs}
use Rattle.row_marks.specs.declared.marking.Listing.{Listing}
use Rattle.row_marks.specs.Marks.{marked, Listed, wanted_at, opponent, fitted}
use Rattle.row_marks.specs.Walk.{cells_of, readable_marked}
use Rattle.row_marks.specs.Opposed.{opposed, opposers, first_opposer}
use Rattle.row_marks.proofs.Marks.{replicate-all}
use Rattle.row_marks.proofs.Quarters.{some-those-upto}

-- A list that is filled from its start has one entry more.
filled : {A : Type 0} (f : ℕ → A) (l : List A) (d : A) (n : ℕ) → n < length l → ((i : ℕ) → i < n → get_or l i d ≡ f i) → (i : ℕ) → i < n + 1 → get_or (set l n (f n)) i d ≡ f i
filled f l d n room h i g =
    elim (ℕ_discrete i n) [
      | yes e ↦ rw (e, get_or-set_same l n (f n) d room)
      | no d' ↦ get_or-set_other l n i (f n) d d' ∙ h i (omega arith)
    ]

-- Of a pair that names c, the other client is the one that it names beside c; one that does not names nobody beside it.
pub named-between : (a b c x : ℕ) → (names_client a b c && eqb (other_client a b c) x) ≡ ((eqb a x && eqb b c) || (eqb a c && eqb b x))
named-between a b c x = at (eqb a c) (eqb b c) refl refl
  where
    at : (s t : Bool) → eqb a c ≡ s → eqb b c ≡ t → (names_client a b c && eqb (other_client a b c) x) ≡ ((eqb a x && eqb b c) || (eqb a c && eqb b x))
    at true true e f = rw (e, f, and-true, eqb-true a c e, eqb-true b c f, or_self)
    at true false e f = rw (e, f, and-false)
    at false true e f = rw (e, f, and-true, or-false)
    at false false e f = rw (e, f, and-false)

module _ (p : FewPairs) (c : ℕ) where
  abbrev first : ℕ → ℕ
  first i = get_or p.lists.firsts.now i 0

  abbrev second : ℕ → ℕ
  second i = get_or p.lists.seconds.now i 0

  -- No pair is listed yet.
  pub listed-none : Listed p c (record { others = replicate 256 0; wanted = replicate 256 false }) 0
  listed-none =
      record {
        clients = λ i h. absurd (omega arith);
        flags = λ i h. absurd (omega arith);
        rest = λ i h. replicate-all {A = Bool} 256 i false;
      }

  -- One pair more is listed.
  pub listed_more : (list : Listing) (n : ℕ) → n < length list.others → n < length list.wanted → Listed p c list n →
      Listed p c (record { others = set list.others n (other_client (first n) (second n) c); wanted = set list.wanted n (names_client (first n) (second n) c) }) (n + 1)
  listed_more list n room room2 l =
      record {
        clients = filled (λ i. other_client (first i) (second i) c) list.others 0 n room l.clients;
        flags = filled (λ i. names_client (first i) (second i) c) list.wanted false n room2 l.flags;
        rest = λ i h. get_or-set_other list.wanted n i _ false (λ e. omega arith) ∙ l.rest i (omega arith);
      }

  -- Where all pairs are listed, the wanted clients are those in conflict.
  pub listed-wanted : (list : Listing) (x : ℕ) → Listed p c list (length p.lists.firsts.now) → some (those (wanted_at list x) 256) ≡ opponent p c x
  unfolding paired
  listed-wanted list x l =
      let few = p.few in
      some-those-upto (wanted_at list x) (length p.lists.firsts.now) 256 (omega arith) unwanted
      ∙ ap some (those-agree (wanted_at list x) (pair_names (register_by 0 [] [] true p.lists.firsts.now p.lists.seconds.now) x c) (length p.lists.firsts.now) named)
    where
      unwanted : (k : ℕ) → length p.lists.firsts.now ≤ k → wanted_at list x k ≡ false
      unwanted k h = rw (l.rest k h)

      named : (k : ℕ) → k < length p.lists.firsts.now → wanted_at list x k ≡ pair_names (register_by 0 [] [] true p.lists.firsts.now p.lists.seconds.now) x c k
      named k h = rw (l.clients k h, l.flags k h) (named-between (first k) (second k) c x)

-- What lists that fit have.
pub fitted-lengths : (r : Register) (row : List ℕ) → fitted r row ≡ true → (length r.clients ≡ length row) × ((pairs r ≡ length r.seconds) × (pairs r ≤ 256))
unfolding pairs_fit
fitted-lengths r row e =
    let whole = both (eqb (length r.clients) (length row)) (eqb (pairs r) (length r.seconds) && leb (pairs r) 256) e in
    let sizes = both (eqb (pairs r) (length r.seconds)) (leb (pairs r) 256) whole.1 in
    (eqb-true (length r.clients) (length row) whole.0, (eqb-true (pairs r) (length r.seconds) sizes.0, leb-true (pairs r) 256 sizes.1))

-- The first folder that is looked for, where the lists fit: the marked clients are those in conflict.
pub first-fitted :
    (r : Register) (row : List ℕ) (beside : ClientRow) (set : ClientSet) (c : ℕ) → cells_of beside ≡ row → beside.clients.now ≡ r.clients → fitted r row ≡ true →
    ((x : ℕ) → marked set x ≡ paired (register_by 0 [] [] true r.firsts r.seconds) x c) →
    get_or (those (readable_marked beside set) (length (cells_of beside))) 0 (length (cells_of beside)) ≡ first_opposer r row c
unfolding opposers paired
first-fitted r row beside set c cells clients e m =
    rw (cells, e) (ap (λ l. get_or l 0 (length row)) (those-agree (readable_marked beside set) (opposed r row c) (length row) (λ k h. sought k)))
  where
    sought : (k : ℕ) → readable_marked beside set k ≡ opposed r row c k
    sought k = rw (cells, clients, m (client_of r k))

-- Where they do not, it is the row's length.
pub first-unfitted : (r : Register) (row : List ℕ) (c : ℕ) → fitted r row ≡ false → length row ≡ first_opposer r row c
unfolding opposers
first-unfitted r row c e = rw e
