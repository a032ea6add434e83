-- The argument behind demand 3, over a bare notion of conflict: it knows of no class, matrix or log.
use Prim.Native.Nat.{ℕ}
use mathlib.Core.Path.{◌≡◌, refl, sym, ◌∙◌}
use mathlib.Core.Logic.{◌⊎◌, inl, inr, ⊎_elim}
use mathlib.Core.Bool.{Bool, true, false, not, ◌&&◌, or-true}
use mathlib.Core.List.{List}
use lib.Dec.{eqb}
use borrow.Author.Tests.{eqb-true, not-true}
use Rattle.vocabulary.specs.Those.{member}
use Rattle.vocabulary.proofs.Bools.{both, either, eqb-self}
use Rattle.policy.specs.Rules.{reads, writes}
use Rattle.policy.specs.Wall.{Wall, Own, Rights, joined, asked, after_grant, Held, Use, reading, writing, used, TwoHeld, Strayed, Broken, Breaks}

-- What the argument asks of a notion of conflict: no client is in conflict with itself, conflict goes both ways, and 0 is in
-- conflict with none.
pub record Lawful (w : Wall) : Type 0 where
  pub irreflexive : (c : ℕ) → w.conflict c c → ⊥
  pub symmetric : (c d : ℕ) → w.conflict c d → w.conflict d c
  pub real : (c d : ℕ) → w.conflict c d → c ≡ 0 → ⊥

-- Rights under which no use breaks the wall: what a person may read is free of conflict, and where a person may write a folder, every
-- unsanitised folder that the person may read has that folder's client.
pub record Clean (w : Wall) (k : Rights) : Type 0 where
  pub apart : (s f g : ℕ) → k.read s f ≡ true → k.read s g ≡ true → w.conflict (w.own f) (w.own g) → ⊥
  pub confined : (s o f : ℕ) → k.write s o ≡ true → k.read s f ≡ true → (w.own f ≡ 0 → ⊥) → w.own f ≡ w.own o

-- What is held keeps to the rights: a folder holds just its own client, and a person only clients of folders that this person may read.
pub record Contained (w : Wall) (k : Rights) (h : Held) : Type 0 where
  pub own-only : (f c : ℕ) → h.folder f c → Own w f c
  pub own_held : (f c : ℕ) → Own w f c → h.folder f c
  pub from-read : (s c : ℕ) → h.person s c → (f : ℕ) × (k.read s f ≡ true) × Own w f c

-- ---- safety

pub unbroken : (w : Wall) (k : Rights) (h : Held) → Clean w k → Contained w k h → Broken w h → ⊥
unbroken w k h clean kept = ⊎_elim two strayed
  where
    two : TwoHeld w h → ⊥
    two t =
        let a = kept.from-read t.person t.one t.holds-one in
        let b = kept.from-read t.person t.other t.holds-other in
        clean.apart t.person a.0 b.0 a.1 b.1 (rw (a.2.0, b.2.0) at t.in-conflict)

    strayed : Strayed w h → ⊥
    strayed t = t.not_own (kept.own-only t.folder t.client t.holds)

pub used-kept : (w : Wall) (k : Rights) (h : Held) (u : Use) → Clean w k → Contained w k h → Contained w k (used k u h)
unfolding used
used-kept w k h (reading s o) clean kept =
    record {
      own-only = kept.own-only;
      own_held = kept.own_held;
      from-read = λ t c. ⊎_elim (kept.from-read t c) (λ n. (o, rw n.0 n.1, kept.own-only o c n.2));
    }
used-kept w k h (writing s o) clean kept =
    record {
      own-only = λ f c. ⊎_elim (kept.own-only f c) (λ n. rw n.0 (carried c n.1 (kept.from-read s c n.2)));
      own_held = λ f c p. inl (kept.own_held f c p);
      from-read = kept.from-read;
    }
  where
    carried : (c : ℕ) → k.write s o ≡ true → (f : ℕ) × (k.read s f ≡ true) × Own w f c → Own w o c
    carried c may a =
        (a.2.0 ∙ clean.confined s o a.0 may a.1 (λ z. a.2.1 (a.2.0 ∙ z)), a.2.1)

-- More read rights leave what is held within the rights.
pub more-kept : (w : Wall) (k k' : Rights) (h : Held) → ((s f : ℕ) → k.read s f ≡ true → k'.read s f ≡ true) → Contained w k h → Contained w k' h
more-kept w k k' h more kept =
    record {
      own-only = kept.own-only;
      own_held = kept.own_held;
      from-read = λ s c p. let a = kept.from-read s c p in (a.0, more s a.0 a.1, a.2);
    }

-- ---- a grant

-- A grant to s for o that lists these folders as lost may be given: where it enters a read right, nothing readable is in conflict with o's
-- client, and every write right that it leaves is on a folder of o's client, unless o is sanitised; where it enters a write right,
-- every unsanitised folder that s may read has o's client.
pub record Grantable (w : Wall) (k : Rights) (s o kind : ℕ) (list : List ℕ) : Type 0 where
  pub no_rival : reads kind ≡ true → (f : ℕ) → k.read s f ≡ true → w.conflict (w.own f) (w.own o) → ⊥
  pub no-foreign : writes kind ≡ true → (f : ℕ) → k.read s f ≡ true → (w.own f ≡ 0 → ⊥) → w.own f ≡ w.own o
  pub none_left : reads kind ≡ true → (w.own o ≡ 0 → ⊥) → (f : ℕ) → k.write s f ≡ true → member f list ≡ false → w.own f ≡ w.own o

-- What an asked right says.
record Asked (s o t f : ℕ) (right : Bool) : Type 0 where
  person : t ≡ s
  folder : f ≡ o
  given : right ≡ true

asked-true : (s o t f : ℕ) (right : Bool) → (asked s o t f && right) ≡ true → Asked s o t f right
asked-true s o t f right e =
    let a = both (eqb t s && eqb f o) right e in
    let b = both (eqb t s) (eqb f o) a.0 in
    record {
      person = eqb-true t s b.0;
      folder = eqb-true f o b.1;
      given = a.1;
    }

-- A write right that a grant leaves.
record Left (k : Rights) (s t f : ℕ) (list : List ℕ) : Type 0 where
  stood : k.write t f ≡ true
  unlisted : t ≡ s → member f list ≡ false

left-true : (k : Rights) (s t f : ℕ) (list : List ℕ) → (k.write t f && not (eqb t s && member f list)) ≡ true → Left k s t f list
left-true k s t f list e =
    let a = both (k.write t f) (not (eqb t s && member f list)) e in
    record {
      stood = a.0;
      unlisted = λ i. rw (i, eqb-self s) at (not-true (eqb t s && member f list) a.1);
    }

module _ (k : Rights) (s o kind : ℕ) (list : List ℕ) where
  read-cases : (t f : ℕ) → (after_grant k s o kind list).read t f ≡ true → (k.read t f ≡ true) ⊎ Asked s o t f (reads kind)
  read-cases t f e =
      ⊎_elim inl (λ a. inr (asked-true s o t f (reads kind) a))
      (either (k.read t f) (asked s o t f && reads kind) e)

  write-cases : (t f : ℕ) → (after_grant k s o kind list).write t f ≡ true → Left k s t f list ⊎ Asked s o t f (writes kind)
  write-cases t f e =
      ⊎_elim (λ a. inl (left-true k s t f list a)) (λ a. inr (asked-true s o t f (writes kind) a))
      (either (k.write t f && not (eqb t s && member f list)) (asked s o t f && writes kind) e)

pub grant-clean : (w : Wall) (k : Rights) (s o kind : ℕ) (list : List ℕ) → Lawful w → Clean w k → Grantable w k s o kind list → Clean w (after_grant k s o kind list)
grant-clean w k s o kind list lawful clean may =
    record {
      apart = λ t f g p q. apart t f g (read-cases k s o kind list t f p) (read-cases k s o kind list t g q);
      confined = λ t f g p q. confined t f g (write-cases k s o kind list t f p) (read-cases k s o kind list t g q);
    }
  where
    apart : (t f g : ℕ) → (k.read t f ≡ true) ⊎ Asked s o t f (reads kind) → (k.read t g ≡ true) ⊎ Asked s o t g (reads kind) →
        w.conflict (w.own f) (w.own g) → ⊥
    apart t f g (inl a) (inl b) c = clean.apart t f g a b c
    apart t f g (inl a) (inr b) c = may.no_rival b.given f (rw b.person at a) (rw b.folder at c)
    apart t f g (inr a) (inl b) c =
        may.no_rival a.given g (rw a.person at b) (rw a.folder at (lawful.symmetric (w.own f) (w.own g) c))
    apart t f g (inr a) (inr b) c = lawful.irreflexive (w.own o) (rw (a.folder, b.folder) at c)

    confined : (t f g : ℕ) → Left k s t f list ⊎ Asked s o t f (writes kind) → (k.read t g ≡ true) ⊎ Asked s o t g (reads kind) →
        (w.own g ≡ 0 → ⊥) → w.own g ≡ w.own f
    confined t f g (inl a) (inl b) z = clean.confined t f g a.stood b z
    confined t f g (inl a) (inr b) z =
        rw b.folder
        (sym (may.none_left b.given (rw b.folder at z) f (rw b.person at a.stood) (a.unlisted b.person)))
    confined t f g (inr a) (inl b) z = rw a.folder (may.no-foreign a.given g (rw a.person at b) z)
    confined t f g (inr a) (inr b) z = rw (a.folder, b.folder)

-- ---- needful refusals

pub joined-read : (k : Rights) (s o kind t f : ℕ) → k.read t f ≡ true → (joined k s o kind).read t f ≡ true
joined-read k s o kind t f e = rw e

pub joined-write : (k : Rights) (s o kind t f : ℕ) → k.write t f ≡ true → (joined k s o kind).write t f ≡ true
joined-write k s o kind t f e = rw e

pub asked-read : (k : Rights) (s o kind : ℕ) → reads kind ≡ true → (joined k s o kind).read s o ≡ true
asked-read k s o kind e = rw (eqb-self s, eqb-self o, e, or-true)

pub asked-write : (k : Rights) (s o kind : ℕ) → writes kind ≡ true → (joined k s o kind).write s o ≡ true
asked-write k s o kind e = rw (eqb-self s, eqb-self o, e, or-true)

module _ (w : Wall) (k : Rights) (h : Held) (s : ℕ) (own_held : (f c : ℕ) → Own w f c → h.folder f c) where
  -- A person who may read two folders whose clients are in conflict can break the wall.
  pub meets : Lawful w → (f g : ℕ) → k.read s f ≡ true → k.read s g ≡ true → w.conflict (w.own f) (w.own g) → Breaks w k h s
  unfolding used
  meets lawful f g a b c =
      record {
        first = f;
        second = g;
        first-right = a;
        breaks =
            inl (
              b,
              inl
                  (record {
                    person = s;
                    one = w.own f;
                    other = w.own g;
                    holds-one = inl (inr (refl, a, own_held f (w.own f) (refl, lawful.real (w.own f) (w.own g) c)));
                    holds-other = inr (refl, b, own_held g (w.own g) (refl, lawful.real (w.own g) (w.own f) (lawful.symmetric (w.own f) (w.own g) c)));
                    in-conflict = c;
                  }),
            );
      }

  -- A person who may read a folder of one client and write a folder of another, or a sanitised one, can break the wall.
  pub strays : (f g : ℕ) → k.read s f ≡ true → k.write s g ≡ true → (w.own f ≡ 0 → ⊥) → (w.own f ≡ w.own g → ⊥) → Breaks w k h s
  unfolding used
  strays f g a b z d =
      record {
        first = f;
        second = g;
        first-right = a;
        breaks =
            inr (
              b,
              inr
                  (record {
                    folder = g;
                    client = w.own f;
                    holds = inr (refl, b, inr (refl, a, own_held f (w.own f) (refl, z)));
                    not_own = λ o. d o.0;
                  }),
            );
      }
