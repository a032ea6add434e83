-- `beyond_in_halves` meets its contract: what is gathered says whether an entry that either half has passed is P or more, and the two halves have all.
use Rattle.std.proofs.Common.{arith, ℕ, ◌+◌, ◌-◌, ◌≡◌, ◌∙◌, length, get_or, refl, leb, sym}
use Rattle.vocabulary.specs.Those.{those}
use Rattle.vocabulary.proofs.Chains.{any-those}
use Rattle.vocabulary.proofs.Those.{some-those-suc, some-halves}
use Rattle.person_list.specs.PersonList.{nobody, person_of}
use Rattle.person_list.proofs.PersonList.{person-entry, gathered-both}
use Rattle.person_list.proofs.beyond_in_halves.Goals as goal

pub loop-s-init : goal.loop-s-init
unfolding those
loop-s-init g c = refl

pub loop-s-preserved : goal.loop-s-preserved
loop-s-preserved g c =
    let a = c.args in
    let list = a.persons.now in
    let s = c.loop-s.s in
    let second = length list - g.row.HALF in
    let front = person-entry list s (omega arith) in
    let back = person-entry list (second + s) (omega arith) in
    rw (some-those-suc, front, back, ← c.loop-s.invariant, c.saturating_sub-front.ensures, c.saturating_sub-back.ensures)
    (gathered-both c.loop-s.gathered (get_or list s 0) (get_or list (second + s) 0) a.logins c.requires.0)

pub returns : goal.returns
returns g c =
    let a = c.args in
    let list = a.persons.now in
    let half = g.row.HALF in
    let test = λ (s : ℕ). leb a.logins (person_of list s) in
    let whole : c.loop-s.s ≡ half = omega arith in
    c.loop-s.invariant
    ∙ rw whole (some-halves test half (length list) c.requires.1 c.requires.2)
    ∙ sym (any-those (λ p. leb a.logins p) test list nobody (λ s h. refl))
