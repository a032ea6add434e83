-- `own_numbers` meets its contract: the list that has each place's number there is the list of the numbers.
use Rattle.std.proofs.Common.{rules, arith, ℕ, ◌<◌, ◌≡◌, ◌∙◌, get_or, sym}
use Rattle.std.proofs.lemmas.List.{ext_get_or}
use Rattle.person_list.specs.PersonList.{own_numbers, nobody}
use Rattle.person_list.proofs.PersonList.{own-length, own-entry}
use Rattle.person_list.proofs.own_numbers.Goals as goal

pub returns : goal.returns
returns c =
    let made = c.from_fn.ensures.items in
    let each : (i : ℕ) → i < 128 → get_or c.from_fn.result i nobody ≡ i = λ i h. let call = made.at i nobody h in search rules in
    ext_get_or nobody c.from_fn.result (own_numbers 128) (made.long ∙ sym (own-length 128))
    (λ i h. let inside : i < 128 = omega (arith, made.long, h) in each i inside ∙ sym (own-entry 128 i inside))
