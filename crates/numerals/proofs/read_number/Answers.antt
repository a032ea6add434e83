-- `read_number` meets its contract: past the end there are no digits, and elsewhere the first six write what all of them do, a number or none.
use Rattle.std.proofs.Common.{rules, refl, sym, ◌≡◌, ◌∙◌, ◌≤◌, length, take, drop}
use Rattle.std.proofs.lemmas.List.{take_rest}
use lib.ListN.{drop_of_length-le}
use Rattle.numerals.specs.Numbers.{digits_of, number_at}
use Rattle.numerals.proofs.Digits.{first-six, six-some, six-none, number-none, number-found}
use Rattle.numerals.proofs.read_number.Goals as goal

pub returns-in_err-rest : goal.returns-in_err-rest
unfolding number_at digits_of
returns-in_err-rest c =
    let past : length c.args.text.now ≤ c.args.place = search rules in
    rw (c.from_residual.ensures, drop_of_length-le c.args.text.now past) refl

-- the digits are the first six at the place
pub returns-in_err-value : goal.returns-in_err-value
returns-in_err-value c =
    let rest : c.in_ok-rest.rest.now ≡ drop c.args.place c.args.text.now = search (rules, take_rest c.args.text.now c.args.place) in
    let six : c.digits_of-digits.result.now ≡ take 6 (digits_of (drop c.args.place c.args.text.now)) =
    rw (c.digits_of-digits.ensures, c.min.ensures, rest) (first-six (drop c.args.place c.args.text.now)) in
    rw c.from_residual-in_err-value.ensures
    (number-none c.args.text.now c.args.place (six-none (digits_of (drop c.args.place c.args.text.now)) (rw six at (sym c.number_of.ensures ∙ c.in_err-value.was))))

pub returns : goal.returns
returns c =
    let rest : c.in_ok-rest.rest.now ≡ drop c.args.place c.args.text.now = search (rules, take_rest c.args.text.now c.args.place) in
    let six : c.digits_of-digits.result.now ≡ take 6 (digits_of (drop c.args.place c.args.text.now)) =
    rw (c.digits_of-digits.ensures, c.min.ensures, rest) (first-six (drop c.args.place c.args.text.now)) in
    let told = sym c.number_of.ensures ∙ c.in_ok-value.was in
    let all = six ∙ six-some (digits_of (drop c.args.place c.args.text.now)) _ c.in_ok-value.value (rw six at told) in
    rw all (number-found c.args.text.now c.args.place c.in_ok-value.value (rw all at told))
