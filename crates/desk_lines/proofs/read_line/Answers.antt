-- `read_line` meets its contract: one return for each letter; past the end there is none.
use Rattle.std.proofs.Common.{rules, refl, sym, ◌≡◌, ◌≤◌, ◌∙◌, length}
use Rattle.vocabulary.specs.Parsed.{◌>>=◌}
use Rattle.numerals.specs.Numbers.{byte_at}
use Rattle.numerals.proofs.Digits.{byte-within}
use Rattle.desk_lines.specs.Lines.{folder_line, request_line, single_at}
use Rattle.desk_lines.proofs.Onward.{line-past}
use Rattle.desk_lines.proofs.Letters.{line-logins, line-folder, line-none, line-request}
use Rattle.desk_lines.proofs.read_line.Goals as goal

pub returns-in_err-letter : goal.returns-in_err-letter
returns-in_err-letter c =
    let past : length c.args.text.now ≤ c.args.place = search rules in
    rw (c.from_residual.ensures, line-past c.args.text.now c.args.place past) refl

pub returns-in_err-n : goal.returns-in_err-n
unfolding single_at ◌>>=◌
returns-in_err-n c =
    let letter : byte_at c.args.text.now c.args.place ≡ 80 = search (rules, byte-within c.args.text.now c.args.place) in
    rw (c.from_residual-in_err-n.ensures, line-logins c.args.text.now c.args.place letter, ← c.read_last.ensures, c.in_err-n.was) refl

pub returns-then-letter-eq80 : goal.returns-then-letter-eq80
unfolding single_at ◌>>=◌
returns-then-letter-eq80 c =
    let letter : byte_at c.args.text.now c.args.place ≡ 80 = search (rules, byte-within c.args.text.now c.args.place) in
    rw (line-logins c.args.text.now c.args.place letter, ← c.read_last.ensures, c.in_ok-n.was) refl

pub returns-in_err-class : goal.returns-in_err-class
returns-in_err-class c =
    let letter : byte_at c.args.text.now c.args.place ≡ 70 = search (rules, byte-within c.args.text.now c.args.place) in
    rw (c.from_residual-in_err-class.ensures, line-folder c.args.text.now c.args.place letter, ← c.read_pair.ensures folder_line, c.in_err-class.was) refl

pub returns-then-letter-eq70 : goal.returns-then-letter-eq70
returns-then-letter-eq70 c =
    let letter : byte_at c.args.text.now c.args.place ≡ 70 = search (rules, byte-within c.args.text.now c.args.place) in
    rw (line-folder c.args.text.now c.args.place letter, ← c.read_pair.ensures folder_line, c.in_ok-class.was, c.new-label.ensures) refl

pub returns-in_err-kind : goal.returns-in_err-kind
returns-in_err-kind c =
    let text = c.args.text.now in
    let place = c.args.place in
    let letter : c.in_ok-letter.field-0.now ≡ byte_at text place = search (rules, byte-within text place) in
    rw (c.from_residual-in_err-kind.ensures, line-none text place (rw letter at c.if-letter-eq80.false) (rw letter at c.if-letter-eq70.false) (rw letter at (sym c.kind_of.ensures ∙ c.in_err-kind.was))) refl

pub returns-in_err-login : goal.returns-in_err-login
returns-in_err-login c =
    let text = c.args.text.now in
    let place = c.args.place in
    let letter : c.in_ok-letter.field-0.now ≡ byte_at text place = search (rules, byte-within text place) in
    let kind = c.in_ok-kind.kind in
    rw (c.from_residual-in_err-login.ensures, line-request text place (rw letter at c.if-letter-eq80.false) (rw letter at c.if-letter-eq70.false) kind (rw letter at (sym c.kind_of.ensures ∙ c.in_ok-kind.was)), ← c.read_pair-2.ensures (request_line kind), c.in_err-login.was) refl

pub returns : goal.returns
returns c =
    let text = c.args.text.now in
    let place = c.args.place in
    let letter : c.in_ok-letter.field-0.now ≡ byte_at text place = search (rules, byte-within text place) in
    let kind = c.in_ok-kind.kind in
    rw (line-request text place (rw letter at c.if-letter-eq80.false) (rw letter at c.if-letter-eq70.false) kind (rw letter at (sym c.kind_of.ensures ∙ c.in_ok-kind.was)), ← c.read_pair-2.ensures (request_line kind), c.in_ok-login.was) refl
