-- What a match on a line learns: which line it is, or which it is none of.
use Rattle.std.proofs.Common.{ℕ, ◌≡◌, refl, sym, ap, true, false, List, [], Option, Some, None}
use Rattle.desk_lines.specs.declared.Line.TheVariants as line
use Rattle.desk_lines.specs.declared.Line as declared
use Rattle.desk_opening.specs.Folders.{is_request, Filed, filed, filed_on}
use Rattle.desk_opening.specs.Opened.{closed_with, first_on}
use Rattle.desk_print.specs.Lines.{bad_line}
use Rattle.desk_lines.specs.Lines.{Line, logins_line, folder_line, request_line, ill_line, line_of}
use Rattle.ids.specs.declared.Label.{Label}
use Rattle.ids.specs.Label.{label_of}
use Rattle.std.proofs.lemmas.Option.{none-some, cond_some}
use Rattle.desk_opening.specs.Heading.{folder_of}
use Rattle.ids.specs.declared.Request as ids

pub no-request : (x : Option (declared.Line × ℕ)) → ((asked : ids.Request) (next : ℕ) → x ≡ Some (line.Request asked, next) → ⊥) → is_request (line_of x) ≡ false
no-request (Some (line.Logins n, next)) other = refl
no-request (Some (line.Folder label, next)) other = refl
no-request (Some (line.Request asked, next)) other = absurd (other asked next refl)
no-request None other = refl

pub no-folder : (line : Line) (place : ℕ) (more : ℕ → Filed) → folder_of line ≡ None → filed_on line place more ≡ filed [] [] place
no-folder (folder_line class client next) place more e = absurd (none-some _ (sym e))
no-folder (logins_line n next) place more e = refl
no-folder (request_line kind login o next) place more e = refl
no-folder ill_line place more e = refl

pub a-folder : (line : Line) (label : Label) (next : ℕ) → folder_of line ≡ Some (label, next) → line ≡ folder_line label.class.0 label.client.0 next
a-folder (folder_line class client after) label next e = ap (λ (x : Label × ℕ). folder_line x.0.class.0 x.0.client.0 x.1) (cond_some true (label_of class client, after) (label, next) e).1
a-folder (logins_line n after) label next e = absurd (none-some _ e)
a-folder (request_line kind login o after) label next e = absurd (none-some _ e)
a-folder ill_line label next e = absurd (none-some _ e)

pub no-logins : (x : Option (declared.Line × ℕ)) (text : List ℕ) → ((n next : ℕ) → x ≡ Some (line.Logins n, next) → ⊥) → first_on (line_of x) text ≡ closed_with (bad_line 1)
no-logins (Some (line.Logins n, next)) text other = absurd (other n next refl)
no-logins (Some (line.Folder label, next)) text other = refl
no-logins (Some (line.Request asked, next)) text other = refl
no-logins None text other = refl
