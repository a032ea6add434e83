-- The name that the board shows for a folder (document 02, C-11).
use Rattle.std.specs.Prelude.{ℕ, cond, List, Option, Some, None, eqb}
use Rattle.vocabulary.specs.Those.{some}
use Rattle.names.specs.Lines.{line_for, line_span}
use Rattle.names.specs.declared.Span.{Span}
use Rattle.names.specs.declared.Name.{Name}
use Rattle.names.specs.declared.Name.TheVariants.{Client, House}
use Rattle.names.specs.declared.Stretch.{Stretch}

-- 'The name shown is the client's line if it has one that isn't empty, otherwise the house's line.'
unfoldable pub name_of : List ℕ → List ℕ → ℕ → List ℕ
name_of client house o = cond (some (line_for client o)) (line_for client o) (line_for house o)

-- A stretch of a text: 0, the text's number (0 for the client's, 1 for the house's), and where the name lies in it.
abbrev pub stretch_of : ℕ → Span → Stretch
stretch_of text span =
    record {
      number = 0;
      text = text;
      place = span.place;
      length = span.length;
    }

-- Of two texts, the client's and the house's, the one that a stretch is of.
abbrev pub text_of : {A : Type 0} → Stretch → A → A → A
text_of s client house = cond (eqb s.text 0) client house

-- '81, as an empty stretch.'
abbrev pub no_stretch : Stretch
no_stretch =
    record {
      number = 81;
      text = 0;
      place = 0;
      length = 0;
    }

-- 'The name comes back as the stretch of whichever text it was found in'; '81 if neither has one that isn't empty'.
unfoldable pub name_shown : List ℕ → List ℕ → ℕ → Stretch
name_shown client house o =
    cond (some (line_for client o)) (stretch_of 0 (line_span client o))
    (cond (some (line_for house o)) (stretch_of 1 (line_span house o)) no_stretch)

-- The number and the values of each answer.
abbrev pub name_answer : Option Name → Stretch
name_answer (Some (Client span)) = stretch_of 0 span
name_answer (Some (House span)) = stretch_of 1 span
name_answer None = no_stretch
