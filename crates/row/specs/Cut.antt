-- Internal: the rules cut as the code is cut, on the places of a row. No rule of document 01 stands here.
use Rattle.std.specs.Prelude.{ℕ, Bool, true, ◌≡◌, ◌&&◌, List, [], ◌∷◌, Option, Some, None, Result, Ok, Err, eqb, length}
use denote.Triple.Both.{Both}
use Rattle.vocabulary.specs.Answer.{Answer, answer, check, judge}
use Rattle.vocabulary.specs.Those.{those, some, smallest}
use Rattle.vocabulary.specs.Place.{row_at}
use Rattle.ids.specs.declared.FolderNo.{FolderNo}
use Rattle.ids.specs.declared.Label.{Label}
use Rattle.register.specs.Register.{register_by}
use Rattle.register.specs.declared.Pairs.{Pairs}
use Rattle.policy.specs.Rules.{cell, writes}
use Rattle.response.specs.declared.WallRefusal.{WallRefusal}
use Rattle.response.specs.Response.{wall_refusal_answer}
use Rattle.row_labels.specs.Fitting.{label_at}
use Rattle.row_marks.specs.Opposed.{opposers}
use Rattle.row_labels.specs.declared.labelled.LabelledRow.{LabelledRow}

-- What a search looks for: a test of a folder's cell and label, beside the label asked for; and that a function's results tell it.
abbrev pub Test : Type 0
Test = ℕ → Label → Label → Bool

abbrev pub Tells : (ℕ → Label → Label → Bool → Type 0) → Test → Type 0
Tells gives p = (c : ℕ) (f o : Label) (r : Bool) → gives c f o r → r ≡ p c f o

-- The folders that pass it.
abbrev pub passes_at : Test → List ℕ → List ℕ → List ℕ → Label → ℕ → Bool
passes_at p row classes clients o f = p (cell row f) (label_at classes clients f) o

abbrev pub all_of : Test → List ℕ → List ℕ → List ℕ → Label → List ℕ
all_of p row classes clients o = those (passes_at p row classes clients o) (length classes)

-- The same of a row that is lent.
abbrev pub passes_in : {X : Type 0} → Test → Both LabelledRow X → Label → ℕ → Bool
passes_in p l o =
    let classes = l.entry.labels.classes.now in
    passes_at p (row_at l.entry.row.matrix.now l.entry.row.start (length classes)) classes l.entry.labels.clients.now o

abbrev pub all_in : {X : Type 0} → Test → Both LabelledRow X → Label → List ℕ
all_in p l o = those (passes_in p l o) (length l.entry.labels.classes.now)

-- The rivals by pairs of a row that is lent.
abbrev pub opposers_in : {X Y : Type 0} → Both LabelledRow X → Both Pairs Y → Label → List ℕ
opposers_in l pairs o =
    let labels = l.entry.labels in
    opposers (register_by 0 [] labels.clients.now true pairs.entry.firsts.now pairs.entry.seconds.now) (row_at l.entry.row.matrix.now l.entry.row.start (length labels.classes.now)) o.client.0

-- The first of the folders found, if any is.
abbrev pub first_found : List ℕ → Option FolderNo
first_found [] = None
first_found (f ∷ fs) = Some (record { 0 = f })

-- The wall's answer by what is found: the rivals, the foreign folders and those at stake.
unfoldable pub wall_by : (rivals foreigners stakes : List ℕ) → (kind : ℕ) → Answer
wall_by rivals foreigners stakes kind =
    judge (check (some rivals) 20 (smallest rivals ∷ [])
    ∷ check (writes kind && some foreigners) 21 (smallest foreigners ∷ [])
    ∷ check (eqb kind 2 && some stakes) 22 (smallest stakes ∷ [])
    ∷ []) (answer 0 (0 ∷ []))

abbrev pub wall_answered : {A : Type 0} → Result A WallRefusal → Answer
wall_answered (Ok granted) = answer 0 (0 ∷ [])
wall_answered (Err refusal) = wall_refusal_answer refusal
