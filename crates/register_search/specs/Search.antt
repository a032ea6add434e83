-- The search for refusal 3: the table's row 3 alone (document 01, 'The register'). Lists of any lengths may be given.
use Rattle.std.specs.Prelude.{Bool, cond, ◌&&◌, [], ◌∷◌, length, leb, eqb, Option, None, Some}
use Rattle.vocabulary.specs.Answer.{Answer, answer, judge}
use Rattle.register.specs.Register.{Register, folders, two_classes}
use Rattle.ids.specs.declared.FolderNo.{FolderNo}

-- Only lists of one length, with at most 512 folders, are searched: row 1 refuses others.
abbrev pub searched : Register → Bool
searched r = leb (folders r) 512 && eqb (folders r) (length r.clients)

-- What row 3 says of lists that are searched; 0 of others.
unfoldable pub search_answer : Register → Answer
search_answer r = judge (cond (searched r) (two_classes r ∷ []) []) (answer 0 [])

-- The search's answers, by document 01's numbers.
abbrev pub clash_answer : Option (FolderNo × FolderNo) → Answer
clash_answer None = answer 0 []
clash_answer (Some (f, g)) = answer 3 (f.0 ∷ g.0 ∷ [])
