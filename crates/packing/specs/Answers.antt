-- Document 01's number, and what it carries, for each answer of packing.
use Rattle.std.specs.Prelude.{[], ◌∷◌, Result, Ok, Err}
use Rattle.vocabulary.specs.Answer.{Answer, answer}
use Rattle.packing.specs.declared.PackError.{PackError}
use Rattle.packing.specs.declared.PackError.TheVariants.{CellAbove, Unequal}

abbrev pub packing : Result (Unit {0}) PackError → Answer
packing (Ok done) = answer 0 []
packing (Err (CellAbove i)) = answer 60 (i ∷ [])
packing (Err Unequal) = answer 61 []
