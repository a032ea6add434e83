-- Document 01's number for each answer of unpacking.
use Rattle.std.specs.Prelude.{[], Result, Ok, Err}
use Rattle.vocabulary.specs.Answer.{Answer, answer}
use Rattle.unpacking.specs.declared.UnpackError.{UnpackError}
use Rattle.unpacking.specs.declared.UnpackError.TheVariants.{UnusedSet, Unequal}

abbrev pub unpacking : Result (Unit {0}) UnpackError → Answer
unpacking (Ok done) = answer 0 []
unpacking (Err UnusedSet) = answer 62 []
unpacking (Err Unequal) = answer 61 []
