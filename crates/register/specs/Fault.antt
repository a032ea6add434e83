-- The register check's refusals, by document 01's numbers ('Where each refusal is checked'), with document 02's 11; each carries its folders.
use Rattle.std.specs.Prelude.{[], ◌∷◌}
use Rattle.vocabulary.specs.Answer.{Answer, answer}
use Rattle.register.specs.declared.RegisterFault.{RegisterFault}
use Rattle.register.specs.declared.RegisterFault.TheVariants.{OutOfRange, LoneZero, TwoClasses, BadPairs}

abbrev pub fault_answer : RegisterFault → Answer
fault_answer OutOfRange = answer 1 []
fault_answer (LoneZero f) = answer 2 (f.0 ∷ [])
fault_answer (TwoClasses f g) = answer 3 (f.0 ∷ g.0 ∷ [])
fault_answer BadPairs = answer 11 []
