-- The register check's answers, by document 01's numbers, with document 02's 11.
use Rattle.std.specs.Prelude.{[], Result, Ok, Err}
use Rattle.vocabulary.specs.Answer.{Answer, answer}
use Rattle.register.specs.Fault.{fault_answer}
use Rattle.register.specs.declared.RegisterFault.{RegisterFault}

abbrev pub verdict_answer : Result (Unit {0}) RegisterFault → Answer
verdict_answer (Ok accepted) = answer 0 []
verdict_answer (Err fault) = fault_answer fault
