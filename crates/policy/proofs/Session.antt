-- The table L0 to L11 holds, by computation.
use mathlib.Core.Path.{refl}
use Rattle.policy.specs.Session.{Table, session}
use Rattle.policy.specs.Outcome.{outcome, logged, decision, wall_answer, wall_checks, request_checks}
use Rattle.policy.specs.Rules.{rivals, foreigners, stakes, lost, row_after}
use Rattle.person_list.specs.PersonList.{bad_persons, own_numbers}
use Rattle.register.specs.Register.{register_checks, earlier, later}
use Rattle.vocabulary.specs.Answer.{judge}
use Rattle.vocabulary.specs.Those.{those}
use Rattle.vocabulary.specs.Each.{each}
use Rattle.log_bytes.specs.Record.{record_bytes}
use Rattle.varint.specs.Groups.{groups_by, groups, groups_all}

pub table : Table
unfolding session own_numbers bad_persons outcome logged decision wall_answer wall_checks request_checks rivals foreigners stakes lost row_after register_checks earlier later judge those each record_bytes groups_by groups groups_all
table =
    record {
      lines = refl;
      L3 = refl;
    }
