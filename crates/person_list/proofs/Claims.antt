-- The claims on the person list hold.
use native.Mathlib.Omega.{arith}
use Rattle.person_list.specs.PersonList.{own_numbers}
use Rattle.person_list.specs.Claims.{LoginsHavePersons}
use Rattle.person_list.proofs.PersonList.{person-none, list-whole, person-below, list-passes, own-length, own-entry}

pub person-list : LoginsHavePersons
person-list =
    record {
      passes = list-passes;
      whole = list-whole;
      known = person-below;
      unknown = λ p persons few pass login h. rw (person-none persons login (rw (list-whole p persons pass) h)) (omega arith);
      own-passes = λ p. list-passes p (own_numbers p) (own-length p) (λ login h. rw (own-entry p login h) h);
      own-person = own-entry;
    }
