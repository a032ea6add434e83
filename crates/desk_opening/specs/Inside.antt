-- Internal: how what the run goes on with is stored. No rule of document 01 stands here.
use Rattle.std.specs.Prelude.{◌≤◌, ◌≡◌, replicate, take}
use Rattle.std.proofs.lemmas.List.Edits.{sets}
use Rattle.register.specs.Register.{register_of}
use Rattle.desk_opening.specs.Ready.{Ready}
use Rattle.desk_opening.specs.declared.opening.Opening.TheInside.{Inside}

abbrev pub ready : Inside → Ready
ready o =
    record {
      register = register_of o.logins (take o.folders o.classes) (take o.folders o.clients);
      place = o.place;
    }

-- No more logins and folders than a register may have, and zeros after the labels.
pub record Filled (o : Inside) : Type 0 where
  pub logins-few : o.logins ≤ 128
  pub folders-few : o.folders ≤ 512
  pub classes : o.classes ≡ sets (replicate 512 0) 0 (take o.folders o.classes)
  pub clients : o.clients ≡ sets (replicate 512 0) 0 (take o.folders o.clients)
