-- A fault is no acceptance.
use mathlib.Core.Path.{◌≡◌, refl}
use mathlib.Core.Bool.{false}
use lib.Dec.{eqb}
use Rattle.register.specs.Fault.{fault_answer}
use Rattle.register.specs.declared.RegisterFault.{RegisterFault}
use Rattle.register.specs.declared.RegisterFault.TheVariants.{OutOfRange, LoneZero, TwoClasses, BadPairs}

pub not-accepted : (fault : RegisterFault) → eqb (fault_answer fault).number 0 ≡ false
not-accepted OutOfRange = refl
not-accepted (LoneZero f) = refl
not-accepted (TwoClasses f g) = refl
not-accepted BadPairs = refl
