-- A refusal's number is not that of a grant.
use Rattle.std.proofs.Common.{◌≡◌, refl, false, ℕ}
use Rattle.std.specs.Prelude.{Result, Ok, Err, is_ok, eqb}
use Rattle.register.specs.declared.RegisterFault.TheVariants.{OutOfRange, LoneZero, TwoClasses, BadPairs}
use Rattle.response.specs.Response.{refusal_answer, response_answer}
use Rattle.response.specs.declared.WallRefusal.TheVariants.{Rival, Foreign, AtStake}
use Rattle.response.specs.declared.Refusal.{Refusal}
use Rattle.response.specs.declared.Refusal.TheVariants.{Register, MatrixLength, UnknownLogin, UnknownFolder, UnknownKind, BadCell, BadEnd, BadPersons, Wall, NoRoom}

pub refused : (f : Refusal) → eqb (refusal_answer f).number 0 ≡ false
refused (Register OutOfRange) = refl
refused (Register (LoneZero f)) = refl
refused (Register (TwoClasses f g)) = refl
refused (Register BadPairs) = refl
refused MatrixLength = refl
refused UnknownLogin = refl
refused UnknownFolder = refl
refused UnknownKind = refl
refused (BadCell f) = refl
refused BadEnd = refl
refused BadPersons = refl
refused (Wall (Rival f)) = refl
refused (Wall (Foreign f)) = refl
refused (Wall (AtStake f)) = refl
refused NoRoom = refl

pub granted-number : (r : Result ℕ Refusal) → eqb (response_answer r).number 0 ≡ is_ok r
granted-number (Ok n) = refl
granted-number (Err f) = refused f
