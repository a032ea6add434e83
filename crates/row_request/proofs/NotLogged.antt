-- A refusal that is not the wall's is not logged.
use mathlib.Core.Path.{◌≡◌, refl}
use mathlib.Core.Bool.{false}
use Rattle.register.specs.declared.RegisterFault.TheVariants.{OutOfRange, LoneZero, TwoClasses, BadPairs}
use Rattle.response.specs.declared.WallRefusal.{WallRefusal}
use Rattle.response.specs.declared.Refusal.{Refusal}
use Rattle.response.specs.declared.Refusal.TheVariants.{Register, MatrixLength, UnknownLogin, UnknownFolder, UnknownKind, BadCell, BadEnd, BadPersons, Wall, NoRoom}
use Rattle.response.specs.Response.{refusal_answer}
use Rattle.policy.specs.Outcome.{is_logged}

pub not-logged : (a : Refusal) → ((w : WallRefusal) → a ≡ Wall w → ⊥) → is_logged (refusal_answer a) ≡ false
not-logged (Register OutOfRange) wall = refl
not-logged (Register (LoneZero f)) wall = refl
not-logged (Register (TwoClasses f g)) wall = refl
not-logged (Register BadPairs) wall = refl
not-logged MatrixLength wall = refl
not-logged UnknownLogin wall = refl
not-logged UnknownFolder wall = refl
not-logged UnknownKind wall = refl
not-logged (BadCell f) wall = refl
not-logged BadEnd wall = refl
not-logged BadPersons wall = refl
not-logged (Wall w) wall = absurd (wall w refl)
not-logged NoRoom wall = refl
