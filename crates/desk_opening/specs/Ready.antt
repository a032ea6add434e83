-- What the run goes on with: the register, and the place after its lines.
use Rattle.std.specs.Prelude.{ℕ}
use Rattle.register.specs.Register.{Register}

pub record Ready : Type 0 where
  pub register : Register
  pub place : ℕ
