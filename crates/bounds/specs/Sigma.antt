-- What sigma is in every answer of the noise call: a number from 0 to 409. The largest that is known is 408.21866.
use Rattle.std.specs.Prelude.{ℕ, ◌*◌, ◌≤◌}
use Rattle.std.specs.Float.{binary32}
use Rattle.std.specs.Float.Ieee.{to_bits}
use Rattle.ieee.specs.FromZero.{FromZeroTo}
use Rattle.answer.specs.declared.Answer.{Answer}

abbrev pub sigma_most : ℕ
sigma_most = 409

-- of an answer, whatever its number
pub record SigmaIsNumber (a : Answer) : Type 0 where
  -- an f32, no NaN, no infinity, no minus zero, 0 ≤ sigma ≤ 409
  pub range : FromZeroTo binary32 sigma_most a.sigma
  -- so its bits are at most those of 409, and its thousandths at most 409,000
  pub bits : to_bits binary32 a.sigma ≤ 0x43CC_8000
  pub milli : a.milli ≤ 1000 * sigma_most
  -- and it is at most 1,000
  pub thousand : FromZeroTo binary32 1000 a.sigma
