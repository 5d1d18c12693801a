-- The gate is rounded once: it is what IEEE 754-2019 asks of convertFromInt, and nothing else is. Assumes nothing.
use Rattle.std.proofs.Common.{◌≡◌, nat_abs}
use lib.Ieee.{Float, binary32}
use Rattle.ieee.specs.Rounding.{fraction, RoundTiesToEven}
use Rattle.ieee.proofs.ConvertFromInt.{below_zero, from_int_rounds, from_int_only}
use Rattle.window.specs.declared.WindowStats.{WindowStats}
use Rattle.sample.specs.Laid.{gate32}

module _ (f : WindowStats) where
  pub gate_rounds : RoundTiesToEven binary32 (below_zero f.gate) (fraction (nat_abs f.gate) 1) (gate32 f)
  gate_rounds = from_int_rounds binary32 f.gate

  pub gate_only : (y : Float) → RoundTiesToEven binary32 (below_zero f.gate) (fraction (nat_abs f.gate) 1) y → y ≡ gate32 f
  gate_only y r = from_int_only binary32 f.gate y r
