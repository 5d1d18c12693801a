-- Worked examples that tell what is laid from its likely twins: a gate cut, an output not squared, another order. Assumes nothing.
use Rattle.std.proofs.Common.{◌≡◌, ℕ, false, [], ◌∷◌, pos, refl}
use lib.Ieee.{inf, of_int, mul, round}
use lib.Ieee.Exact.{HasValue}
use Rattle.ieee.specs.Numbers.{f32_of}
use Rattle.window.specs.Window.{of_rows, stats_of, gate}
use Rattle.window.specs.declared.WindowStats.{WindowStats}
use Rattle.band.specs.Bands.{band_of}
use Rattle.sample.specs.Laid.{gate32, square32, laid_in}

-- a window whose gate lies halfway between two f32: rounded it goes up to an even significand, cut it would be 84,494,888
abbrev pub halfway : WindowStats
halfway =
    stats_of
    (of_rows
    ((pos 255 ∷ pos 0 ∷ pos 0 ∷ pos 255 ∷ [])
    ∷ (pos 42 ∷ pos 255 ∷ pos 255 ∷ pos 227 ∷ [])
    ∷ (pos 0 ∷ pos 255 ∷ pos 255 ∷ pos 0 ∷ [])
    ∷ (pos 255 ∷ pos 221 ∷ pos 0 ∷ pos 255 ∷ [])
    ∷ []))

pub halfway_gate : halfway.gate ≡ pos 84494892
unfolding stats_of gate
halfway_gate = refl

pub rounded : HasValue (gate32 halfway) false 84494896 1
unfolding stats_of gate of_int
rounded = (refl, refl)

-- 4,097 squared is 16,785,409, which is no f32
pub squared : HasValue (square32 (record { sum = pos 0; gate = pos 0; op = pos 4097 })) false 16785408 1
unfolding of_int mul round
squared = (refl, refl)

-- ---- a window of band 3, one that is rail and one of band 0, over a slice of infinities

abbrev one : ℕ → ℕ → ℕ → WindowStats
one sum gate op = record { sum = pos sum; gate = pos gate; op = pos op }

pub laid : laid_in (one 3500 7 2 ∷ one 100 8 4 ∷ one 500 9 3 ∷ []) (inf false ∷ inf false ∷ inf false ∷ inf false ∷ inf false ∷ inf false ∷ [])
    ≡ f32_of 9 ∷ f32_of 7 ∷ inf false ∷ f32_of 9 ∷ f32_of 4 ∷ inf false ∷ []
unfolding laid_in band_of of_int mul round
laid = refl
