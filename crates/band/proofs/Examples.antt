-- Worked examples that tell the bands from their likely twins: other ends, another width, rail in a band, another order. Assumes nothing.
use mathlib.Core.Path.{◌≡◌, refl}
use mathlib.Core.List.{List, [], ◌∷◌, map}
use Prim.Native.Nat.{ℕ}
use lib.IntN.{pos, negsuc}
use Rattle.window.specs.declared.WindowStats.{WindowStats}
use Rattle.band.specs.Bands.{rail, band_of, banded, kept_of, sample_of}

pub bands : map (λ (n : ℕ). band_of (pos n)) (0 ∷ 191 ∷ 192 ∷ 2047 ∷ 2048 ∷ 3071 ∷ 3072 ∷ 3888 ∷ 3889 ∷ 4080 ∷ [])
    ≡ rail ∷ rail ∷ 0 ∷ 1 ∷ 2 ∷ 2 ∷ 3 ∷ 3 ∷ rail ∷ rail ∷ []
unfolding band_of
bands = refl

pub below_zero : band_of (negsuc 499) ≡ rail
unfolding band_of
below_zero = refl

-- a window by its sum, with the number that it has in sampling order for a gate
abbrev one : ℕ → ℕ → WindowStats
one sum n = record { sum = pos sum; gate = pos n; op = pos 0 }

abbrev eight : List WindowStats
eight = one 3000 1 ∷ one 100 2 ∷ one 500 3 ∷ one 2500 4 ∷ one 1500 5 ∷ one 4000 6 ∷ one 600 7 ∷ one 3500 8 ∷ []

pub in_order : map (λ (f : WindowStats). f.gate) (banded eight) ≡ pos 3 ∷ pos 7 ∷ pos 5 ∷ pos 1 ∷ pos 4 ∷ pos 8 ∷ []
unfolding band_of
in_order = refl

pub counted : sample_of eight ≡ record { b0 = 2; b1 = 1; b2 = 2; b3 = 1; rail = 2 }
unfolding sample_of band_of
counted = refl

pub kept : kept_of eight ≡ 6
unfolding band_of
kept = refl
