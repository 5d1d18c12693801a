-- Bands: document 01, "Bands".
use Rattle.std.specs.Prelude.{cond, ◌&&◌, List, [], ◌∷◌, ℕ, ◌/◌, leb, ltb, eqb, length, Option, Some, None, ℤ, pos, negsuc}
use Rattle.laws.specs.Lists.{joined}
use Rattle.window.specs.declared.WindowStats.{WindowStats}
use Rattle.band.specs.declared.Sample.{Sample}

abbrev pub rail : ℕ
rail = 4

-- sum 192 to 3,888 gives band sum div 1,024, 0 to 3; any other is rail
unfoldable pub band_of : ℤ → ℕ
band_of (pos n) = cond (leb 192 n && leb n 3888) (n / 1024) rail
band_of (negsuc n) = rail

-- a band, none for rail
abbrev pub kept_band : ℕ → Option ℕ
kept_band b = cond (ltb b rail) (Some b) None

-- the windows of band b, in sampling order
abbrev pub of_band : ℕ → List WindowStats → List WindowStats
of_band b [] = []
of_band b (f ∷ fs) = cond (eqb (band_of f.sum) b) (f ∷ of_band b fs) (of_band b fs)

abbrev pub count_of : ℕ → List WindowStats → ℕ
count_of b fs = length (of_band b fs)

-- the bands one after the other; what is rail is dropped
abbrev pub banded : List WindowStats → List WindowStats
banded fs = joined (λ b. of_band b fs) 0 rail

abbrev pub kept_of : List WindowStats → ℕ
kept_of fs = length (banded fs)

unfoldable pub sample_of : List WindowStats → Sample
sample_of fs = record { b0 = count_of 0 fs; b1 = count_of 1 fs; b2 = count_of 2 fs; b3 = count_of 3 fs; rail = count_of rail fs }
