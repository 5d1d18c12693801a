-- What nearest means: no whole number is nearer, and of two that are equally near it is the larger.
use Rattle.std.specs.Prelude.{◌≡◌, false, ℕ, ◌+◌, ◌-◌, ◌*◌, ◌≤◌, Float}
use Rattle.std.specs.Float.{nan, inf, fin}
use Rattle.std.specs.Float.Ieee.{up, down}

-- how far apart two whole numbers are
abbrev pub apart : ℕ → ℕ → ℕ
apart m n = (m - n) + (n - m)

-- how far n is from 1,000 a / c, times c
abbrev pub distance : ℕ → ℕ → ℕ → ℕ
distance a c n = apart (a * 1000) (n * c)

-- n is the nearest whole number to 1,000 a / c, halves going up
pub record Nearest (a c n : ℕ) : Type 0 where
  pub no_nearer : (k : ℕ) → distance a c n ≤ distance a c k
  pub larger_of_two : (k : ℕ) → distance a c k ≡ distance a c n → k ≤ n

-- n is the nearest to 1,000 times the float x, which has a value and no minus sign
abbrev pub NearestTo : Float → ℕ → Type 0
NearestTo nan n = ⊥
NearestTo (inf s) n = ⊥
NearestTo (fin s m e) n = (s ≡ false) × Nearest (m * up e) (down e) n
