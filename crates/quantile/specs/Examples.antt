-- Worked examples of rising order and of the quiet level.
use Rattle.std.specs.Prelude.{◌≡◌, refl, true, false, List, [], ◌∷◌, ℕ, ◌*◌, ◌+◌, ◌-◌, ◌%◌, Float}
use Rattle.std.specs.Float.{nan, inf, binary32}
use Rattle.std.specs.Float.Ieee.{round, neg, lt, eq, is_nan}
use Rattle.ieee.specs.Order.{total_less, negative}
use Rattle.laws.specs.Lists.{from}
use Rattle.quantile.specs.Rising.{at, rising}
use Rattle.quantile.specs.Quantile.{stride, taken, quiet}

abbrev f : ℕ → Float
f n = round binary32 false n 1

abbrev mixed : List Float
mixed = f 5 ∷ nan ∷ f 0 ∷ neg (f 0) ∷ inf true ∷ f 5 ∷ inf false ∷ neg (f 3) ∷ []

-- minus zero stands before zero, and no number after infinity
pub in_order : rising (at mixed) 8 ≡ inf true ∷ neg (f 3) ∷ neg (f 0) ∷ f 0 ∷ f 5 ∷ f 5 ∷ inf false ∷ nan ∷ []
unfolding total_less negative lt eq is_nan neg round
in_order = refl

-- 255 gates are all taken, of 256 every other one, of 16,000 every 63rd
pub strides : (stride 0 ≡ 1) × (stride 1 ≡ 1) × (stride 255 ≡ 1) × (stride 256 ≡ 2)
    × (stride 510 ≡ 2) × (stride 511 ≡ 3) × (stride 16000 ≡ 63)
strides = (refl, refl, refl, refl, refl, refl, refl)

pub counts : (taken 0 ≡ 0) × (taken 1 ≡ 1) × (taken 255 ≡ 255) × (taken 256 ≡ 128)
    × (taken 510 ≡ 255) × (taken 511 ≡ 171) × (taken 16000 ≡ 254)
counts = (refl, refl, refl, refl, refl, refl, refl)

-- the least of 15 gates, and the second of 16: the place counts from 0
pub least : eq (quiet (from (λ (k : ℕ). f (7 * k % 15 + 3)) 0 15)) (f 3) ≡ true
unfolding quiet total_less negative lt eq is_nan round
least = refl

pub second : eq (quiet (from (λ (k : ℕ). f (7 * k % 16 + 3)) 0 16)) (f 4) ≡ true
unfolding quiet total_less negative lt eq is_nan round
second = refl

-- of 300 gates that fall from 300 to 1 every other one is taken: 300, 298, .. , 2, and the tenth least of these is 20
pub every_other : eq (quiet (from (λ (k : ℕ). f (300 - k)) 0 300)) (f 20) ≡ true
unfolding quiet total_less negative lt eq is_nan round
every_other = refl

pub none : quiet [] ≡ nan
unfolding quiet
none = refl
