-- The sum of g by its transpose over gradients g = (gx, gy): products in f64, four partial sums, rounded to f32 at the end.
use Rattle.std.specs.Prelude.{ℕ, zero, suc, ◌+◌, ◌*◌, ◌/◌, ◌%◌, List, get_or, length, Float}
use Rattle.std.specs.Float.Ieee
use Rattle.std.specs.Float.{nan, binary32, binary64}
use Rattle.ieee.specs.Convert.{convert}
use Rattle.ieee.specs.Numbers.{plus_zero}
use Rattle.refine.specs.Covariance.{covariance}
use Rattle.refine.specs.declared.PositionCovariance.{PositionCovariance}

abbrev pub product : List Float → List Float → ℕ → Float
product a b k = Ieee.mul binary64 (get_or a k nan) (get_or b k nan)

-- s, and then one after the other n products: every step-th from place k on
abbrev pub along : List Float → List Float → ℕ → ℕ → Float → ℕ → Float
along a b step k s zero = s
along a b step k s (suc n) = Ieee.add binary64 (along a b step k s n) (product a b (n * step + k))

-- partial sum l: every fourth product from place l on, through the m whole fours
abbrev pub partial : List Float → List Float → ℕ → ℕ → Float
partial a b l m = along a b 4 l plus_zero m

-- the sum of all products; the first partial sum takes the rest too
unfoldable pub product_sum : List Float → List Float → Float
product_sum a b =
    let m = length a / 4 in
    convert binary32
    (Ieee.add binary64
    (Ieee.add binary64 (along a b 1 (m * 4) (partial a b 0 m) (length a % 4)) (partial a b 1 m))
    (Ieee.add binary64 (partial a b 2 m) (partial a b 3 m)))

abbrev pub gram : List Float → List Float → PositionCovariance
gram gx gy = covariance (product_sum gx gx) (product_sum gx gy) (product_sum gy gy)
