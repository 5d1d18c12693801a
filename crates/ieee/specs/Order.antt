-- The larger and the smaller of two floats, the size of one, which ones are finite, and an order of all floats.
use Rattle.std.specs.Prelude.{◌≡◌, ◌⊎◌, Bool, true, false, cond, not, ◌&&◌, ◌||◌, Float}
use Rattle.std.specs.Float.{nan, inf, fin}
use Rattle.std.specs.Float.Ieee.{lt, eq, is_nan}

-- Rust's f32::max and f64::max: the other one where one is a NaN, and the second only where it is above the first. So of -0 and +0
-- it is the first, which Rust leaves open.
unfoldable pub larger : Float → Float → Float
unfolding is_nan lt
larger a b = cond (is_nan a) b (cond (lt a b) b a)

-- Rust's f32::min and f64::min: the other one where one is a NaN, and the second only where it is below the first. So of -0 and +0
-- it is the first, which Rust leaves open.
unfoldable pub smaller : Float → Float → Float
unfolding is_nan lt
smaller a b = cond (is_nan a) b (cond (lt b a) b a)

-- What both are: r is a or b, and neither is past it by R, which is `lt` for the larger and its turn for the smaller.
pub record Picked (R : Float → Float → Bool) (a b r : Float) : Type 0 where
  pub one_of : (r ≡ a) ⊎ (r ≡ b)
  pub first : R r a ≡ false
  pub second : R r b ≡ false

-- The same number with the sign clear: IEEE 754-2019, section 5.5.1, abs.
unfoldable pub magnitude : Float → Float
magnitude nan = nan
magnitude (inf s) = inf false
magnitude (fin s m e) = fin false m e

-- Whether x is a zero or another number, not an infinity or a NaN: section 5.7.2, isFinite.
unfoldable pub finite : Float → Bool
finite nan = false
finite (inf s) = false
finite (fin s m e) = true

-- Whether the sign is set: section 5.7.2, isSignMinus, where the one NaN counts as positive.
unfoldable pub negative : Float → Bool
negative nan = false
negative (inf s) = s
negative (fin s m e) = s

-- x is before y in an order of all floats: as `<` has it, -0 before +0, and a NaN after all others. Rust's total_cmp is Less, where
-- each NaN counts as the one positive NaN.
unfoldable pub total_less : Float → Float → Bool
unfolding is_nan lt eq negative
total_less x y = not (is_nan x) && (is_nan y || (lt x y || (eq x y && (negative x && not (negative y)))))
