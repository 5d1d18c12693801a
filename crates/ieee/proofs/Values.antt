-- `HasValue x s a c`: the float x is finite, has the sign s and the size a / c. What that says of x, and of one size as two fractions.
use mathlib.Core.Path.{◌≡◌, sym, ap, ◌∙◌}
use mathlib.Core.Bool.{Bool, not}
use Prim.Native.Nat.{ℕ, ◌*◌, ◌<◌}
use native.Mathlib.Nat.{mul_right_comm, eq_of_mul-eq-mul_right}
use lib.Dec.{T}
use lib.IntN.{ℤ}
use lib.Ieee.{Float, nan, inf, fin, up, down, neg}
use lib.Ieee.Fits.{down_pos}
use lib.Ieee.Exact.{HasValue}
use Rattle.ieee.specs.Order.{negative, finite}

-- ---- x is finite, and its sign is s
pub finite_fin : (s : Bool) (m : ℕ) (e : ℤ) → T (finite (fin s m e))
unfolding finite
finite_fin s m e = tt

pub value_finite : (x : Float) (s : Bool) (a c : ℕ) → HasValue x s a c → T (finite x)
unfolding finite
value_finite nan s a c v = v
value_finite (inf t) s a c v = v
value_finite (fin t m e) s a c v = tt

pub value_negative : (x : Float) (s : Bool) (a c : ℕ) → HasValue x s a c → negative x ≡ s
unfolding negative
value_negative nan s a c v = absurd v
value_negative (inf t) s a c v = absurd v
value_negative (fin t m e) s a c v = v.0

pub value_neg : (x : Float) (s : Bool) (a c : ℕ) → HasValue x s a c → HasValue (neg x) (not s) a c
unfolding neg
value_neg nan s a c v = v
value_neg (inf t) s a c v = v
value_neg (fin t m e) s a c v = (ap not v.0, v.1)

-- ---- one size, two fractions
pub value_cross : (x : Float) (t s : Bool) (b a c d : ℕ) → HasValue x t b c → HasValue x s a d → b * d ≡ a * c
value_cross nan t s b a c d v w = absurd v
value_cross (inf u) t s b a c d v w = absurd v
value_cross (fin u m e) t s b a c d v w = eq_of_mul-eq-mul_right (down e) (down_pos e) (b * d) (a * c)
    (mul_right_comm b d (down e) ∙ ap (λ (z : ℕ). z * d) (sym v.1) ∙ mul_right_comm (m * up e) c d ∙ ap (λ (z : ℕ). z * c) w.1 ∙ mul_right_comm a (down e) c)

pub value_unique : (x : Float) (s : Bool) (a b c : ℕ) → HasValue x s a c → HasValue x s b c → a ≡ b
value_unique nan s a b c v w = absurd v
value_unique (inf t) s a b c v w = absurd v
value_unique (fin t m e) s a b c v w = eq_of_mul-eq-mul_right (down e) (down_pos e) a b (sym v.1 ∙ w.1)

pub rescale : (x : Float) (s : Bool) (w l num den : ℕ) → 0 < l → num * l ≡ w * den → HasValue x s w l → HasValue x s num den
rescale nan s w l num den p h v = v
rescale (inf t) s w l num den p h v = v
rescale (fin t m e) s w l num den p h v = (
  v.0,
  eq_of_mul-eq-mul_right l p (m * up e * den) (num * down e)
      (mul_right_comm (m * up e) den l ∙ ap (λ (x : ℕ). x * den) v.1 ∙ mul_right_comm w (down e) den ∙ ap (λ (x : ℕ). x * down e) (sym h) ∙ mul_right_comm num l (down e)),
)
