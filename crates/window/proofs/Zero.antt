-- The gate is 0 exactly where a surface equals 400 times the pixel at all sixteen places: what the nearest surface misses is then 0, a sum
-- of squares.
use mathlib.Core.Path.{◌≡◌, refl, sym, ap, ◌∙◌}
use mathlib.Core.Logic.{◌↔◌}
use Prim.Native.Nat.{ℕ, zero, suc, ◌+◌, ◌*◌, ◌<◌}
use native.Mathlib.Omega.{arith}
use lib.IntN.{ℤ, pos, negsuc, nat_abs, ◌+ℤ◌, ◌-ℤ◌, ◌*ℤ◌, +ℤ_idl, +ℤ_invr, -ℤ-+ℤ_cancel}
use Rattle.laws.proofs.Machine.{abs_mul}
use Rattle.window.specs.Window.{Window, sum4, sq, gate}
use Rattle.window.specs.Surface.{Surface, value, missed, Is400Times}
use Rattle.window.proofs.Places.{below4}
use Rattle.window.proofs.Same.{gate_alike}
use Rattle.window.proofs.Weighted.{sq_is}
use Rattle.window.proofs.Least.{left, gate_left, nearest, reached}

zero_abs : (z : ℤ) → nat_abs z ≡ 0 → z ≡ pos 0
zero_abs (pos n) h = ap pos h
zero_abs (negsuc n) h = absurd (never n h)
  where
    never : (n : ℕ) → suc n ≡ 0 → ⊥
    never n h = omega arith

zero_times : (n : ℕ) (z : ℤ) → pos (suc n) *ℤ z ≡ pos 0 → z ≡ pos 0
zero_times n z h = zero_abs z (omega (arith, abs_mul (pos (suc n)) z, ap nat_abs h))

-- ---- squares whose sum is 0

sq_zero : (n : ℕ) → n * n ≡ 0 → n ≡ 0
sq_zero zero h = refl
sq_zero (suc n) h = omega arith

abbrev sumℕ : (ℕ → ℕ) → ℕ
sumℕ f = f 0 + f 1 + f 2 + f 3

zero4 : (f : ℕ → ℕ) → sumℕ f ≡ 0 → (x : ℕ) → x < 4 → f x ≡ 0
zero4 f h = below4 (λ x. f x ≡ 0) (omega arith) (omega arith) (omega arith) (omega arith)

abbrev sqℕ : ℤ → ℕ
sqℕ z = nat_abs z * nat_abs z

row_is : (r : ℕ → ℤ) → sum4 (λ x. sq (r x)) ≡ pos (sumℕ (λ x. sqℕ (r x)))
row_is r = rw (sq_is (r 0), sq_is (r 1), sq_is (r 2), sq_is (r 3))

sum_zero : (r : Window) → sum4 (λ y. sum4 (λ x. sq (r x y))) ≡ pos 0 → (x y : ℕ) → x < 4 → y < 4 → r x y ≡ pos 0
sum_zero r h x y p q =
    zero_abs (r x y) (sq_zero (nat_abs (r x y)) (zero4 (λ x. sqℕ (r x y)) (zero4 row all y q) x p))
  where
    row : ℕ → ℕ
    row y = sumℕ (λ x. sqℕ (r x y))

    sum_is : sum4 (λ y. sum4 (λ x. sq (r x y))) ≡ pos (sumℕ row)
    sum_is = rw (row_is (λ x. r x 0), row_is (λ x. r x 1), row_is (λ x. r x 2), row_is (λ x. r x 3))

    all : sumℕ row ≡ 0
    all = ap nat_abs (sym sum_is ∙ h)

-- ---- both ways

difference_zero : (a b : ℤ) → a ≡ b → b -ℤ a ≡ pos 0
difference_zero a b h = ap (λ (z : ℤ). b -ℤ z) h ∙ +ℤ_invr b

zero_difference : (a b : ℤ) → b -ℤ a ≡ pos 0 → a ≡ b
zero_difference a b h = sym (sym (-ℤ-+ℤ_cancel b a) ∙ ap (λ (z : ℤ). z +ℤ a) h ∙ +ℤ_idl a)

from_surface : (p : Window) (s : Surface) → Is400Times s p → gate p ≡ pos 0
unfolding gate
from_surface p s h =
    zero_times 159999 (gate p)
    (sym (gate_left p (pos 400) s)
    ∙ gate_alike (left p (pos 400) s) (λ x y. pos 0) (λ x y u t. difference_zero (value s x y) (pos 400 *ℤ p x y) (h x y u t)))

none_missed : (p : Window) → gate p ≡ pos 0 → sum4 (λ y. sum4 (λ x. sq (left p (pos 400) (nearest p) x y))) ≡ pos 0
unfolding missed
none_missed p g = zero_times 399 (missed p 400 (nearest p)) (reached p ∙ ap (λ (z : ℤ). sq (pos 400) *ℤ z) g)

pub gate_zero : (p : Window) → (gate p ≡ pos 0) ↔ ((s : Surface) × Is400Times s p)
gate_zero p = (
  λ g. (
    nearest p,
    λ x y u t. zero_difference (value (nearest p) x y) (pos 400 *ℤ p x y) (sum_zero (left p (pos 400) (nearest p)) (none_missed p g) x y u t),
  ),
  λ h. from_surface p h.0 h.1,
)
