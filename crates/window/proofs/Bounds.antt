-- The magnitude of a component: one that does not see a constant has half the bound of its weights, since twice a pixel less 255 is
-- within 255 of 0.
use mathlib.Core.Path.{◌≡◌, sym, ap, subst}
use mathlib.Core.Bool.{cond, ◌&&◌}
use Prim.Native.Nat.{ℕ, ◌*◌, ◌%◌, ◌≤◌, ◌<◌}
use native.Mathlib.Omega.{arith}
use lib.Dec.{T, leb, eqb}
use lib.IntN.{ℤ, pos, nat_abs, ◌-ℤ◌, ◌*ℤ◌}
use Rattle.laws.proofs.Ring.{Ex, k, ◌⊖◌, ◌⊗◌, ring, same}
use Rattle.laws.proofs.Machine.{bnd, under, abs_mul, abs_byte}
use Rattle.window.specs.Window.{Window, Pixel, Pixels, component}
use Rattle.window.proofs.Places.{below4²}
use Rattle.window.proofs.Expressions.{numbers, at, component_e, bounds, within}

pub pixel_abs : {z : ℤ} → Pixel z → nat_abs z ≤ 255
pixel_abs p = subst (λ (z : ℤ). nat_abs z ≤ 255) (sym p.is) p.most

abbrev pub centred : Window → Window
centred p x y = pos 2 *ℤ p x y -ℤ pos 255

pub centred_abs : (p : Window) → Pixels p → (x y : ℕ) → x < 4 → y < 4 → nat_abs (centred p x y) ≤ 255
centred_abs p e x y s t =
    let b = e x y s t in
    subst (λ (w : ℤ). nat_abs (pos 2 *ℤ w -ℤ pos 255) ≤ 255) (sym b.is) (abs_byte b.byte b.most)

half : (z w : ℤ) (n : ℕ) → pos 2 *ℤ z ≡ w → nat_abs w ≤ 2 * n → nat_abs z ≤ n
half z w n e b = omega (arith, abs_mul (pos 2) z, ap nat_abs e)

abbrev pub centred_e : ℕ → ℕ → Ex
centred_e x y = k (pos 2) ⊗ at x y ⊖ k (pos 255)

-- 8,160 where both degrees are odd, else 4,080
abbrev pub most : ℕ → ℕ → ℕ
most i j = cond (eqb (i % 2) 1 && eqb (j % 2) 1) 8160 4080

module _ (p : Window) (e : Pixels p) where
  -- the sum, which sees a constant
  sum_bound : nat_abs (component p 0 0) ≤ 4080
  sum_bound = under (numbers p) (bounds 255) (within p 255 (λ x y s t. pixel_abs (e x y s t))) (component_e at 0 0) 4080 tt

  bound : (i j : ℕ) → T (same (k (pos 2) ⊗ component_e at i j) (component_e centred_e i j))
      → T (leb (bnd (bounds 255) (component_e at i j)) (2 * most i j)) → nat_abs (component p i j) ≤ most i j
  bound i j s t =
      half (component p i j) (component (centred p) i j) (most i j)
      (ring (numbers p) (k (pos 2) ⊗ component_e at i j) (component_e centred_e i j) s)
      (under (numbers (centred p)) (bounds 255) (within (centred p) 255 (centred_abs p e)) (component_e at i j) (2 * most i j) t)

  pub component_within : (i j : ℕ) → i < 4 → j < 4 → nat_abs (component p i j) ≤ most i j
  component_within =
      below4² (λ i j. nat_abs (component p i j) ≤ most i j)
      sum_bound (bound 0 1 tt tt) (bound 0 2 tt tt) (bound 0 3 tt tt)
      (bound 1 0 tt tt) (bound 1 1 tt tt) (bound 1 2 tt tt) (bound 1 3 tt tt)
      (bound 2 0 tt tt) (bound 2 1 tt tt) (bound 2 2 tt tt) (bound 2 3 tt tt)
      (bound 3 0 tt tt) (bound 3 1 tt tt) (bound 3 2 tt tt) (bound 3 3 tt tt)
