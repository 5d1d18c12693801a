-- Surfaces, and what a surface misses of a window: demand 3.
use Rattle.std.specs.Prelude.{◌≡◌, ℕ, ◌≤◌, ◌<◌, ℤ, pos, ◌+ℤ◌, ◌-ℤ◌, ◌*ℤ◌, ◌≤ℤ◌}
use Rattle.window.specs.Window.{Window, P, sum4, sq}

pub record Surface : Type 0 where
  pub a : ℤ
  pub b : ℤ
  pub c : ℤ
  pub d : ℤ
  pub e : ℤ
  pub f : ℤ
  pub m : ℤ

-- third-difference weights at x times those at y
abbrev pub q : ℕ → ℕ → ℤ
q x y = P 3 x *ℤ P 3 y

-- a + bx + cy + dxy + ex² + fy² + m·q
abbrev pub value : Surface → Window
value s x y =
    s.a +ℤ s.b *ℤ pos x +ℤ s.c *ℤ pos y +ℤ s.d *ℤ (pos x *ℤ pos y) +ℤ s.e *ℤ sq (pos x) +ℤ s.f *ℤ sq (pos y)
    +ℤ s.m *ℤ q x y

-- the sum of the squares of (D × pixel - surface) over the sixteen places
unfoldable pub missed : Window → ℕ → Surface → ℤ
missed p D s = sum4 (λ y. sum4 (λ x. sq (pos D *ℤ p x y -ℤ value s x y)))

-- The misfit of a surface at D is missed / D². g is 400 times the least over all surfaces and every whole D ≥ 1: 400 times a
-- misfit is never less, and that of some surface at some D is g.
pub record Is400TimesLeastMisfit (p : Window) (g : ℤ) : Type 0 where
  pub never_less : (D : ℕ) → 1 ≤ D → (s : Surface) → (sq (pos D) *ℤ g) ≤ℤ (pos 400 *ℤ missed p D s)
  pub reached : (D : ℕ) × (1 ≤ D) × (s : Surface) × (sq (pos D) *ℤ g ≡ pos 400 *ℤ missed p D s)

-- the surface equals 400 times the pixel at all sixteen places
abbrev pub Is400Times : Surface → Window → Type 0
Is400Times s p = (x y : ℕ) → x < 4 → y < 4 → value s x y ≡ pos 400 *ℤ p x y
