-- Demand 3, of the gate figure that measuring a window gives. Surfaces and sums are whole numbers without limit; the pixels may
-- be any whole numbers, 0 to 255 or not.
use Rattle.std.specs.Prelude.{◌≡◌, ◌↔◌, ℕ, ◌≤◌, ℤ, pos, ◌*ℤ◌, ◌≤ℤ◌}
use Rattle.window.specs.Window.{Window, sq, stats_of}
use Rattle.window.specs.Surface.{Surface, missed, Is400Times, Is400TimesLeastMisfit}
use Rattle.window.specs.Mirrors.{across, down, turned, turned_back, negative, added}

-- the gate figure
abbrev pub figure : Window → ℤ
figure p = (stats_of p).gate

pub record Demand3 (p : Window) : Type 0 where
  -- the gate figure is exactly 400 times the least misfit
  pub least : Is400TimesLeastMisfit p (figure p)
  -- for every whole D ≥ 1 and every surface, 400 times the sum of squares is at least D² × gate
  pub at_least : (D : ℕ) → 1 ≤ D → (s : Surface) → (sq (pos D) *ℤ figure p) ≤ℤ (pos 400 *ℤ missed p D s)
  -- some surface reaches equality at D = 400
  pub equality : (s : Surface) × (pos 400 *ℤ missed p 400 s ≡ sq (pos 400) *ℤ figure p)
  -- gate is zero exactly when some surface equals 400 times the pixel at all sixteen places
  pub zero : (figure p ≡ pos 0) ↔ ((s : Surface) × Is400Times s p)
  -- the same gate for the window mirrored, given quarter turns, made negative, or with any surface added, whether or not that
  -- keeps its pixels in 0 to 255
  pub mirrored_across : figure (across p) ≡ figure p
  pub mirrored_down : figure (down p) ≡ figure p
  pub quarter_turn : figure (turned p) ≡ figure p
  pub quarter_turn_back : figure (turned_back p) ≡ figure p
  pub made_negative : figure (negative p) ≡ figure p
  pub surface_added : (s : Surface) → figure (added s p) ≡ figure p
