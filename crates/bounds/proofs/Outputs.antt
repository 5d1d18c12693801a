-- The output of a window of pixels 0 to 255 is within 8,160, so its square in f32 is at most the bound of an output.
use mathlib.Core.Path.{refl}
use mathlib.Core.List.{List, [], ◌∷◌}
use Prim.Native.Nat.{ℕ, ◌+◌, ◌*◌, ◌≤◌}
use lib.Dec.{eqb, lit≤, lit<}
use lib.ListN.{get_or}
use lib.IntN.{nat_abs}
use lib.Ieee.{binary32}
use Rattle.laws.specs.Lists.{Each}
use Rattle.laws.proofs.Choice.{cond_both}
use Rattle.laws.proofs.Each.{each_joined, each_map, each_of}
use Rattle.ieee.proofs.Bounded.{HoldsWhole, holds_whole}
use Rattle.ieee.proofs.BoundedOperations.{square_bounded}
use Rattle.window.specs.Window.{pixels_at}
use Rattle.window.specs.declared.WindowStats.{WindowStats}
use Rattle.window.proofs.Figures.{bytes_pixels, output_within}
use Rattle.grid.specs.Grid.{places_of}
use Rattle.measure.specs.Figures.{figure_at, figures_of}
use Rattle.band.specs.Bands.{rail, band_of, of_band, banded}
use Rattle.sample.specs.Laid.{square32, squares_of}
use Rattle.bounds.proofs.Constants.{OutputBounded, output_most, holds_output}

-- ---- of a window
abbrev pub Small : WindowStats → Type 0
Small f = nat_abs f.op ≤ 8160

pub figures_small : (img : List ℕ) → ((i : ℕ) → get_or img i 0 ≤ 255) → (w h windows : ℕ) → Each Small (figures_of img w h windows)
figures_small img bytes w h windows =
    each_of Small (figure_at img w) (λ p. output_within (pixels_at img w (p.y * w + p.x)) (bytes_pixels img bytes w (p.y * w + p.x)))
    (places_of w h windows)

-- ---- of a pass
holds_8160 : HoldsWhole binary32 8160
holds_8160 = holds_whole binary32 8160 8160 0 (lit< tt) refl (lit≤ tt)

square_output : (f : WindowStats) → Small f → OutputBounded (square32 f)
square_output f h = square_bounded binary32 8160 output_most holds_8160 (holds_output binary32) (lit≤ tt) f.op h

of_band_lem : (b : ℕ) (fs : List WindowStats) → Each Small fs → Each Small (of_band b fs)
of_band_lem b [] h = tt
of_band_lem b (f ∷ fs) h =
    cond_both (Each Small) (eqb (band_of f.sum) b) (f ∷ of_band b fs) (of_band b fs) (h.0, of_band_lem b fs h.1) (of_band_lem b fs h.1)

pub outputs : (fs : List WindowStats) → Each Small fs → Each OutputBounded (squares_of fs)
outputs fs h =
    each_map Small OutputBounded square32 square_output (banded fs) (each_joined Small (λ b. of_band b fs) (λ b. of_band_lem b fs h) 0 rail)
