-- What only the code's steps need: a verdict, a call that nothing refuses, and what stands in the work slices before they are
-- cleared.
use Rattle.std.specs.Prelude.{◌≡◌, refl, Bool, true, false, cond, List, ℕ, ◌*◌, ◌≤◌, length, ℤ, Float, Result, Ok, Err}
use Rattle.numbers.specs.declared.Number.{Number}
use Rattle.numbers.specs.declared.Number.TheVariants.{SideAbove, OtherLength, SideBelow, ShortSlice}
use Rattle.numbers.specs.Numbers.{number_in}
use Rattle.limits.specs.Limits.{too_large, other_length, too_small}
use Rattle.grid.specs.Grid.{Sides}
use Rattle.grid.specs.Needed.{first_w, second_w, needed_of}
use Rattle.measure.specs.Figures.{figures_of}
use Rattle.measure.specs.Columns.{columns_in}
use Rattle.sample.specs.Laid.{laid_in}
use Rattle.pass.specs.Memory.{ints_for, floats_for}
use Rattle.noise.specs.Refusals.{short_of, first_of, refusal_of}
use Rattle.noise.specs.Call.{one_runs}

-- M, or the first cause that applies
unfoldable pub verdict_of : ℕ → ℕ → ℕ → ℕ → ℕ → Result ℕ Number
verdict_of pixels w h ints floats =
    cond (too_large w h) (Err SideAbove)
    (cond (other_length pixels w h) (Err OtherLength)
    (cond (too_small w h) (Err SideBelow)
    (cond (short_of w h ints floats) (Err ShortSlice) (Ok (needed_of w h)))))

-- whose number is that of the refusal
pub verdict_number : (pixels w h ints floats : ℕ)
    → number_in (verdict_of pixels w h ints floats) ≡ refusal_of pixels w h (short_of w h ints floats)
unfolding verdict_of refusal_of
verdict_number pixels w h ints floats = by_case (too_large w h) (other_length pixels w h) (too_small w h) (short_of w h ints floats)
  where
    by_case : (large other small short : Bool)
        → number_in {A = ℕ} (cond large (Err SideAbove)
        (cond other (Err OtherLength) (cond small (Err SideBelow) (cond short (Err ShortSlice) (Ok (needed_of w h))))))
        ≡ first_of (cond large 1 (cond other 2 0)) small short
    by_case true other small short = refl
    by_case false true small short = refl
    by_case false false true short = refl
    by_case false false false true = refl
    by_case false false false false = refl

-- a call that nothing refuses, M being m
pub record Ready (img : List ℕ) (w h m : ℕ) (ints : List ℤ) (floats : List Float) : Type 0 where
  pub sides : Sides w h
  pub pixels : length img ≡ w * h
  pub windows : m ≡ needed_of w h
  pub room_ints : ints_for m ≤ length ints
  pub room_floats : floats_for m ≤ length floats

-- the figures that the passes leave in the work slices: the first's, and over them the second's where it runs
unfoldable pub work_ints : List ℕ → ℕ → ℕ → List ℤ → List ℤ
work_ints img w h ints =
    cond (one_runs img w h) (columns_in (figures_of img w h first_w) ints)
    (columns_in (figures_of img w h second_w) (columns_in (figures_of img w h first_w) ints))

unfoldable pub work_floats : List ℕ → ℕ → ℕ → List Float → List Float
work_floats img w h floats =
    cond (one_runs img w h) (laid_in (figures_of img w h first_w) floats)
    (laid_in (figures_of img w h second_w) (laid_in (figures_of img w h first_w) floats))
