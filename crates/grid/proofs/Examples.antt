-- Worked examples that tell the grid's rules from their likely twins: another constant, < for ≤, a count from 1, w for h. Assumes nothing.
use mathlib.Core.Path.{◌≡◌, refl}
use mathlib.Core.List.{[], ◌∷◌, map}
use Prim.Native.Nat.{ℕ, ◌*◌}
use native.Mathlib.Omega.{arith}
use Rattle.grid.specs.Step.{step_of}
use Rattle.grid.specs.Grid.{Place, first_x, places_of, total_of}
use Rattle.grid.specs.Needed.{first_w, second_w, needed_of, sizing_of, size_windows}
use Rattle.std.specs.Prelude.{Ok, Err}
use Rattle.numbers.specs.Numbers.{number_in}
use Rattle.numbers.specs.declared.Number.TheVariants.{SideAbove, SideBelow}
use Rattle.grid.proofs.Places.{total_sum}
use Rattle.grid.proofs.Memory.{needed_both}

-- s × s × W may equal the pixels
pub steps : map (λ (pixels : ℕ). step_of pixels 21) (21 ∷ 22 ∷ 84 ∷ 85 ∷ []) ≡ 1 ∷ 2 ∷ 2 ∷ 3 ∷ []
unfolding step_of
steps = refl

-- W of both passes
pub first_steps : map (λ (pixels : ℕ). step_of pixels first_w) (73728 ∷ 73729 ∷ []) ≡ 3 ∷ 4 ∷ []
unfolding step_of
first_steps = refl

pub second_steps : map (λ (pixels : ℕ). step_of pixels second_w) (131072 ∷ 131073 ∷ []) ≡ 2 ∷ 3 ∷ []
unfolding step_of
second_steps = refl

-- at s = 1,000,000 the rest itself is seen; at s = 6 row 1 begins at 3.7, cut
pub firsts : map (λ (j : ℕ). first_x j 1000000) (0 ∷ 1 ∷ 2 ∷ 5000 ∷ []) ≡ 0 ∷ 618034 ∷ 236068 ∷ 170000 ∷ []
firsts = refl

pub first_cut : first_x 1 6 ≡ 3
first_cut = refl

-- 9 by 7 with a step of 2: no window at x = 6 or y = 4
abbrev at : ℕ → ℕ → Place
at x y = record { x = x; y = y }

pub places : places_of 9 7 16 ≡ at 0 0 ∷ at 2 0 ∷ at 4 0 ∷ at 1 2 ∷ at 3 2 ∷ at 5 2 ∷ []
unfolding places_of step_of
places = refl

-- 16,056 by 25 at the first W; 15,887 by 132 at both, of which the second's T is M
pub widest_step : step_of (16056 * 25) first_w ≡ 7
unfolding step_of
widest_step = refl

pub widest : total_of 16056 25 first_w ≡ 9174
unfolding step_of
widest = total_sum 16056 25 first_w

densest : total_of 15887 132 second_w ≡ 33754
unfolding step_of
densest = total_sum 15887 132 second_w

sparser : total_of 15887 132 first_w ≡ 8935
unfolding step_of
sparser = total_sum 15887 132 first_w

pub most_needed : needed_of 15887 132 ≡ 33754
unfolding step_of
most_needed = omega (arith, needed_both 15887 132 (λ (e : 16 ≡ 1). omega arith), densest, sparser)

-- 1, then 3
pub sizes : sizing_of 16385 3 ∷ sizing_of 3 16385 ∷ sizing_of 16384 3 ∷ sizing_of 3 16384 ∷ sizing_of 4 5 ∷ []
    ≡ Err SideAbove ∷ Err SideAbove ∷ Err SideBelow ∷ Err SideBelow ∷ Ok 2 ∷ []
unfolding sizing_of needed_of places_of step_of
sizes = refl

pub numbers : map (number_in {A = ℕ}) (Err SideAbove ∷ Err SideBelow ∷ Ok 7 ∷ []) ≡ 1 ∷ 3 ∷ 0 ∷ []
numbers = refl

pub figures : map size_windows (Err SideAbove ∷ Err SideBelow ∷ Ok 7 ∷ []) ≡ 0 ∷ 0 ∷ 7 ∷ []
figures = refl
