-- The noise call on work memory that is always enough.
use mathlib.Core.Path.{◌≡◌, refl, ap, ◌∙◌}
use mathlib.Core.Bool.{false}
use mathlib.Core.List.{List}
use Prim.Native.Nat.{ℕ, ◌+◌, ◌*◌, ◌≤◌}
use native.Mathlib.Omega.{arith}
use native.Mathlib.Nat.{le_trans}
use Rattle.grid.specs.Needed.{needed_of, first_w, second_w}
use Rattle.grid.proofs.Places.{total_most}
use Rattle.grid.proofs.Memory.{no_more}
use Rattle.answer.specs.declared.Answer.{Answer}
use Rattle.noise.specs.Refusals.{short_of}
use Rattle.noise.specs.Call.{noise_of}
use Rattle.noise.proofs.Causes.{enough}
use Rattle.lid_bytes.specs.Input.{most_pixels}

-- M is at most the pixels
few : (w h : ℕ) → w * h ≤ most_pixels → needed_of w h ≤ most_pixels
few w h b = no_more w h most_pixels (le_trans (total_most w h first_w (omega arith)) b) (λ _. le_trans (total_most w h second_w (omega arith)) b)

pub by_noise : (pixels : List ℕ) (w h ints floats : ℕ) {r : Answer} → r ≡ noise_of pixels w h (short_of w h ints floats)
    → w * h ≤ most_pixels → 3 * most_pixels ≤ ints → 2 * most_pixels + 2 ≤ floats → r ≡ noise_of pixels w h false
by_noise pixels w h ints floats e b i f =
    e ∙ ap (noise_of pixels w h) (enough w h ints floats (needed_of w h) refl (omega (arith, few w h b)) (omega (arith, few w h b)))
