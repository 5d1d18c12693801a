-- Where a pixel lies from an origin on, from parts that are held as they stand; and the cells of a support. Assumes nothing.
use mathlib.Core.Path.{◌≡◌, sym, ap, ◌∙◌}
use mathlib.Core.List.{List}
use Prim.Native.Nat.{ℕ, ◌*◌, ◌≤◌, ◌<◌}
use native.Mathlib.Nat.{min-eq_left, mul-le-mul}
use native.Mathlib.Omega.{arith}
use lib.Ieee.{Float}
use lib.ListN.{length, take, length-take}
use lib.IntN.{ℤ}
use lib.Signed.{mag}
use mir.Syntax.{w32}
use mir.Val.{SFits, to_z, of_z}
use mir.Facts.{to_z-of_z}
use Rattle.std.specs.Prelude.{Option}
use Rattle.laws.proofs.Machine.{held_of}
use Rattle.support.specs.Steps.{past_origin}

-- the place of a pixel, from parts that are held as they stand
pub place_held : (x z : ℤ) (n : ℕ) {r : Option ℕ} → SFits w32 x → mag z < 2147483648 → r ≡ past_origin (to_z w32 (of_z w32 x)) (to_z w32 (of_z w32 z)) n → r ≡ past_origin x z n
place_held x z n f h e = e ∙ ap (λ (y : ℤ). past_origin y (to_z w32 (of_z w32 z)) n) (to_z-of_z f) ∙ ap (λ (y : ℤ). past_origin x y n) (held_of {z = z} h)

pub few_cells : (side : ℕ) → side ≤ 32 → side * side ≤ 1024
few_cells side h = mul-le-mul h h

-- as many cells as are asked for
pub taken_long : (n : ℕ) (l : List Float) → n ≤ 1024 → length l ≡ 1024 → n ≡ length (take n l)
taken_long n l h e = sym (length-take n l ∙ min-eq_left (omega (arith, e)))
