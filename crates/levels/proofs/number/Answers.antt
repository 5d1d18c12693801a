-- A whole number that f32 holds, and u32 too.
use mathlib.Core.Path.{◌≡◌, sym, ap, ◌∙◌, subst}
use Prim.Native.Nat.{ℕ, ◌≤◌}
use native.Mathlib.Omega.{arith}
use lib.Dec.{T, le→leb}
use lib.Ieee.{Float, binary32, in_float, in_unsigned, to_unsigned}
use lib.Ieee.Back.{unsigned_back}
use Rattle.ieee.specs.Numbers.{f32_of}
use Rattle.levels.specs.Whole.{Upto}
use Rattle.levels.proofs.number.Goals as goal

back : (n : ℕ) → n ≤ 65280 → T (in_unsigned binary32 32 (f32_of n)) × (to_unsigned 32 (f32_of n) ≡ n)
unfolding in_float
back n h = unsigned_back binary32 32 n (le→leb n 16777216 (omega arith)) (omega arith)

pub float_to_int-result : goal.float_to_int-result
float_to_int-result c = let u = c.requires in subst (λ (x : Float). T (in_unsigned binary32 32 x)) (sym u.is) (back u.number u.small).0

pub returns : goal.returns
returns c =
    let u = c.requires in
    subst (λ (n : ℕ). (c.args.v ≡ f32_of n) × (n ≤ 65280)) (sym (ap (to_unsigned 32) u.is ∙ (back u.number u.small).1)) (u.is, u.small)
