-- The sum of two i32 fits an i64, so it is v + o, and whether it is a usize names the case of `clamped`.
use Rattle.std.proofs.Common.{◌≡◌, ℕ, ◌<◌, ◌^◌, min, Result, Ok, Err, ℤ, pos, negsuc, ◌+ℤ◌, to_z, of_z, w64, ap, ◌∙◌, arith}
use Rattle.std.proofs.Math.IntN.{nat_abs}
use Rattle.std.proofs.lemmas.Int.{ints}
use Rattle.std.specs.Int.{FitsUnsignedBits}
use Rattle.std.specs.Result.{OkIff, result_unwrap_or}
use Rattle.imageview.specs.Sample.{clamped}
use Rattle.imageview.proofs.place.Goals as goal

nearest : {E : Type 0} (z : ℤ) (most : ℕ) (r : Result ℕ E) → nat_abs z < 2 ^ 64 → OkIff r (FitsUnsignedBits 64 z) (nat_abs z)
    → min (result_unwrap_or r 0) most ≡ clamped z most
unfolding clamped
nearest (pos n) most (Ok x) h f = ap (λ (m : ℕ). min m most) f.1
nearest (pos n) most (Err e) h f = absurd (f h)
nearest (negsuc n) most (Ok x) h f = absurd f.0
nearest (negsuc n) most (Err e) h f = omega arith

pub returns : goal.returns
returns c =
    let sum : to_z w64 (of_z w64 (to_z w64 (of_z w64 c.from.result) +ℤ to_z w64 (of_z w64 c.from-2.result))) ≡ c.args.v +ℤ c.args.o = omega (arith, ints) in
    c.min.ensures ∙ ap (λ (n : ℕ). min n c.args.most) c.unwrap_or.ensures
    ∙ nearest (c.args.v +ℤ c.args.o) c.args.most c.try_from.result (omega (arith, ints)) (rw sum at c.try_from.ensures)
