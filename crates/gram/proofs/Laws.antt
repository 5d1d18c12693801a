-- Zeros sum to zeros. Assumes nothing.
use mathlib.Core.Path.{◌≡◌, refl, sym, ap, ◌∙◌}
use mathlib.Core.List.{List}
use Prim.Native.Nat.{ℕ, zero, suc, ◌+◌, ◌*◌, ◌/◌, ◌%◌, ◌<◌}
use native.Mathlib.Omega.{arith}
use lib.ListN.{length, get_or}
use lib.Ieee
use lib.Ieee.{Float, nan, binary32, binary64}
use Rattle.ieee.specs.Convert.{convert}
use Rattle.ieee.specs.Order.{finite}
use Rattle.refine.specs.Covariance.{zeros, judged}
use Rattle.std.specs.Prelude.{Ok}
use Rattle.ieee.specs.Numbers.{plus_zero}
use Rattle.gram.specs.Gram.{product, along, partial, product_sum, gram}
use Rattle.gram.proofs.Sums.{product_sum_is, gram_is}

abbrev pub Zeros : List Float → Type 0
Zeros l = (i : ℕ) → i < length l → get_or l i nan ≡ plus_zero

zero_product : Ieee.mul binary64 plus_zero plus_zero ≡ plus_zero
unfolding Ieee.mul
zero_product = refl

zero_sum : Ieee.add binary64 plus_zero plus_zero ≡ plus_zero
unfolding Ieee.add
zero_sum = refl

rounded_zero : plus_zero ≡ convert binary32 (Ieee.add binary64 (Ieee.add binary64 plus_zero plus_zero) (Ieee.add binary64 plus_zero plus_zero))
unfolding Ieee.add convert
rounded_zero = refl

along_zero : (a b : List Float) (step k n : ℕ) → ((j : ℕ) → j < n → product a b (j * step + k) ≡ plus_zero) → along a b step k plus_zero n ≡ plus_zero
along_zero a b step k zero h = refl
along_zero a b step k (suc n) h =
    ap (λ (x : Float). Ieee.add binary64 x (product a b (n * step + k))) (along_zero a b step k n (λ j l. h j (omega arith)))
    ∙ ap (λ (x : Float). Ieee.add binary64 plus_zero x) (h n (omega arith)) ∙ zero_sum

module _ (a b : List Float) (za : Zeros a) (zb : Zeros b) (e : length a ≡ length b) where
  products : (i : ℕ) → i < length a → product a b i ≡ plus_zero
  products i h = ap (λ (x : Float). Ieee.mul binary64 x (get_or b i nan)) (za i h) ∙ ap (λ (x : Float). Ieee.mul binary64 plus_zero x) (zb i (omega (arith, e))) ∙ zero_product

  partial_zero : (l : ℕ) → l < 4 → partial a b l (length a / 4) ≡ plus_zero
  partial_zero l h = along_zero a b 4 l (length a / 4) (λ j i. products (j * 4 + l) (omega arith))

  rest_zero : along a b 1 (length a / 4 * 4) plus_zero (length a % 4) ≡ plus_zero
  rest_zero = along_zero a b 1 (length a / 4 * 4) (length a % 4) (λ j i. products (j * 1 + length a / 4 * 4) (omega arith))

  pub product_sum_zero : product_sum a b ≡ plus_zero
  product_sum_zero =
      sym
      (product_sum_is a b (length a) refl (sym (partial_zero 0 (omega arith))) (sym (partial_zero 1 (omega arith))) (sym (partial_zero 2 (omega arith))) (sym (partial_zero 3 (omega arith)))
      (sym rest_zero) rounded_zero)

pub gram_zero : (a b : List Float) → Zeros a → Zeros b → length a ≡ length b → judged (gram a b) ≡ Ok zeros
unfolding finite
gram_zero a b za zb e = ap judged (sym (gram_is a b (sym (product_sum_zero a a za za refl)) (sym (product_sum_zero a b za zb e)) (sym (product_sum_zero b b zb zb refl)) refl))
