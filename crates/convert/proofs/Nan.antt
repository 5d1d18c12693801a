-- What `x.is_nan()` tells, as the lemmas of the crate ieee ask it, and the NaN that the code writes.
use mathlib.Core.Path.{◌≡◌, refl, sym, ◌∙◌, subst}
use mathlib.Core.Bool.{Bool, true, false, not, true≢false, false≢true}
use lib.Dec.{T}
use lib.Ieee.{Float, nan, inf, fin, binary32, binary64, ne, div, of_bits, is_nan}
use lib.Ieee.Compare.{nan_differs}
use Rattle.ieee.proofs.Tests.{is_nan_lem}

differs_at : (x : Float) → is_nan x ≡ true → ne x x ≡ true
unfolding is_nan
differs_at nan h = nan_differs
differs_at (inf s) h = absurd (false≢true h)
differs_at (fin s m e) h = absurd (false≢true h)

alike_at : (x : Float) → is_nan x ≡ false → (b : Bool) → ne x x ≡ b → ne x x ≡ false
alike_at x h true e = absurd (true≢false (sym (is_nan_lem x e) ∙ h))
alike_at x h false e = e

-- b being what the call gives
pub differs : {b : Bool} (x : Float) → b ≡ is_nan x → b ≡ true → ne x x ≡ true
differs x h t = differs_at x (sym h ∙ t)

pub alike : {b : Bool} (x : Float) → b ≡ is_nan x → b ≡ false → ne x x ≡ false
alike x h t = alike_at x (sym h ∙ t) (ne x x) refl

pub no_nan : {b : Bool} (x : Float) → b ≡ is_nan x → b ≡ false → T (not (is_nan x))
no_nan x h t = subst (λ (b : Bool). T (not b)) (sym t ∙ h) tt

-- f32::NAN and f64::NAN
pub nan32 : of_bits binary32 0x7fc0_0000 ≡ div binary32 (of_bits binary32 0) (of_bits binary32 0)
unfolding of_bits div
nan32 = refl

pub nan64 : of_bits binary64 0x7ff8_0000_0000_0000 ≡ div binary64 (of_bits binary64 0) (of_bits binary64 0)
unfolding of_bits div
nan64 = refl
