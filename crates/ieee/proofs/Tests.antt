-- What a test of the code tells: `x != x` finds the NaN, and a comparison that holds has none. And the floats that the code writes 0.0, 0.0 / 0.0 and 1.0 / 0.0.
use mathlib.Core.Path.{◌≡◌, refl, sym, subst}
use mathlib.Core.Bool.{Bool, true, false, not, true≢false, false≢true}
use lib.Dec.{T}
use lib.Ieee.{Float, nan, inf, fin, Format, binary32, binary64, ne, lt, div, of_bits, is_nan}
use lib.Ieee.Compare.{differs_from_itself}
use Rattle.ieee.specs.Numbers.{plus_zero}

pub yes : {b : Bool} → b ≡ true → T b
yes h = subst T (sym h) tt

-- ---- `x != x`
pub nan_is : (x : Float) → ne x x ≡ true → x ≡ nan
nan_is x h = differs_from_itself x (yes h)

pub is_nan_lem : (x : Float) → ne x x ≡ true → is_nan x ≡ true
unfolding is_nan
is_nan_lem x h = rw (nan_is x h)

pub is_plain : (x : Float) → ne x x ≡ false → is_nan x ≡ false
unfolding ne is_nan
is_plain nan h = absurd (true≢false h)
is_plain (inf s) h = refl
is_plain (fin s m e) h = refl

pub no_nan : (x : Float) → ne x x ≡ false → T (not (is_nan x))
no_nan x h = subst (λ (b : Bool). T (not b)) (sym (is_plain x h)) tt

-- ---- `a < b`
pub left_plain : (a b : Float) → lt a b ≡ true → is_nan a ≡ false
unfolding lt is_nan
left_plain nan b h = absurd (false≢true h)
left_plain (inf s) b h = refl
left_plain (fin s m e) b h = refl

pub right_plain : (a b : Float) → lt a b ≡ true → is_nan b ≡ false
unfolding lt is_nan
right_plain nan nan h = absurd (false≢true h)
right_plain (inf s) nan h = absurd (false≢true h)
right_plain (fin s m e) nan h = absurd (false≢true h)
right_plain a (inf t) h = refl
right_plain a (fin t n d) h = refl

-- ---- what the code writes
pub zero_is : (f : Format) → of_bits f 0 ≡ plus_zero
unfolding of_bits
zero_is binary32 = refl
zero_is binary64 = refl

pub zero_over_zero : (f : Format) → div f (of_bits f 0) (of_bits f 0) ≡ nan
unfolding of_bits div
zero_over_zero binary32 = refl
zero_over_zero binary64 = refl

pub one_over_zero : div binary32 (of_bits binary32 0x3f80_0000) (of_bits binary32 0) ≡ inf false
unfolding of_bits div
one_over_zero = refl
