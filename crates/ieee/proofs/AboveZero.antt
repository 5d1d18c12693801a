-- The floats that are left to sqrt once its tests have taken out NaN, zeros and what is below zero: those above zero (`above`). And what it gives for the others, and for the infinity.
use mathlib.Core.Path.{◌≡◌, refl, sym, ap, ◌∙◌, subst}
use mathlib.Core.Bool.{Bool, true, false, not, ◌&&◌, true≢false, false≢true}
use mathlib.Core.Logic.{◌⊎◌, inl, inr}
use Prim.Native.Nat.{ℕ, zero, suc, ◌+◌, ◌*◌, ◌≤◌, ◌<◌}
use native.Mathlib.Nat.{le_antisymm, mod-eq_of_lt, mul-pos, zero-lt-suc, zero-mul, mul-one, eq-zero-or-pos}
use native.Mathlib.Omega.{arith}
use lib.IntN.{ℤ}
use lib.Dec.{T, eqb, ltb→lt, lt→ltb, eqb→eq}
use lib.Ieee.{Float, nan, inf, fin, Format, binary64, top, up, down, of_bits, to_bits, fits, is_nan, ne, eq, lt, div}
use lib.Ieee.Fits.{up_pos, and_l}
use lib.Ieee.Bits.{of_bits-to_bits}
use borrow.Author.Tests.{ltb-true}
use Rattle.ieee.specs.Order.{negative}
use Rattle.ieee.specs.Sqrt.{sqrt}
use Rattle.ieee.specs.Numbers.{plus_zero}
use Rattle.ieee.proofs.Tests.{yes, nan_is, zero_is, zero_over_zero}
use Rattle.ieee.proofs.Reading.{in_size, sign_test}

abbrev pub above : Float → Bool
above nan = false
above (inf s) = not s
above (fin s zero e) = false
above (fin s (suc m) e) = not s

-- ---- `x == 0.0`, `x < 0.0`
nothing : (e : ℤ) → zero * up e * 1 ≡ 0
nothing e = mul-one (zero * up e) ∙ zero-mul (up e)

something : (m : ℕ) (e : ℤ) → 0 < suc m * up e * 1
something m e = rw (mul-one (suc m * up e)) (mul-pos (zero-lt-suc m) (up_pos e))

eq_zero : (s : Bool) (e : ℤ) → eq (fin s zero e) plus_zero ≡ true
unfolding eq
eq_zero true e = rw (nothing e, zero-mul (down e))
eq_zero false e = rw (nothing e, zero-mul (down e))

lt_zero : (m : ℕ) (e : ℤ) → T (lt (fin true (suc m) e) plus_zero)
unfolding lt
lt_zero m e = lt→ltb 0 (suc m * up e * 1 + 0 * down e) (omega (arith, something m e))

above_at : (x : Float) → ne x x ≡ false → eq x plus_zero ≡ false → lt x plus_zero ≡ false → T (above x)
unfolding ne lt
above_at nan a b c = absurd (true≢false a)
above_at (inf true) a b c = absurd (true≢false c)
above_at (inf false) a b c = tt
above_at (fin s zero e) a b c = absurd (true≢false (sym (eq_zero s e) ∙ b))
above_at (fin true (suc m) e) a b c = absurd (subst T c (lt_zero m e))
above_at (fin false (suc m) e) a b c = tt

pub above_zero : (f : Format) (x : Float) → ne x x ≡ false → eq x (of_bits f 0) ≡ false → lt x (of_bits f 0) ≡ false → T (above x)
above_zero f x a b c = above_at x a (rw (zero_is f) at b) (rw (zero_is f) at c)

-- ---- the others
pub sqrt_nan : (f : Format) (x : Float) → ne x x ≡ true → x ≡ sqrt f x
unfolding sqrt
sqrt_nan f x h = rw (nan_is x h)

not_zero : (m : ℕ) (e : ℤ) (b : Bool) → eqb (suc m * up e * 1) (0 * down e) && b ≡ true → ⊥
not_zero m e b h =
    let z : suc m * up e * 1 ≡ 0 = eqb→eq (suc m * up e * 1) (0 * down e) (and_l (eqb (suc m * up e * 1) (0 * down e)) b (yes h)) ∙ zero-mul (down e) in
    omega (arith, something m e)

zero_at : (f : Format) (x : Float) → eq x plus_zero ≡ true → x ≡ sqrt f x
unfolding eq sqrt
zero_at f nan h = refl
zero_at f (inf s) h = absurd (false≢true h)
zero_at f (fin s zero e) h = refl
zero_at f (fin s (suc m) e) h = absurd (not_zero m e _ h)

pub sqrt_zero : (f : Format) (x : Float) → eq x (of_bits f 0) ≡ true → x ≡ sqrt f x
sqrt_zero f x h = zero_at f x (rw (zero_is f) at h)

below_at : (f : Format) (x : Float) → lt x plus_zero ≡ true → nan ≡ sqrt f x
unfolding lt sqrt
below_at f nan h = refl
below_at f (inf true) h = refl
below_at f (inf false) h = absurd (false≢true h)
below_at f (fin false m e) h = absurd (none (m * up e * 1) (0 * down e) (zero-mul (down e)) (ltb→lt (m * up e * 1) (0 * down e) (yes h)))
  where
    none : (a b : ℕ) → b ≡ 0 → a < b → ⊥
    none a b z l = omega arith
below_at f (fin true zero e) h = absurd (none (zero * up e * 1) (0 * down e) (nothing e) (zero-mul (down e)) (ltb→lt 0 (zero * up e * 1 + 0 * down e) (yes h)))
  where
    none : (a b : ℕ) → a ≡ 0 → b ≡ 0 → 0 < a + b → ⊥
    none a b x y l = omega arith
below_at f (fin true (suc m) e) h = refl

pub sqrt_below : (f : Format) (x : Float) → lt x (of_bits f 0) ≡ true → div f (of_bits f 0) (of_bits f 0) ≡ sqrt f x
sqrt_below f x h = zero_over_zero f ∙ below_at f x (rw (zero_is f) at h)

-- ---- an x above zero, by its pattern
pub above_plain : (x : Float) → T (above x) → T (not (is_nan x))
unfolding is_nan
above_plain nan A = A
above_plain (inf s) A = tt
above_plain (fin s m e) A = tt

above_plus : (x : Float) → T (above x) → negative x ≡ false
unfolding negative
above_plus nan A = refl
above_plus (inf true) A = absurd A
above_plus (inf false) A = refl
above_plus (fin s zero e) A = absurd A
above_plus (fin true (suc m) e) A = absurd A
above_plus (fin false (suc m) e) A = refl

above_low : (f : Format) (x : Float) → T (fits f x) → T (above x) → to_bits f x < top f
above_low f x F A = ltb-true (to_bits f x) (top f) (sign_test f x F (above_plain x A) ∙ ap not (above_plus x A))

inf_is : of_bits binary64 0x7ff0_0000_0000_0000 ≡ inf false
unfolding of_bits
inf_is = refl

sqrt_inf : (f : Format) → inf false ≡ sqrt f (inf false)
unfolding sqrt
sqrt_inf f = refl

module _ (x : Float) (F : T (fits binary64 x)) (A : T (above x)) where
  abbrev b : ℕ
  b = to_bits binary64 x

  most : b ≤ 0x7ff0_0000_0000_0000
  most = subst (λ (y : ℕ). y ≤ 0x7ff0_0000_0000_0000) (mod-eq_of_lt (above_low binary64 x F A)) (in_size binary64 x F (above_plain x A))

  pub sqrt_top : (f : Format) → 0x7ff0_0000_0000_0000 ≤ b → x ≡ sqrt f x
  sqrt_top f h =
      let e : x ≡ inf false = sym (of_bits-to_bits binary64 x F) ∙ ap (of_bits binary64) (le_antisymm most h) ∙ inf_is in
      e ∙ sqrt_inf f ∙ ap (sqrt f) (sym e)

  pub above_some : 0 < b
  above_some = go (eq-zero-or-pos b)
    where
      go : (b ≡ 0) ⊎ (0 < b) → 0 < b
      go (inl z) = absurd (subst (λ (y : Float). T (above y)) (sym (of_bits-to_bits binary64 x F) ∙ ap (of_bits binary64) z ∙ zero_is binary64) A)
      go (inr p) = p
