-- The ranges are what the machine's comparisons with their limits say: a limit is a whole number. Assumes nothing.
use mathlib.Core.Path.{◌≡◌, refl, sym, ap, ◌∙◌}
use mathlib.Core.Bool.{Bool, true, false, not, ◌&&◌}
use Prim.Native.Nat.{ℕ, zero, suc, ◌*◌, ◌≤◌, ◌<◌}
use native.Mathlib.Nat.{mul_right_comm, zero-mul, mul-le-mul_left}
use native.Mathlib.Omega.{arith}
use lib.Dec.{leb, eqb, leb-zero, eqb-suc-zero}
use lib.IntN.{ℤ, pos, negsuc}
use lib.Pow.{pow_pos}
use lib.Ieee.{Float, nan, inf, fin, up, down, neg, le, lt, eq, of_int, binary32}
use lib.Ieee.Back.{round_whole}
use Rattle.std.proofs.Math.Bool.{and-false, and-true}
use lib.Ieee.Fits.{down_pos}
use lib.Ieee.Exact.{HasValue}
use borrow.Author.Tests.{le-leb, ne_eqb}
use Rattle.ieee.proofs.Comparing.{le_is}
use Rattle.ranges.specs.Ranges.{within, up_to}

-- ---- x and a limit, over the denominator of x

-- the same number, over d
over_any : (l : Float) (s : Bool) (n d : ℕ) → HasValue l s n 1 → HasValue l s (n * d) d
over_any nan s n d v = v
over_any (inf t) s n d v = v
over_any (fin t m e) s n d v = (v.0, ap (λ (k : ℕ). k * d) (whole (m * up e) (n * down e) v.1) ∙ mul_right_comm n (down e) d)
  where
    whole : (a b : ℕ) → a * 1 ≡ b → a ≡ b
    whole a b h = omega arith

minus : (l : Float) (n : ℕ) → HasValue l false n 1 → HasValue (neg l) true n 1
unfolding neg
minus nan n v = v
minus (inf t) n v = v
minus (fin t m e) n v = (ap not v.0, v.1)

module _ (n : ℕ) (l : Float) (v : HasValue l false n 1) (m : ℕ) (e : ℤ) where
  value : (s : Bool) → HasValue (fin s m e) s (m * up e) (down e)
  value s = (refl, refl)

  limit : HasValue l false (n * down e) (down e)
  limit = over_any l false n (down e) v

  low : HasValue (neg l) true (n * down e) (down e)
  low = over_any (neg l) true n (down e) (minus l n v)

  under : le (fin false m e) l ≡ leb (m * up e) (n * down e)
  under = le_is _ _ false false (m * up e) (n * down e) (down e) (down_pos e) (value false) limit

  over : le (neg l) (fin true m e) ≡ leb (m * up e) (n * down e)
  over = le_is _ _ true true (n * down e) (m * up e) (down e) (down_pos e) low (value true)

  minus_under : le (fin true m e) l ≡ true
  minus_under = le_is _ _ true false (m * up e) (n * down e) (down e) (down_pos e) (value true) limit

  plus_over : le (neg l) (fin false m e) ≡ true
  plus_over = le_is _ _ true false (n * down e) (m * up e) (down e) (down_pos e) low (value false)

-- -limit ≤ x ≤ limit
pub within_is : (n : ℕ) (l : Float) → HasValue l false n 1 → (x : Float) → le (neg l) x && le x l ≡ within n x
unfolding within le lt eq neg
within_is n nan v x = absurd v
within_is n (inf t) v x = absurd v
within_is n (fin t q d) v nan = refl
within_is n (fin t q d) v (inf true) = refl
within_is n (fin t q d) v (inf false) = and-false (le (neg (fin t q d)) (inf false))
within_is n (fin t q d) v (fin false m e) = ap (λ (b : Bool). b && le (fin false m e) (fin t q d)) (plus_over n (fin t q d) v m e) ∙ under n (fin t q d) v m e
within_is n (fin t q d) v (fin true m e) =
    ap (λ (b : Bool). b && le (fin true m e) (fin t q d)) (over n (fin t q d) v m e)
    ∙ ap (λ (b : Bool). leb (m * up e) (n * down e) && b) (minus_under n (fin t q d) v m e) ∙ and-true (leb (m * up e) (n * down e))

-- ---- 0 ≤ x ≤ limit

naught : (e : ℤ) → HasValue (fin false 0 (pos 0)) false 0 (down e)
naught e = (refl, zero-mul (down e))

up_pos : (e : ℤ) → 0 < up e
up_pos (pos k) = pow_pos k
up_pos (negsuc k) = omega arith

-- a number with a minus is at or above zero only where it is minus zero
minus_zero : (m : ℕ) (e : ℤ) → le (fin false 0 (pos 0)) (fin true m e) ≡ eqb m 0
minus_zero m e = le_is _ _ false true 0 (m * up e) (down e) (down_pos e) (naught e) (refl, refl) ∙ scaled m
  where
    scaled : (m : ℕ) → eqb (m * up e) 0 ≡ eqb m 0
    scaled zero = ap (λ (n : ℕ). eqb n 0) (zero-mul (up e))
    scaled (suc m) = ne_eqb (suc m * up e) 0 (λ q. omega (arith, q, mul-le-mul_left (suc m) (up_pos e))) ∙ sym (eqb-suc-zero m)

plus_zero_lem : (m : ℕ) (e : ℤ) → le (fin false 0 (pos 0)) (fin false m e) ≡ true
plus_zero_lem m e = le_is _ _ false false 0 (m * up e) (down e) (down_pos e) (naught e) (refl, refl) ∙ leb-zero (m * up e)

pub up_to_is : (n : ℕ) (l : Float) → HasValue l false n 1 → (x : Float) → le (fin false 0 (pos 0)) x && le x l ≡ up_to n x
unfolding up_to le lt eq
up_to_is n nan v x = absurd v
up_to_is n (inf t) v x = absurd v
up_to_is n (fin t q d) v nan = refl
up_to_is n (fin t q d) v (inf true) = refl
up_to_is n (fin t q d) v (inf false) = and-false (le (fin false 0 (pos 0)) (inf false))
up_to_is n (fin t q d) v (fin false m e) = ap (λ (b : Bool). b && le (fin false m e) (fin t q d)) (plus_zero_lem m e) ∙ under n (fin t q d) v m e
up_to_is n (fin t q d) v (fin true zero e) =
    ap (λ (b : Bool). b && le (fin true zero e) (fin t q d)) (minus_zero zero e) ∙ minus_under n (fin t q d) v zero e
    ∙ sym (le-leb (0 * up e) (n * down e) (omega (arith, zero-mul (up e))))
up_to_is n (fin t q d) v (fin true (suc m) e) =
    ap (λ (b : Bool). b && le (fin true (suc m) e) (fin t q d)) (minus_zero (suc m) e ∙ eqb-suc-zero m)
    ∙ ap (λ (b : Bool). b && leb (suc m * up e) (n * down e)) (sym (eqb-suc-zero m))

-- ---- a whole number that f32 holds, as a float

pub whole_value : (n : ℕ) → n ≤ 16777216 → HasValue (of_int binary32 (pos n)) false n 1
unfolding of_int
whole_value n h = round_whole binary32 false n h
