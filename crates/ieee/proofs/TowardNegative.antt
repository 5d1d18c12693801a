-- `floor` is IEEE 754-2019's roundToIntegralTowardNegative (section 5.9): of a finite number of the format it is the greatest whole number that is at most that, with the same sign
-- (`floor_rounds`), and nothing else is what that asks (`floor_only`). Zeros, infinities and NaN stay.
use mathlib.Core.Path.{◌≡◌, refl, sym, ap, ◌∙◌, subst}
use mathlib.Core.Bool.{Bool, true, false}
use Prim.Native.Nat.{ℕ, suc, ◌+◌, ◌*◌, ◌^◌, ◌≤◌, ◌<◌}
use native.Mathlib.Nat.{le_trans, le_antisymm, le_of_eq, le_of_lt, le_of_suc-le-suc, lt_of_lt_of_le, lt_of_le_of_lt, mul-one, lt_of_mul-lt-mul_right, mul-le-mul_right, zero-mul}
use native.Mathlib.Omega.{arith}
use lib.Dec.{T, eqb, le→leb, leb→le, eqb→eq}
use lib.IntN.{ℤ, pos, negsuc}
use lib.Pow.{pow_pos}
use lib.Ieee.{Float, nan, inf, fin, Format, binary32, binary64, up, down, round, fits}
use lib.Ieee.Fits.{down_pos, round-fits, and_l, and_r, and_i, eq→eqb}
use lib.Ieee.Back.{round_whole, whole_unique}
use lib.Ieee.Exact.{HasValue}
use Rattle.ieee.specs.Floor.{cut, floor, RoundTowardNegative}
use Rattle.ieee.proofs.Cuts.{Between, cut_between, cut_le}
use Rattle.ieee.proofs.Comparing.{up_to, le_is}
use Rattle.ieee.proofs.Values.{value_negative, rescale}
use Rattle.ieee.proofs.Grid.{few}
use Rattle.ieee.proofs.ConvertFormat.{exact}

-- ---- the greatest whole number that is at most ±num / den
module _ (num den n : ℕ) (D : 0 < den) where
  at_most : (s : Bool) → Between s num den n → T (up_to s (n * den) s num)
  at_most false b = le→leb (n * den) num b.0
  at_most true b = le→leb num (n * den) b.0

  above_none : (s t : Bool) (k : ℕ) → Between s num den n → T (up_to t (k * den) s num) → T (up_to t (k * den) s (n * den))
  above_none false false k b h = le→leb (k * den) (n * den) (mul-le-mul_right den (le_of_suc-le-suc (lt_of_mul-lt-mul_right den (lt_of_le_of_lt (leb→le (k * den) num h) b.1))))
  above_none false true k b h = tt
  above_none true false k b h =
      let z : num ≡ 0 = eqb→eq num 0 (and_r (eqb (k * den) 0) (eqb num 0) h) in
      and_i (eqb (k * den) 0) (eqb (n * den) 0) (and_l (eqb (k * den) 0) (eqb num 0) h) (eq→eqb (none n den (subst (λ (a : ℕ). n * den < a + den) z b.1)))
    where
      none : (n d : ℕ) → n * d < 0 + d → n * d ≡ 0
      none n d h = ap (λ (a : ℕ). a * d) (least n (lt_of_mul-lt-mul_right d (lt_of_lt_of_le h (le_of_eq (one d))))) ∙ zero-mul d
        where
          one : (d : ℕ) → 0 + d ≡ 1 * d
          one d = omega arith

          least : (n : ℕ) → n < 1 → n ≡ 0
          least n h = omega arith
  above_none true true k b h = le→leb (n * den) (k * den) (mul-le-mul_right den (le_of_suc-le-suc (lt_of_mul-lt-mul_right den (go (n * den) k num den b.1 (leb→le num (k * den) h)))))
    where
      go : (a k c d : ℕ) → a < c + d → c ≤ k * d → a < suc k * d
      go a k c d h l = omega arith

-- ---- what `floor` gives: a float of the size cut, exactly
module _ (f : Format) (s : Bool) where
  floor_value : (m : ℕ) (e : ℤ) → T (fits f (fin s m e)) → HasValue (round f s (cut s (m * up e) (down e)) 1) s (cut s (m * up e) (down e)) 1
  floor_value m (pos k) F =
      let w = m * 2 ^ k in
      let stays : cut s w 1 ≡ w = plain s w in
      subst (λ (a : ℕ). HasValue (round f s a 1) s a 1) (sym stays) (subst (λ (x : Float). HasValue x s w 1) (sym (exact f s m (pos k) F)) (refl, refl))
    where
      plain : (s : Bool) (w : ℕ) → cut s w 1 ≡ w
      plain true w = omega arith
      plain false w = omega arith
  floor_value m (negsuc k) F =
      round_whole f s (cut s (m * 1) (2 ^ suc k)) (le_trans (cut_le s (m * 1) (2 ^ suc k) (pow_pos (suc k))) (le_trans (le_of_eq (mul-one m)) (le_of_lt (few f s m (negsuc k) F))))

  module _ (m : ℕ) (e : ℤ) (F : T (fits f (fin s m e))) where
    abbrev x : Float
    x = fin s m e

    abbrev n : ℕ
    n = cut s (m * up e) (down e)

    -- at x's denominator
    widened : (y : Float) (t : Bool) (k : ℕ) → HasValue y t k 1 → HasValue y t (k * down e) (down e)
    widened y t k v = rescale y t k 1 (k * down e) (down e) (pow_pos 0) (mul-one (k * down e)) v

    pub floor_rounds : RoundTowardNegative f x (floor f x)
    unfolding floor
    floor_rounds =
        let r = round f s n 1 in
        let v : HasValue r s n 1 = floor_value m e F in
        let b = cut_between s (m * up e) (down e) (down_pos e) in
        record {
          held = round-fits f s n 1;
          whole = (s, n, v);
          below = subst T (sym (le_is r x s s (n * down e) (m * up e) (down e) (down_pos e) (widened r s n v) (refl, refl))) (at_most (m * up e) (down e) n (down_pos e) s b);
          greatest = λ y w h.
              subst T (sym (le_is y r w.0 s (w.1 * down e) (n * down e) (down e) (down_pos e) (widened y w.0 w.1 w.2) (widened r s n v)))
              (above_none (m * up e) (down e) n (down_pos e) s w.0 w.1 b (subst T (le_is y x w.0 s (w.1 * down e) (m * up e) (down e) (down_pos e) (widened y w.0 w.1 w.2) (refl, refl)) h));
          sign = value_negative r s n 1 v ∙ sym (value_negative x s (m * up e) (down e) (refl, refl));
        }

-- ---- and nothing else is: two answers are each at most the other, and have x's sign, so one size
one_size : (s : Bool) (j k : ℕ) → T (up_to s j s k) → T (up_to s k s j) → j ≡ k
one_size false j k a b = le_antisymm (leb→le j k a) (leb→le k j b)
one_size true j k a b = le_antisymm (leb→le j k b) (leb→le k j a)

module _ (f : Format) (x y z : Float) (A : RoundTowardNegative f x y) (B : RoundTowardNegative f x z) where
  one_answer : y ≡ z
  one_answer = whole_unique f y z s j A.held B.held v (subst (λ (n : ℕ). HasValue z s n 1) (sym same) w)
    where
      s : Bool
      s = A.whole.0

      j : ℕ
      j = A.whole.1

      k : ℕ
      k = B.whole.1

      v : HasValue y s j 1
      v = A.whole.2

      w : HasValue z s k 1
      w =
          subst (λ (b : Bool). HasValue z b k 1)
          (sym (value_negative z B.whole.0 k 1 B.whole.2) ∙ B.sign ∙ sym A.sign ∙ value_negative y s j 1 v) B.whole.2

      same : j ≡ k
      same =
          one_size s j k (subst T (le_is y z s s j k 1 (pow_pos 0) v w) (B.greatest y A.whole A.below))
          (subst T (le_is z y s s k j 1 (pow_pos 0) w v) (A.greatest z B.whole B.below))

pub floor_only : (f : Format) (s : Bool) (m : ℕ) (e : ℤ) → T (fits f (fin s m e)) → (y : Float) → RoundTowardNegative f (fin s m e) y → y ≡ floor f (fin s m e)
floor_only f s m e F y A = one_answer f (fin s m e) y (floor f (fin s m e)) A (floor_rounds f s m e F)

-- ---- specials
module _ (f : Format) where
  pub floor_nan : floor f nan ≡ nan
  unfolding floor
  floor_nan = refl

  pub floor_inf : (s : Bool) → floor f (inf s) ≡ inf s
  unfolding floor
  floor_inf s = refl

pub floor_zero : (f : Format) (s : Bool) → floor f (fin s 0 (pos 0)) ≡ fin s 0 (pos 0)
unfolding floor
floor_zero binary32 true = refl
floor_zero binary32 false = refl
floor_zero binary64 true = refl
floor_zero binary64 false = refl
