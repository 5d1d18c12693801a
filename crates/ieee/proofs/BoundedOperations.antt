-- The operations on bounded floats: a result is bounded by any whole number of the format that bounds the exact result.
use mathlib.Core.Path.{◌≡◌, refl, sym, ap, ◌∙◌, subst}
use mathlib.Core.Bool.{Bool, true, false, true≢false}
use Prim.Native.Nat.{ℕ, zero, suc, ◌+◌, ◌*◌, ◌≤◌, ◌<◌}
use native.Mathlib.Nat.{le_trans, le_of_eq, lt_irrefl, zero-lt-suc, mul-le-mul, mul-le-mul_right, le_of_mul-le-mul_right, mul-pos, mul-one, zero-mul, mul_assoc, mul_comm, mul_left_comm}
use native.Mathlib.Omega.{arith}
use lib.Dec.{eqb-suc-zero, lit<}
use lib.IntN.{ℤ, pos, negsuc, nat_abs}
use lib.Ieee.{Float, nan, inf, fin, Format, unlike, up, down, round, sum, add, mul, div, of_int}
use lib.Ieee.Fits.{up_pos, down_pos}
use lib.Ieee.Exact.{HasValue}
use Rattle.ieee.specs.Convert.{convert}
use Rattle.ieee.specs.Sqrt.{sqrt}
use Rattle.ieee.specs.Rounding.{fraction, root_of}
use Rattle.ieee.proofs.ConvertFormat.{round_rounds}
use Rattle.ieee.proofs.ConvertFromInt.{below_zero}
use Rattle.ieee.proofs.SquareRoot.{sqrt_rounds}
use Rattle.ieee.proofs.Bounded.{Bounded, HoldsWhole}
use Rattle.ieee.proofs.BoundedRounding.{rounded_bounded}

module _ (f : Format) (n : ℕ) (H : HoldsWhole f n) where
  round_bounded : (s : Bool) (num den : ℕ) → 0 < den → num ≤ n * den → Bounded (round f s num den) s n
  round_bounded s num den D h =
      rounded_bounded f s (fraction num den) D (round f s num den) (round_rounds f num den D s) n H (le_trans (le_of_eq (mul-one num)) h)

  -- ---- a sum of two with the same sign
  sum_is : (s : Bool) (a b c : ℕ) → sum f s a s b c ≡ round f s (a + b) c
  unfolding sum
  sum_is true a b c = refl
  sum_is false a b c = refl

  pub add_bounded : (s : Bool) (x y : Float) (a b : ℕ) → a + b ≤ n → Bounded x s a → Bounded y s b → Bounded (add f x y) s n
  unfolding add
  add_bounded s nan y a b h p q = absurd p
  add_bounded s (inf t) y a b h p q = absurd p
  add_bounded s (fin t m e) nan a b h p q = absurd q
  add_bounded s (fin t m e) (inf u) a b h p q = absurd q
  add_bounded s (fin t m e) (fin u k d) a b h p q =
      subst (λ (z : Float). Bounded z s n)
      (sym (sum_is s (m * up e * down d) (k * up d * down e) (down e * down d)) ∙ (λ i. sum f (sym p.0 i) (m * up e * down d) (sym q.0 i) (k * up d * down e) (down e * down d)))
      (round_bounded s (m * up e * down d + k * up d * down e) (down e * down d) (mul-pos (down_pos e) (down_pos d))
      (go (m * up e) (k * up d) (down e) (down d) p.1 q.1))
    where
      go : (x y c d : ℕ) → x ≤ a * c → y ≤ b * d → x * d + y * c ≤ n * (c * d)
      go x y c d p q =
          let l : x * d ≤ a * c * d = mul-le-mul_right d p in
          let r : y * c ≤ b * d * c = mul-le-mul_right c q in
          let w : (a + b) * (c * d) ≤ n * (c * d) = mul-le-mul_right (c * d) h in
          omega arith

  -- ---- a product
  pub mul_bounded : (s t : Bool) (x y : Float) (a b : ℕ) → a * b ≤ n → Bounded x s a → Bounded y t b → Bounded (mul f x y) (unlike s t) n
  unfolding mul
  mul_bounded s t nan y a b h p q = absurd p
  mul_bounded s t (inf v) y a b h p q = absurd p
  mul_bounded s t (fin v m e) nan a b h p q = absurd q
  mul_bounded s t (fin v m e) (inf u) a b h p q = absurd q
  mul_bounded s t (fin v m e) (fin u k d) a b h p q =
      subst (λ (z : Float). Bounded z (unlike s t) n) (λ i. round f (unlike (sym p.0 i) (sym q.0 i)) (m * up e * (k * up d)) (down e * down d))
      (round_bounded (unlike s t) (m * up e * (k * up d)) (down e * down d) (mul-pos (down_pos e) (down_pos d))
      (le_trans (mul-le-mul p.1 q.1) (le_trans (le_of_eq (regroup a (down e) b (down d))) (mul-le-mul_right (down e * down d) h))))
    where
      regroup : (a c b d : ℕ) → a * c * (b * d) ≡ a * b * (c * d)
      regroup a c b d = simp (mul_assoc, mul_comm, mul_left_comm)

  -- ---- a quotient, by p / q
  pub div_bounded : (s t : Bool) (x y : Float) (a p q : ℕ) → 0 < p → 0 < q → a * q ≤ n * p → Bounded x s a → HasValue y t p q → Bounded (div f x y) (unlike s t) n
  unfolding div
  div_bounded s t nan y a p q P Q h v w = absurd v
  div_bounded s t (inf u) y a p q P Q h v w = absurd v
  div_bounded s t (fin u m e) nan a p q P Q h v w = absurd w
  div_bounded s t (fin u m e) (inf z) a p q P Q h v w = absurd w
  div_bounded s t (fin u m e) (fin z zero d) a p q P Q h v w = absurd (lt_irrefl 0 (subst (λ (k : ℕ). 0 < k) (sym w.1 ∙ ap (λ (k : ℕ). k * q) (zero-mul (up d)) ∙ zero-mul q) (mul-pos P (down_pos d))))
  div_bounded s t (fin u m e) (fin z (suc k) d) a p q P Q h v w =
      rw (eqb-suc-zero k)
      (subst (λ (x : Float). Bounded x (unlike s t) n) (λ i. round f (unlike (sym v.0 i) (sym w.0 i)) (m * up e * down d) (suc k * up d * down e))
      (round_bounded (unlike s t) (m * up e * down d) (suc k * up d * down e) (mul-pos (mul-pos (zero-lt-suc k) (up_pos d)) (down_pos e))
      (go (m * up e) (suc k * up d) (down e) (down d) v.1 w.1)))
    where
      one : (a c d q : ℕ) → a * c * d * q ≡ a * q * (c * d)
      one a c d q = simp (mul_assoc, mul_comm, mul_left_comm)

      two : (n p c d : ℕ) → n * p * (c * d) ≡ n * c * (p * d)
      two n p c d = simp (mul_assoc, mul_comm, mul_left_comm)

      three : (n c y q : ℕ) → n * c * (y * q) ≡ n * (y * c) * q
      three n c y q = simp (mul_assoc, mul_comm, mul_left_comm)

      go : (x y c d : ℕ) → x ≤ a * c → y * q ≡ p * d → x * d ≤ n * (y * c)
      go x y c d i j =
          le_of_mul-le-mul_right
          (le_trans (mul-le-mul_right q (mul-le-mul_right d i))
          (le_trans (le_of_eq (one a c d q))
          (le_trans (mul-le-mul_right (c * d) h)
          (le_of_eq (two n p c d ∙ ap (λ (z : ℕ). n * c * z) (sym j) ∙ three n c y q)))))
          Q

  -- ---- a root
  pub sqrt_bounded : (x : Float) (a : ℕ) → a ≤ n * n → Bounded x false a → Bounded (sqrt f x) false n
  unfolding sqrt
  sqrt_bounded nan a h p = absurd p
  sqrt_bounded (inf t) a h p = absurd p
  sqrt_bounded (fin t zero e) a h p = (p.0, le_trans (le_of_eq (zero-mul (up e))) (omega arith))
  sqrt_bounded (fin true (suc m) e) a h p = absurd (true≢false p.0)
  sqrt_bounded (fin false (suc m) e) a h p =
      rounded_bounded f false (root_of (suc m * up e) (down e)) (down_pos e) (sqrt f (fin false (suc m) e)) (sqrt_rounds f m e) n H
      (le_trans (le_of_eq (mul-one (suc m * up e))) (le_trans p.1 (mul-le-mul_right (down e) h)))

  -- ---- at another format
  pub convert_bounded : (s : Bool) (x : Float) → Bounded x s n → Bounded (convert f x) s n
  unfolding convert
  convert_bounded s nan p = absurd p
  convert_bounded s (inf t) p = absurd p
  convert_bounded s (fin t m e) p = subst (λ (z : Float). Bounded z s n) (λ i. round f (sym p.0 i) (m * up e) (down e)) (round_bounded s (m * up e) (down e) (down_pos e) p.1)

  -- ---- a whole number within n
  pub whole_bounded : (z : ℤ) → nat_abs z ≤ n → Bounded (of_int f z) (below_zero z) n
  unfolding of_int
  whole_bounded (pos k) h = round_bounded false k 1 (lit< tt) (le_trans h (le_of_eq (sym (mul-one n))))
  whole_bounded (negsuc k) h = round_bounded true (suc k) 1 (lit< tt) (le_trans h (le_of_eq (sym (mul-one n))))

unlike_self : (s : Bool) → unlike s s ≡ false
unlike_self true = refl
unlike_self false = refl

-- the square of a whole number within a
pub square_bounded : (f : Format) (a n : ℕ) → HoldsWhole f a → HoldsWhole f n → a * a ≤ n → (z : ℤ) → nat_abs z ≤ a → Bounded (mul f (of_int f z) (of_int f z)) false n
square_bounded f a n A N h z g =
    let b : Bounded (of_int f z) (below_zero z) a = whole_bounded f a A z g in
    subst (λ (s : Bool). Bounded (mul f (of_int f z) (of_int f z)) s n) (unlike_self (below_zero z))
    (mul_bounded f n N (below_zero z) (below_zero z) (of_int f z) (of_int f z) a a h b b)
