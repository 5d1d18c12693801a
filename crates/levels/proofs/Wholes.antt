-- Float arithmetic on whole numbers, over the format: a sum or a product of whole numbers up to 2 ^ prec is the whole one, rounded once, so exact up to 2 ^ prec.
use mathlib.Core.Path.{◌≡◌, sym, subst}
use mathlib.Core.Bool.{true, false, not, cond, beq, ◌&&◌, true≢false}
use Prim.Native.Nat.{ℕ, zero, suc, ◌+◌, ◌-◌, ◌*◌, ◌^◌, ◌≤◌}
use native.Mathlib.Nat.{mul-pos}
use native.Mathlib.Omega.{arith}
use lib.Dec.{T, ltb}
use lib.IntN.{pos}
use lib.Ieee.{Float, nan, inf, fin, Format, prec, emax, low, up, down, odd, units, round, sum, add, sub, neg, mul, of_int, is_nan}
use lib.Ieee.Fits.{down_pos, round_is}
use lib.Ieee.Exact.{HasValue}
use lib.Ieee.Back.{round_whole}
use lib.Ieee.Scale.{round_same}
use Rattle.laws.proofs.Choice.{cond_both}
use Rattle.ieee.proofs.Units.{round_plain}
use Rattle.levels.specs.Clear.{clear}

module _ (f : Format) where
  pub whole_value : (n : ℕ) → n ≤ 2 ^ prec f → HasValue (of_int f (pos n)) false n 1
  unfolding of_int
  whole_value n h = round_whole f false n h

  -- two fractions with one denominator
  cross : (m n a b p q : ℕ) → m * 1 ≡ a * p → n * 1 ≡ b * q → (m * q + n * p) * 1 ≡ (a + b) * (p * q)
  cross m n a b p q g h = rw (one m a p g, one n b q h) (omega arith)
    where
      one : (m a p : ℕ) → m * 1 ≡ a * p → m ≡ a * p
      one m a p g = omega arith

  add_at : (x y : Float) (a b : ℕ) → HasValue x false a 1 → HasValue y false b 1 → add f x y ≡ of_int f (pos (a + b))
  unfolding add sum of_int
  add_at nan y a b g h = absurd g
  add_at (inf s) y a b g h = absurd g
  add_at (fin true m e) y a b g h = absurd (true≢false g.0)
  add_at (fin false m e) nan a b g h = absurd h
  add_at (fin false m e) (inf t) a b g h = absurd h
  add_at (fin false m e) (fin true n d) a b g h = absurd (true≢false h.0)
  add_at (fin false m e) (fin false n d) a b g h =
      round_same f false (m * up e * down d + n * up d * down e) (down e * down d) (a + b) 1 (mul-pos (down_pos e) (down_pos d)) (omega arith)
      (cross (m * up e) (n * up d) a b (down e) (down d) g.1 h.1)

  mul_at : (x y : Float) (a b : ℕ) → HasValue x false a 1 → HasValue y false b 1 → mul f x y ≡ of_int f (pos (a * b))
  unfolding mul of_int
  mul_at nan y a b g h = absurd g
  mul_at (inf s) y a b g h = absurd g
  mul_at (fin true m e) y a b g h = absurd (true≢false g.0)
  mul_at (fin false m e) nan a b g h = absurd h
  mul_at (fin false m e) (inf t) a b g h = absurd h
  mul_at (fin false m e) (fin true n d) a b g h = absurd (true≢false h.0)
  mul_at (fin false m e) (fin false n d) a b g h =
      round_same f false (m * up e * (n * up d)) (down e * down d) (a * b) 1 (mul-pos (down_pos e) (down_pos d)) (omega arith)
      (times (m * up e) (n * up d) a b (down e) (down d) g.1 h.1)
    where
      times : (m n a b p q : ℕ) → m * 1 ≡ a * p → n * 1 ≡ b * q → m * n * 1 ≡ a * b * (p * q)
      times m n a b p q g h = rw (one m a p g, one n b q h) (omega arith)
        where
          one : (m a p : ℕ) → m * 1 ≡ a * p → m ≡ a * p
          one m a p g = omega arith

  pub add_whole : (a b : ℕ) → a ≤ 2 ^ prec f → b ≤ 2 ^ prec f → add f (of_int f (pos a)) (of_int f (pos b)) ≡ of_int f (pos (a + b))
  add_whole a b p q = add_at (of_int f (pos a)) (of_int f (pos b)) a b (whole_value a p) (whole_value b q)

  pub mul_whole : (a b : ℕ) → a ≤ 2 ^ prec f → b ≤ 2 ^ prec f → mul f (of_int f (pos a)) (of_int f (pos b)) ≡ of_int f (pos (a * b))
  mul_whole a b p q = mul_at (of_int f (pos a)) (of_int f (pos b)) a b (whole_value a p) (whole_value b q)

-- ---- differences of whole numbers are numbers, and squares and their sums have the sign clear

units_clear : (f : Format) (q k : ℕ) → T (clear (units f false q k))
unfolding units odd
units_clear f q k = cond_both (λ (x : Float). T (clear x)) (ltb (q * 2 ^ k) (2 ^ (low f + suc (emax f)))) (odd (suc (prec f)) false q k (low f)) (inf false) (go q) tt
  where
    go : (q : ℕ) → T (clear (odd (suc (prec f)) false q k (low f)))
    go zero = tt
    go (suc q) = tt

round_clear : (f : Format) (a b : ℕ) → T (clear (round f false a b))
round_clear f a b = subst (λ (x : Float). T (clear x)) (sym (round_is f false a b)) (units_clear f _ _)

pub sub_plain : (f : Format) (x y : Float) (a b : ℕ) → HasValue x false a 1 → HasValue y false b 1 → T (not (is_nan (sub f x y)))
unfolding sub add neg sum
sub_plain f nan y a b g h = absurd g
sub_plain f (inf s) y a b g h = absurd g
sub_plain f (fin s m e) nan a b g h = absurd h
sub_plain f (fin s m e) (inf t) a b g h = absurd h
sub_plain f (fin s m e) (fin t n d) a b g h =
    let A = m * up e * down d in
    let B = n * up d * down e in
    let C = down e * down d in
    cond_both (λ (x : Float). T (not (is_nan x))) (beq s (not t)) (round f s (A + B) C) (cond (ltb A B) (round f (not t) (B - A) C) (round f (s && ltb B A) (A - B) C)) (round_plain f s (A + B) C)
    (cond_both (λ (x : Float). T (not (is_nan x))) (ltb A B) (round f (not t) (B - A) C) (round f (s && ltb B A) (A - B) C) (round_plain f (not t) (B - A) C) (round_plain f (s && ltb B A) (A - B) C))

pub square_clear : (f : Format) (x : Float) → T (not (is_nan x)) → T (clear (mul f x x))
unfolding mul is_nan
square_clear f nan p = absurd p
square_clear f (inf true) p = tt
square_clear f (inf false) p = tt
square_clear f (fin true m e) p = round_clear f (m * up e * (m * up e)) (down e * down e)
square_clear f (fin false m e) p = round_clear f (m * up e * (m * up e)) (down e * down e)

pub add_clear : (f : Format) (x y : Float) → T (clear x) → T (clear y) → T (clear (add f x y))
unfolding add sum
add_clear f nan y p q = absurd p
add_clear f (inf true) y p q = absurd p
add_clear f (inf false) nan p q = absurd q
add_clear f (inf false) (inf true) p q = absurd q
add_clear f (inf false) (inf false) p q = tt
add_clear f (inf false) (fin t n d) p q = tt
add_clear f (fin true m e) y p q = absurd p
add_clear f (fin false m e) nan p q = absurd q
add_clear f (fin false m e) (inf true) p q = absurd q
add_clear f (fin false m e) (inf false) p q = tt
add_clear f (fin false m e) (fin true n d) p q = absurd q
add_clear f (fin false m e) (fin false n d) p q = round_clear f (m * up e * down d + n * up d * down e) (down e * down d)
