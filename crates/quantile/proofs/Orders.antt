-- `total_less` is a strict order of all floats, and total on those of one format. A float stands in one of five ranks,
-- and within a rank by its size, of negative ones the other way round. Assumes nothing.
use mathlib.Core.Path.{◌≡◌, refl, sym, ap, ◌∙◌, subst}
use mathlib.Core.Bool.{Bool, true, false, ◌&&◌, ◌||◌, cond, true≢false}
use Prim.Native.Nat.{ℕ, zero, suc, ◌+◌, ◌-◌, ◌*◌, ◌/◌, ◌^◌, ◌≤◌, ◌<◌}
use mathlib.Core.Logic.{◌⊎◌, inl, inr}
use native.Mathlib.Omega.{arith}
use native.Mathlib.Nat.{le_antisymm, mul_right_comm, lt_irrefl}
use lib.Dec.{T, ltb, eqb}
use lib.Ieee.{Float, nan, inf, fin, Format, up, down, low, lt, eq, is_nan, fits, to_bits, of_bits, level, size, prec, hid, ones, top}
use lib.Ieee.Bits.{of_bits-to_bits}
use lib.Ieee.Fits.{down_pos}
use lib.Ieee.Nearest.{div_same}
use lib.Ieee.Positive.{through}
use borrow.Author.Tests.{lt-ltb, le-ltb, ltb-false, eq-eqb, ne_eqb}
use Rattle.ieee.specs.Order.{total_less, negative}
use Rattle.ieee.proofs.Naturals.{trichotomy}
use Rattle.ieee.proofs.TotalOrder.{transitive, irreflexive}

-- minus infinity, the finite ones with a minus, those without, infinity, no number
abbrev rank : Float → ℕ
rank (inf true) = 0
rank (fin true m e) = 1
rank (fin false m e) = 2
rank (inf false) = 3
rank nan = 4

-- the size of a finite one is num / den
abbrev num : Float → ℕ
num nan = 0
num (inf s) = 0
num (fin s m e) = m * up e

abbrev den : Float → ℕ
den nan = 1
den (inf s) = 1
den (fin s m e) = down e

den_pos : (x : Float) → 0 < den x
den_pos nan = omega arith
den_pos (inf s) = omega arith
den_pos (fin s m e) = down_pos e

-- x is at most y
data Upto (x y : Float) : Type 0 where
  apart : rank x < rank y → Upto x y
  minus : rank x ≡ 1 → rank y ≡ 1 → num y * den x ≤ num x * den y → Upto x y
  plus : rank x ≡ rank y → (rank x ≡ 1 → ⊥) → num x * den y ≤ num y * den x → Upto x y

upto_trans : (x y z : Float) → Upto x y → Upto y z → Upto x z
upto_trans x y z (apart a) (apart b) = apart (omega arith)
upto_trans x y z (apart a) (minus p q h) = apart (omega arith)
upto_trans x y z (apart a) (plus p q h) = apart (omega arith)
upto_trans x y z (minus p q h) (apart b) = apart (omega arith)
upto_trans x y z (plus p q h) (apart b) = apart (omega arith)
upto_trans x y z (minus p q h) (minus p' q' h') = minus p q' (through (num z) (num y) (num x) (den z) (den y) (den x) (den_pos y) h' h)
upto_trans x y z (minus p q h) (plus p' q' h') = absurd (q' q)
upto_trans x y z (plus p q h) (minus p' q' h') = absurd (q (p ∙ p'))
upto_trans x y z (plus p q h) (plus p' q' h') = plus (p ∙ p') q (through (num x) (num y) (num z) (den x) (den y) (den z) (den_pos y) h h')

-- ---- `total_less` by rank and size

abbrev over : Float → Float → Bool
over x y = ltb (num y * den x) (num x * den y)

abbrev by_rank : ℕ → ℕ → Bool → Bool → Bool
by_rank a b p q = ltb a b || (eqb a b && cond (eqb a 1) q p)

or_no : (a b : Bool) → (a || (b && false)) ≡ a
or_no true b = refl
or_no false true = refl
or_no false false = refl

mixed : (a b : ℕ) → (ltb 0 (a + b) || (eqb a b && (false || eqb a 0) && true)) ≡ true
mixed zero zero = refl
mixed zero (suc b) = rw (lt-ltb 0 (zero + suc b) (omega arith))
mixed (suc a) b = rw (lt-ltb 0 (suc a + b) (omega arith))

less_is : (x y : Float) → total_less x y ≡ by_rank (rank x) (rank y) (over y x) (over x y)
unfolding total_less is_nan lt eq negative
less_is nan nan = refl
less_is nan (inf true) = refl
less_is nan (inf false) = refl
less_is nan (fin true n d) = refl
less_is nan (fin false n d) = refl
less_is (inf true) nan = refl
less_is (inf true) (inf true) = refl
less_is (inf true) (inf false) = refl
less_is (inf true) (fin true n d) = refl
less_is (inf true) (fin false n d) = refl
less_is (inf false) nan = refl
less_is (inf false) (inf true) = refl
less_is (inf false) (inf false) = refl
less_is (inf false) (fin true n d) = refl
less_is (inf false) (fin false n d) = refl
less_is (fin true m e) nan = refl
less_is (fin true m e) (inf true) = refl
less_is (fin true m e) (inf false) = refl
less_is (fin true m e) (fin true n d) = or_no (ltb (n * up d * down e) (m * up e * down d)) (level true (m * up e * down d) true (n * up d * down e))
less_is (fin true m e) (fin false n d) = mixed (m * up e * down d) (n * up d * down e)
less_is (fin false m e) nan = refl
less_is (fin false m e) (inf true) = refl
less_is (fin false m e) (inf false) = refl
less_is (fin false m e) (fin true n d) = or_no false (level false (m * up e * down d) true (n * up d * down e))
less_is (fin false m e) (fin false n d) = or_no (ltb (m * up e * down d) (n * up d * down e)) (level false (m * up e * down d) false (n * up d * down e))

same_rank : (a b : ℕ) (p q : Bool) → a ≡ b → by_rank a b p q ≡ cond (eqb a 1) q p
same_rank a b p q e = rw (le-ltb a b (omega arith), eq-eqb a b e)

at_one : (a b : ℕ) (p q : Bool) → a ≡ b → a ≡ 1 → by_rank a b p q ≡ q
at_one a b p q e h = same_rank a b p q e ∙ rw (eq-eqb a 1 h)

elsewhere : (a b : ℕ) (p q : Bool) → a ≡ b → (a ≡ 1 → ⊥) → by_rank a b p q ≡ p
elsewhere a b p q e h = same_rank a b p q e ∙ rw (ne_eqb a 1 h)

lower : (a b : ℕ) (p q : Bool) → a < b → by_rank a b p q ≡ true
lower a b p q h = rw (lt-ltb a b h)

higher : (a b : ℕ) (p q : Bool) → b < a → by_rank a b p q ≡ false
higher a b p q h = rw (le-ltb a b (omega arith), ne_eqb a b (λ (e : a ≡ b). differ e))
  where
    differ : a ≡ b → ⊥
    differ e = omega arith

module _ (x y : Float) where
  -- y is not below x
  upto_of : total_less y x ≡ false → Upto x y
  upto_of h = elim (trichotomy (rank x) (rank y)) [
    | inl l ↦ apart l
    | inr (inl e) ↦ ties e (elim (trichotomy (rank x) 1) [ inl l ↦ inr (omega arith) | inr (inl o) ↦ inl o | inr (inr l) ↦ inr (omega arith) ])
    | inr (inr l) ↦ absurd (true≢false (sym (lower (rank y) (rank x) (over x y) (over y x) l) ∙ test))
  ]
    where
      test : by_rank (rank y) (rank x) (over x y) (over y x) ≡ false
      test = sym (less_is y x) ∙ h

      ties : rank x ≡ rank y → (rank x ≡ 1) ⊎ (rank x ≡ 1 → ⊥) → Upto x y
      ties e (inl o) = minus o (sym e ∙ o) (ltb-false (num x * den y) (num y * den x) (sym (at_one (rank y) (rank x) (over x y) (over y x) (sym e) (sym e ∙ o)) ∙ test))
      ties e (inr o) = plus e o (ltb-false (num y * den x) (num x * den y) (sym (elsewhere (rank y) (rank x) (over x y) (over y x) (sym e) (λ (u : rank y ≡ 1). o (e ∙ u))) ∙ test))

  not_below : Upto x y → total_less y x ≡ false
  not_below (apart l) = less_is y x ∙ higher (rank y) (rank x) (over x y) (over y x) l
  not_below (minus p q h) = less_is y x ∙ at_one (rank y) (rank x) (over x y) (over y x) (q ∙ sym p) q ∙ le-ltb (num x * den y) (num y * den x) h
  not_below (plus e o h) =
      less_is y x ∙ elsewhere (rank y) (rank x) (over x y) (over y x) (sym e) (λ (u : rank y ≡ 1). o (e ∙ u)) ∙ le-ltb (num y * den x) (num x * den y) h

pub asymmetric : (x y : Float) → total_less x y ≡ true → total_less y x ≡ false
asymmetric x y h = go (total_less y x) refl
  where
    go : (b : Bool) → total_less y x ≡ b → b ≡ false
    go true e = absurd (true≢false (sym (transitive x y x h e) ∙ irreflexive x))
    go false e = refl

pub upto : (x y z : Float) → total_less y x ≡ false → total_less z y ≡ false → total_less z x ≡ false
upto x y z p q = not_below x z (upto_trans x y z (upto_of x y p) (upto_of y z q))

pub below_upto : (v x y : Float) → total_less v x ≡ true → total_less y x ≡ false → total_less v y ≡ true
below_upto v x y p q = go (total_less v y) refl
  where
    go : (b : Bool) → total_less v y ≡ b → b ≡ true
    go true e = refl
    go false e = absurd (true≢false (sym p ∙ upto x y v q e))

-- ---- of two floats of one format one is below the other, or they are the same

whole : Format → Bool → ℕ → ℕ
whole f s n = cond s (top f) 0 + (size n - prec f) * hid f + n / 2 ^ (size n - prec f)

abbrev pattern : Format → ℕ → ℕ → ℕ
pattern f r n =
    cond (eqb r 0) (top f + ones f * hid f)
    (cond (eqb r 1) (whole f true n) (cond (eqb r 2) (whole f false n) (cond (eqb r 3) (0 + ones f * hid f) (ones f * hid f + hid f / 2))))

bits_are : (f : Format) (x : Float) → to_bits f x ≡ pattern f (rank x) (num x * 2 ^ low f / den x)
unfolding to_bits whole
bits_are f nan = refl
bits_are f (inf true) = refl
bits_are f (inf false) = refl
bits_are f (fin true m e) = refl
bits_are f (fin false m e) = refl

module _ (f : Format) (x y : Float) (F : T (fits f x)) (G : T (fits f y)) where
  same_size : rank x ≡ rank y → num x * den y ≡ num y * den x → x ≡ y
  same_size e h =
      sym (of_bits-to_bits f x F)
      ∙ ap (of_bits f) (bits_are f x ∙ rw (e, div_same (num x * 2 ^ low f) (den x) (num y * 2 ^ low f) (den y) (den_pos x) (den_pos y) (scaled (num x) (den x) (num y) (den y) (2 ^ low f) h)) (sym (bits_are f y)))
      ∙ of_bits-to_bits f y G
    where
      scaled : (a b c d u : ℕ) → a * d ≡ c * b → a * u * d ≡ c * u * b
      scaled a b c d u h = mul_right_comm a u d ∙ ap (λ (z : ℕ). z * u) h ∙ mul_right_comm c b u

  both : Upto x y → Upto y x → x ≡ y
  both (apart a) (apart b) = absurd (no (rank x) (rank y) a b)
    where
      no : (a b : ℕ) → a < b → b < a → ⊥
      no a b p q = omega arith
  both (apart a) (minus p q h) = absurd (lt_irrefl 1 (subst (λ (z : ℕ). z < 1) q (subst (λ (z : ℕ). rank x < z) p a)))
  both (apart a) (plus e o h) = absurd (lt_irrefl (rank x) (subst (λ (z : ℕ). rank x < z) e a))
  both (minus p q h) (apart b) = absurd (lt_irrefl 1 (subst (λ (z : ℕ). z < 1) q (subst (λ (z : ℕ). rank y < z) p b)))
  both (plus e o h) (apart b) = absurd (lt_irrefl (rank y) (subst (λ (z : ℕ). rank y < z) e b))
  both (minus p q h) (minus p' q' h') = same_size (p ∙ sym q) (le_antisymm h' h)
  both (minus p q h) (plus e o h') = absurd (o q)
  both (plus e o h) (minus p q h') = absurd (o q)
  both (plus e o h) (plus e' o' h') = same_size e (le_antisymm h h')

  pub total : total_less x y ≡ false → total_less y x ≡ false → x ≡ y
  total p q = both (upto_of x y q) (upto_of y x p)
