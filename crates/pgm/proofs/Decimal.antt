-- A numeral is what `decimal_of` writes: 1 to 5 digits, the first not 0, are the decimal form of the number that they write, and of no other.
use mathlib.Core.Path.{◌≡◌, refl, sym, ap, ◌∙◌, subst}
use mathlib.Core.Bool.{Bool, true, false}
use mathlib.Core.List.{List, [], ◌∷◌, ◌++◌, append_assoc}
use Prim.Native.Nat.{ℕ, zero, suc, ◌+◌, ◌*◌, ◌-◌, ◌/◌, ◌%◌, ◌^◌, ◌≤◌, ◌<◌}
use native.Mathlib.Omega.{arith}
use native.Mathlib.Nat.{mul-le-mul_right, pow-le-pow_right, one-le-pow}
use lib.Dec.{ltb}
use lib.ListN.{length, get_or}
use borrow.Author.Tests.{ltb-true, ltb-false, lt-ltb}
use Rattle.io.specs.Digits.{hex_digit_ascii, last_digits, IsDigitCount}
use Rattle.text.specs.Numerals.{decimal_of}
use Rattle.text.proofs.Decimals.{places_is, length_digits}
use Rattle.pgm.specs.Grammar.{Digits, Numeral, number_after, number_in}

tens : (k : ℕ) → 10 ^ suc k ≡ 10 * 10 ^ k
tens k = omega arith

-- n digits after a number v write v × 10 ^ n and less than 10 ^ n more
least : (v : ℕ) (d : List ℕ) → v * 10 ^ length d ≤ number_after v d
least v [] = omega arith
least v (b ∷ d) = go (10 ^ length d) (10 ^ suc (length d)) (tens (length d)) (number_after (v * 10 + (b - 48)) d) (least (v * 10 + (b - 48)) d)
  where
    go : (p q : ℕ) → q ≡ 10 * p → (x : ℕ) → (v * 10 + (b - 48)) * p ≤ x → v * q ≤ x
    go p q e x h = rw e (omega arith)

most : (v : ℕ) (d : List ℕ) → Digits d → number_after v d < (v + 1) * 10 ^ length d
most v [] g = omega arith
most v (b ∷ d) (r, g) = go (10 ^ length d) (10 ^ suc (length d)) (tens (length d)) (number_after (v * 10 + (b - 48)) d) (most (v * 10 + (b - 48)) d g)
  where
    go : (p q : ℕ) → q ≡ 10 * p → (x : ℕ) → x < (v * 10 + (b - 48) + 1) * p → x < (v + 1) * q
    go p q e x h = rw e (omega (arith, mul-le-mul_right {m = b - 48} {n = 9} p (omega (arith, r.1))))

pub below : (d : List ℕ) → Digits d → number_in d < 10 ^ length d
below d g = omega (arith, most 0 d g)

-- a digit's byte
glyph_digit : (x : ℕ) → x ≤ 9 → hex_digit_ascii x ≡ 48 + x
glyph_digit x h = rw (lt-ltb x 10 (omega arith)) refl

-- digits written, and read
more : (v : ℕ) (d e : List ℕ) → number_after v (d ++ e) ≡ number_after (number_after v d) e
more v [] e = refl
more v (b ∷ d) e = more (v * 10 + (b - 48)) d e

pub value_digits : (k n : ℕ) → n < 10 ^ k → number_in (last_digits 10 k n) ≡ n
value_digits zero n h = none n h
  where
    none : (n : ℕ) → n < 1 → 0 ≡ n
    none n h = omega arith
value_digits (suc k) n h =
    more 0 (last_digits 10 k (n / 10)) (hex_digit_ascii (n % 10) ∷ [])
    ∙ last (number_in (last_digits 10 k (n / 10))) (hex_digit_ascii (n % 10)) (value_digits k (n / 10) (less (10 ^ k) (10 ^ suc k) (tens k) h)) (glyph_digit (n % 10) (omega arith))
  where
    less : (p q : ℕ) → q ≡ 10 * p → n < q → n / 10 < p
    less p q e h = omega arith

    last : (x g : ℕ) → x ≡ n / 10 → g ≡ 48 + n % 10 → x * 10 + (g - 48) ≡ n
    last x g e f = omega arith

digits_more : (d e : List ℕ) → Digits d → Digits e → Digits (d ++ e)
digits_more [] e g h = h
digits_more (b ∷ d) e (p, g) h = (p, digits_more d e g h)

pub digits_are : (k n : ℕ) → Digits (last_digits 10 k n)
digits_are zero n = tt
digits_are (suc k) n = digits_more (last_digits 10 k (n / 10)) (hex_digit_ascii (n % 10) ∷ []) (digits_are k (n / 10)) ((omega (arith, glyph_digit (n % 10) (omega arith)), omega (arith, glyph_digit (n % 10) (omega arith))), tt)

-- digits read, and written
again : (k v : ℕ) (d : List ℕ) → Digits d → last_digits 10 (k + length d) (number_after v d) ≡ last_digits 10 k v ++ d
again k v [] g = ap (λ (j : ℕ). last_digits 10 j v) {x = k + 0} {y = k} (omega arith) ∙ sym (append_nil (last_digits 10 k v))
  where
    append_nil : (l : List ℕ) → l ++ [] ≡ l
    append_nil [] = refl
    append_nil (x ∷ l) = ap (λ (m : List ℕ). x ∷ m) (append_nil l)
again k v (b ∷ d) (r, g) =
    ap (λ (j : ℕ). last_digits 10 j (number_after v' d)) {x = k + suc (length d)} {y = suc k + length d} (omega arith)
    ∙ again (suc k) v' d g
    ∙ ap (λ (j : ℕ). (last_digits 10 k j ++ (hex_digit_ascii (v' % 10) ∷ [])) ++ d) {x = v' / 10} {y = v} (omega (arith, r.1))
    ∙ ap (λ (j : ℕ). (last_digits 10 k v ++ (j ∷ [])) ++ d) {x = hex_digit_ascii (v' % 10)} {y = b} (omega (arith, r.0, r.1, glyph_digit (v' % 10) (omega arith)))
    ∙ append_assoc (last_digits 10 k v) (b ∷ []) d
  where
    v' : ℕ
    v' = v * 10 + (b - 48)

pub digits_value : (d : List ℕ) → Digits d → last_digits 10 (length d) (number_in d) ≡ d
digits_value d g = ap (λ (j : ℕ). last_digits 10 j (number_in d)) {x = length d} {y = 0 + length d} (omega arith) ∙ again 0 0 d g

-- a numeral has the fewest digits
fewest : (d : List ℕ) → Numeral d → IsDigitCount 10 1 (number_in d) (length d)
fewest [] n = absurd (never n.some)
  where
    never : 1 ≤ 0 → ⊥
    never h = omega arith
fewest (b ∷ d) n = (n.some, below (b ∷ d) n.digits, λ _. subst (λ (j : ℕ). 10 ^ j ≤ number_after (0 * 10 + (b - 48)) d) {x = length d} {y = suc (length d) - 1} (omega arith) (up (10 ^ length d) (least (0 * 10 + (b - 48)) d)))
  where
    up : (p : ℕ) → (0 * 10 + (b - 48)) * p ≤ number_after (0 * 10 + (b - 48)) d → p ≤ number_after (0 * 10 + (b - 48)) d
    up p h = omega (arith, mul-le-mul_right {m = 1} {n = 0 * 10 + (b - 48)} p (omega (arith, n.first, n.digits.0.0)))

pub value_most : (d : List ℕ) → Numeral d → number_in d ≤ 99999
value_most d n = go (10 ^ length d) (below d n.digits) (pow-le-pow_right {n = 10} (omega arith) {i = length d} {j = 5} n.few)
  where
    go : (p : ℕ) → number_in d < p → p ≤ 10 ^ 5 → number_in d ≤ 99999
    go p a b = omega arith

pub value_least : (d : List ℕ) → Numeral d → 1 ≤ number_in d
value_least [] n = absurd (never n.some)
  where
    never : 1 ≤ 0 → ⊥
    never h = omega arith
value_least (b ∷ d) n = go (10 ^ length d) (one-le-pow (length d) 10 (omega arith)) (least (0 * 10 + (b - 48)) d)
  where
    go : (p : ℕ) → 1 ≤ p → (0 * 10 + (b - 48)) * p ≤ number_after (0 * 10 + (b - 48)) d → 1 ≤ number_after (0 * 10 + (b - 48)) d
    go p o h = omega (arith, mul-le-mul_right {m = 1} {n = 0 * 10 + (b - 48)} p (omega (arith, n.first, n.digits.0.0)))

-- what a numeral is
pub numeral_decimal : (d : List ℕ) → Numeral d → d ≡ decimal_of (number_in d)
unfolding decimal_of
numeral_decimal d n = sym (digits_value d n.digits) ∙ ap (λ (j : ℕ). last_digits 10 j (number_in d)) (places_is (number_in d) (length d) (omega (arith, value_most d n)) (fewest d n))

-- the decimal form of a number from 1 to 99,999 is a numeral
module _ (k w : ℕ) (few : k ≤ 5) (some : 1 ≤ w) (f : IsDigitCount 10 1 w k) where
  value : number_in (last_digits 10 k w) ≡ w
  value = value_digits k w f.1

  -- a zero in front would leave a number of fewer digits
  no_zero : (d : List ℕ) → length d ≡ k → Digits d → number_in d ≡ w → get_or d 0 0 ≡ 48 → ⊥
  no_zero [] l g v e = never e
    where
      never : ◌≡◌ {A = ℕ} 0 48 → ⊥
      never h = omega arith
  no_zero (b ∷ []) l g v e = small (v)
    where
      small : 0 * 10 + (b - 48) ≡ w → ⊥
      small v = omega (arith, e)
  no_zero (b ∷ x ∷ d) l g v e =
      go (10 ^ length (x ∷ d)) (subst (λ (j : ℕ). number_in (b ∷ x ∷ d) < (j + 1) * 10 ^ length (x ∷ d)) {x = 0 * 10 + (b - 48)} {y = 0} (omega (arith, e)) (most (0 * 10 + (b - 48)) (x ∷ d) g.1))
      (subst (λ (j : ℕ). 10 ^ j ≤ w) {x = k - 1} {y = length (x ∷ d)} (omega (arith, l)) (f.2 (omega (arith, l))))
    where
      go : (p : ℕ) → number_in (b ∷ x ∷ d) < (0 + 1) * p → p ≤ w → ⊥
      go p s t = omega (arith, v)

  form : Numeral (last_digits 10 k w)
  form =
      record {
        digits = digits_are k w;
        some = omega (arith, length_digits 10 k w, f.0);
        few = omega (arith, length_digits 10 k w);
        first = no_zero (last_digits 10 k w) (length_digits 10 k w) (digits_are k w) value;
      }

  formed : Numeral (decimal_of w) × (number_in (decimal_of w) ≡ w)
  unfolding decimal_of
  formed =
      subst (λ (j : ℕ). Numeral (last_digits 10 j w) × (number_in (last_digits 10 j w) ≡ w)) (places_is w k (fits (10 ^ k) (pow-le-pow_right {n = 10} (omega arith) {i = k} {j = 5} few) f.1) f) (form, value)
    where
      fits : (p : ℕ) → p ≤ 10 ^ 5 → w < p → w < 18446744073709551616
      fits p a b = omega arith

sized : (w : ℕ) → 1 ≤ w → w ≤ 99999 → (k : ℕ) × (k ≤ 5) × IsDigitCount 10 1 w k
sized w a b = go (ltb w 10) (ltb w 100) (ltb w 1000) (ltb w 10000) refl refl refl refl
  where
    go : (p q r s : Bool) → ltb w 10 ≡ p → ltb w 100 ≡ q → ltb w 1000 ≡ r → ltb w 10000 ≡ s → (k : ℕ) × (k ≤ 5) × IsDigitCount 10 1 w k
    go true q r s e f g h = (1, omega arith, (omega arith, ltb-true w 10 e, λ i. omega arith))
    go false true r s e f g h = (2, omega arith, (omega arith, ltb-true w 100 f, λ i. ltb-false w 10 e))
    go false false true s e f g h = (3, omega arith, (omega arith, ltb-true w 1000 g, λ i. ltb-false w 100 f))
    go false false false true e f g h = (4, omega arith, (omega arith, ltb-true w 10000 h, λ i. ltb-false w 1000 g))
    go false false false false e f g h = (5, omega arith, (omega arith, omega (arith, b), λ i. ltb-false w 10000 h))

pub decimal_numeral : (w : ℕ) → 1 ≤ w → w ≤ 99999 → Numeral (decimal_of w) × (number_in (decimal_of w) ≡ w)
decimal_numeral w a b = let s = sized w a b in formed s.0 w s.1 a s.2
