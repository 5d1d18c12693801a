-- How many decimal digits: `places` is the fewest, and there is one such number. Assumes nothing.
use mathlib.Core.Path.{◌≡◌, refl, sym, ◌∙◌, subst}
use mathlib.Core.Bool.{Bool, true, false, cond}
use Prim.Native.Nat.{ℕ, zero, suc, ◌+◌, ◌*◌, ◌-◌, ◌/◌, ◌^◌, ◌%◌, ◌≤◌, ◌<◌}
use native.Mathlib.Omega.{arith}
use native.Mathlib.Nat.{pow-le-pow_right}
use lib.Dec.{T, ltb, ltb→lt, nltb→le}
use mathlib.Core.Bool.{not}
use borrow.Author.Tests.{ltb-true, ltb-false, ne_eqb}
use Rattle.io.specs.Digits.{IsDigitCount, last_digits, hex_digit_ascii}
use mathlib.Core.List.{List, [], ◌∷◌, ◌++◌, append-nil, append_assoc}
use lib.ListN.{length, length-append}
use Rattle.std.specs.Fmt.{digits_onto, digits, decimal}
use Rattle.text.specs.Numerals.{places, decimal_of}

pick : (c : Bool) (x y : ℕ) (P : ℕ → Type 0) → (T c → P x) → (T (not c) → P y) → P (cond c x y)
pick true x y P f g = f tt
pick false x y P f g = g tt

pub most : (f n : ℕ) → places f n ≤ f + 1
unfolding places
most zero n = omega arith
most (suc f) n = pick (ltb n 10) 1 (suc (places f (n / 10))) (λ k. k ≤ suc f + 1) (λ t. omega arith) (λ t. omega (arith, most f (n / 10)))

tens : (k : ℕ) → 10 ^ suc k ≡ 10 * 10 ^ k
tens k = omega arith

few : (f n : ℕ) → n < 10 ^ suc f → IsDigitCount 10 1 n (places f n)
unfolding places
few zero n h = (omega arith, h, λ g. absurd (none g))
  where
    none : 1 < 1 → ⊥
    none g = omega arith
few (suc f) n h =
    pick (ltb n 10) 1 (suc (places f (n / 10))) (λ k. IsDigitCount 10 1 n k) (λ t. (omega arith, small n (ltb→lt n 10 t), λ g. absurd (none g)))
    (λ t. let i = few f (n / 10) (less n (10 ^ suc f) (10 ^ suc (suc f)) (tens (suc f)) h) in (omega arith, more n (10 ^ places f (n / 10)) (10 ^ suc (places f (n / 10))) (tens (places f (n / 10))) i.1, λ g. least n (places f (n / 10)) (nltb→le n 10 t) i.0 i.2))
  where
    none : 1 < 1 → ⊥
    none g = omega arith

    small : (n : ℕ) → n < 10 → n < 10 ^ 1
    small n h = h

    less : (n p q : ℕ) → q ≡ 10 * p → n < q → n / 10 < p
    less n p q e h = omega arith

    more : (n p q : ℕ) → q ≡ 10 * p → n / 10 < p → n < q
    more n p q e h = omega arith

    least : (n k : ℕ) → 10 ≤ n → 1 ≤ k → (1 < k → 10 ^ (k - 1) ≤ n / 10) → 10 ^ (suc k - 1) ≤ n
    least n zero a b g = absurd (never b)
      where
        never : 1 ≤ 0 → ⊥
        never b = omega arith
    least n (suc zero) a b g = a
    least n (suc (suc k)) a b g = rw (gap (suc k)) (back n (10 ^ suc k) (10 ^ suc (suc k)) (tens (suc k)) (subst (λ (m : ℕ). 10 ^ m ≤ n / 10) (gap k) (g (omega arith))))
      where
        gap : (m : ℕ) → suc (suc m) - 1 ≡ suc m
        gap m = omega arith

        back : (n p q : ℕ) → q ≡ 10 * p → p ≤ n / 10 → q ≤ n
        back n p q e h = omega arith

not_less : (n j k : ℕ) → IsDigitCount 10 1 n j → IsDigitCount 10 1 n k → j < k → ⊥
not_less n j k a b h = go (10 ^ j) (10 ^ (k - 1)) (pow-le-pow_right {n = 10} (omega arith) {i = j} {j = k - 1} (omega arith)) a.1 (b.2 (omega (arith, a.0)))
  where
    go : (p q : ℕ) → p ≤ q → n < p → q ≤ n → ⊥
    go p q x y z = omega arith

pub only : (n j k : ℕ) → IsDigitCount 10 1 n j → IsDigitCount 10 1 n k → j ≡ k
only n j k a b = omega (arith, not_less n j k a b, not_less n k j b a)

pub places_is : (n k : ℕ) → n < 18446744073709551616 → IsDigitCount 10 1 n k → k ≡ places 19 n
places_is n k h a = only n k (places 19 n) a (few 19 n (omega arith))

pub length_digits : (b k n : ℕ) → length (last_digits b k n) ≡ k
length_digits b zero n = refl
length_digits b (suc k) n = length-append (last_digits b k (n / b)) (hex_digit_ascii (n % b) ∷ []) ∙ last (length (last_digits b k (n / b))) k (length_digits b k (n / b))
  where
    last : (x k : ℕ) → x ≡ k → x + 1 ≡ suc k
    last x k e = omega arith

pub decimal_short : (n : ℕ) → length (decimal_of n) ≤ 20
unfolding decimal_of
decimal_short n = omega (arith, length_digits 10 (places 19 n) n, most 19 n)

-- ---- std's decimal text is this one

small_tenth : (n : ℕ) → n < 10 → n / 10 ≡ 0
small_tenth n h = omega arith

onto : (f k n : ℕ) (acc : List ℕ) → f ≤ k → n < 10 ^ suc f → digits_onto (suc k) 10 false n acc ≡ last_digits 10 (places f n) n ++ acc
unfolding places
onto zero k n acc l h = rw (small_tenth n h) refl
onto (suc f) zero n acc l h = absurd (none l)
  where
    none : suc f ≤ 0 → ⊥
    none l = omega arith
onto (suc f) (suc k) n acc l h = by (λ a r. onto f k (n / 10) a (omega arith) r) (ltb n 10) refl
  where
    by : ((a : List ℕ) → n / 10 < 10 ^ suc f → digits_onto (suc k) 10 false (n / 10) a ≡ last_digits 10 (places f (n / 10)) (n / 10) ++ a)
        → (b : Bool) → ltb n 10 ≡ b → digits_onto (suc (suc k)) 10 false n acc ≡ last_digits 10 (cond b 1 (suc (places f (n / 10)))) n ++ acc
    by on true t = rw (small_tenth n (ltb-true n 10 t)) refl
    by on false t =
        rw (ne_eqb (n / 10) 0 (λ z. omega (arith, z, ltb-false n 10 t)))
        (on (hex_digit_ascii (n % 10) ∷ acc) (less (10 ^ suc f) (10 ^ suc (suc f)) (tens (suc f)) h)
        ∙ sym (append_assoc (last_digits 10 (places f (n / 10)) (n / 10)) (hex_digit_ascii (n % 10) ∷ []) acc))
      where
        less : (p q : ℕ) → q ≡ 10 * p → n < q → n / 10 < p
        less p q e h = omega arith

pub decimal_is : (n : ℕ) → n < 18446744073709551616 → decimal n ≡ decimal_of n
unfolding decimal_of digits
decimal_is n h = onto 19 63 n [] (omega arith) (omega arith) ∙ append-nil (last_digits 10 (places 19 n) n)
