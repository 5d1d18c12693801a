-- The rule's bound on sigma's bits says what the paper says of sigma: of all 32-bit patterns, those up to the pattern of 1,000
-- are the floats from 0 to 1,000 without a minus sign (`sigma_bits`). For sizes rise with patterns, and past them come the NaNs
-- and the minus sign.
use mathlib.Core.Path.{◌≡◌, refl, sym, ap, ◌∙◌}
use mathlib.Core.Logic.{◌↔◌, inl, inr}
use mathlib.Core.Bool.{Bool, true, false, not, ◌&&◌, ◌||◌, true≢false}
use Prim.Native.Nat.{ℕ, zero, suc, ◌+◌, ◌*◌, ◌/◌, ◌%◌, ◌^◌, ◌≤◌, ◌<◌}
use native.Mathlib.Nat.{le_trans, le_of_eq, le_of_lt, eq-or-lt_of_le, mul-le-mul_left, mul-le-mul_right, mul-one}
use native.Mathlib.Omega.{arith}
use lib.Dec.{T, leb, ltb, eqb, ltb→lt, eqb→eq, lit<, lit≤}
use lib.Pow.{pow_mono}
use lib.IntN.{pos}
use lib.Ieee.{Float, nan, inf, fin, binary32, up, down, round, of_int, le, is_nan, of_bits, to_bits}
use lib.Ieee.Bits.{of_bits-fits, to_bits-of_bits}
use Rattle.ieee.specs.Order.{negative}
use Rattle.ieee.specs.Numbers.{plus_zero, f32_of}
use Rattle.ieee.specs.FromZero.{FromZeroTo}
use Rattle.ieee.proofs.Tests.{zero_is}
use Rattle.ieee.proofs.Bounded.{Bounded, HoldsWhole, holds_whole, bounded_by}
use Rattle.ieee.proofs.BoundedPatterns.{bounded_bits}
use Rattle.ieee.proofs.FromZero.{from_zero_to}
use Rattle.ieee.proofs.Reading.{read_low, read_high, digits_few}
use Rattle.record.specs.Rule.{thousand_bits, Allowed}
use Rattle.record.specs.Sigma.{ToThousand}
use Rattle.record.specs.declared.Record.{Record}

-- ---- 1,000
holds : HoldsWhole binary32 1000
holds = holds_whole binary32 1000 1000 0 (lit< tt) refl (lit≤ tt)

thousand_is : round binary32 false 1000 1 ≡ fin false 125 (pos 3)
unfolding round
thousand_is = refl

thousand_bits_lem : to_bits binary32 (round binary32 false 1000 1) ≡ thousand_bits
unfolding round to_bits
thousand_bits_lem = refl

-- ---- a pattern up to that of 1,000 is a float of at most that size
module _ (bits : ℕ) (h : bits ≤ thousand_bits) where
  abbrev digits : ℕ
  digits = 2 ^ 23 + bits % 2 ^ 23

  -- the exponent's field is at most 136: under it the size is below 512, and at it the digits are at most those of 1,000
  size_most : (k : ℕ) → bits / 2 ^ 23 ≡ suc k → digits * 2 ^ k ≤ 1000 * 2 ^ 149
  size_most k e = elim (eq-or-lt_of_le field) [
    | inl i ↦ rw i (mul-le-mul_right (2 ^ 135) (at i))
    | inr l ↦
        le_trans (mul-le-mul_right (2 ^ k) (le_of_lt (digits_few binary32 bits)))
        (le_trans (mul-le-mul_left (2 ^ 24) (pow_mono (under l))) (lit≤ tt))
  ]
    where
      field : k ≤ 135
      field = omega arith

      at : k ≡ 135 → digits ≤ 1000 * 2 ^ 14
      at i = omega arith

      under : k < 135 → k ≤ 134
      under l = omega arith

  bounded : Bounded (of_bits binary32 bits) false 1000
  bounded = go (bits / 2 ^ 23) refl
    where
      plus : bits < 2 ^ 31
      plus = omega arith

      below : bits % 2 ^ 23 * 2 ^ 0 ≤ 2 ^ 23
      below = omega arith

      go : (k : ℕ) → bits / 2 ^ 23 ≡ k → Bounded (of_bits binary32 bits) false 1000
      go zero e =
          bounded_by (of_bits binary32 bits) false (bits % 2 ^ 23 * 2 ^ 0) (2 ^ 149) 1000 (lit< tt) (read_low binary32 bits plus e)
          (le_trans below (lit≤ tt))
      go (suc k) e =
          bounded_by (of_bits binary32 bits) false (digits * 2 ^ k) (2 ^ 149) 1000 (lit< tt)
          (read_high binary32 bits plus k e (omega arith)) (size_most k e)

-- ---- a float of at most that size, by its comparison
upto : (a b : ℕ) → T (ltb a b || (eqb a b && true)) → a ≤ b
upto a b = go (ltb a b) (eqb a b) (ltb→lt a b) (eqb→eq a b)
  where
    go : (s t : Bool) → (T s → a < b) → (T t → a ≡ b) → T (s || (t && true)) → a ≤ b
    go true t l e h = le_of_lt (l tt)
    go false true l e h = le_of_eq (e tt)
    go false false l e h = absurd h

compared : (x : Float) → negative x ≡ false → T (le x (fin false 125 (pos 3))) → Bounded x false 1000
unfolding le negative
compared nan n m = m
compared (inf true) n m = absurd (true≢false n)
compared (inf false) n m = m
compared (fin true a e) n m = absurd (true≢false n)
compared (fin false a e) n m = (refl, le_trans (le_of_eq (sym (mul-one (a * up e)))) (upto (a * up e * 1) (1000 * down e) m))

-- ---- the law
bounded_plain : (x : Float) → Bounded x false 1000 → T (not (is_nan x))
unfolding is_nan
bounded_plain nan p = p
bounded_plain (inf s) p = tt
bounded_plain (fin s m e) p = tt

module _ (bits : ℕ) where
  abbrev x : Float
  x = of_bits binary32 bits

  pub sigma_from_zero : bits ≤ thousand_bits → FromZeroTo binary32 1000 (of_bits binary32 bits)
  sigma_from_zero h = from_zero_to binary32 1000 holds x (of_bits-fits binary32 bits) (bounded bits h)

  pub sigma_bits : bits < 2 ^ 32 → (bits ≤ thousand_bits) ↔ ToThousand (of_bits binary32 bits)
  unfolding of_int
  sigma_bits W = (
    λ h. ((sigma_from_zero h).plus, (sigma_from_zero h).least, (sigma_from_zero h).most),
    λ p.
        let b : Bounded x false 1000 = compared x p.0 (rw thousand_is at p.2) in
        let back : to_bits binary32 x ≡ bits = to_bits-of_bits binary32 bits W (bounded_plain x b) in
        le_trans (le_of_eq (sym back))
        (le_trans (bounded_bits binary32 x 1000 holds (of_bits-fits binary32 bits) b) (le_of_eq thousand_bits_lem)),
  )

-- ---- so of a record's sigma
module _ (r : Record) (A : Allowed r) where
  pub figure_sigma : r.answer ≡ 0 → FromZeroTo binary32 1000 (of_bits binary32 r.sigma)
  figure_sigma h = sigma_from_zero r.sigma (A.figure h).0

  pub no_figure_sigma : (r.answer ≡ 0 → ⊥) → of_bits binary32 r.sigma ≡ plus_zero
  no_figure_sigma h = ap (of_bits binary32) (A.no_figure h) ∙ zero_is binary32

-- ---- worked examples: the rule's test, and what the floats are
pub thousand : of_bits binary32 0x447A_0000 ≡ f32_of 1000
unfolding of_bits of_int
thousand = refl

pub zero_taken : ToThousand (of_bits binary32 0)
unfolding of_bits of_int le negative
zero_taken = (refl, tt, tt)

-- the smallest above 0
pub smallest_taken : ToThousand (of_bits binary32 1)
unfolding of_bits of_int le negative
smallest_taken = (refl, tt, tt)

pub thousand_taken : (leb 0x447A_0000 thousand_bits ≡ true) × ToThousand (of_bits binary32 0x447A_0000)
unfolding of_bits of_int le negative
thousand_taken = (refl, (refl, tt, tt))

-- the next float above 1,000
pub next_not_taken : (leb 0x447A_0001 thousand_bits ≡ false) × (le (of_bits binary32 0x447A_0001) (f32_of 1000) ≡ false)
unfolding of_bits of_int le
next_not_taken = (refl, refl)

-- minus zero compares as 0 does: only its sign keeps it out
pub minus_zero_not_taken : (leb 0x8000_0000 thousand_bits ≡ false) × (of_bits binary32 0x8000_0000 ≡ fin true 0 (pos 0))
    × T (le plus_zero (of_bits binary32 0x8000_0000)) × T (le (of_bits binary32 0x8000_0000) (f32_of 1000))
    × (negative (of_bits binary32 0x8000_0000) ≡ true)
unfolding of_bits of_int le negative
minus_zero_not_taken = (refl, refl, tt, tt, refl)

pub infinity_not_taken : (leb 0x7F80_0000 thousand_bits ≡ false) × (of_bits binary32 0x7F80_0000 ≡ inf false)
    × (le (inf false) (f32_of 1000) ≡ false)
unfolding of_bits of_int le
infinity_not_taken = (refl, refl, refl)

pub nan_not_taken : (leb 0x7FC0_0000 thousand_bits ≡ false) × (of_bits binary32 0x7FC0_0000 ≡ nan) × (le nan (f32_of 1000) ≡ false)
unfolding of_bits of_int le
nan_not_taken = (refl, refl, refl)
