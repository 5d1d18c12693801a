-- A list in rows of 17 by its index: what stands at place k, so many rows below or above it, so many columns to its right or left.
use mathlib.Core.Path.{◌≡◌, ap}
use mathlib.Core.List.{List}
use Prim.Native.Nat.{ℕ, ◌+◌, ◌*◌, ◌-◌, ◌/◌, ◌%◌, ◌≤◌}
use native.Mathlib.Omega.{arith}
use lib.ListN.{get_or}
use lib.Ieee.{Float, nan}
use Rattle.disk.specs.Rows.{read}
use Rattle.disk.specs.Smoothing.{binomial}

pub here : (l : List Float) (k : ℕ) → get_or l k nan ≡ read l (k / 17) (k % 17)
here l k = ap (λ (i : ℕ). get_or l i nan) (go k)
  where
    go : (k : ℕ) → k ≡ k / 17 * 17 + k % 17
    go k = omega arith

pub below : (l : List Float) (k j : ℕ) → get_or l (k + j * 17) nan ≡ read l (k / 17 + j) (k % 17)
below l k j = ap (λ (i : ℕ). get_or l i nan) (go k j)
  where
    go : (k j : ℕ) → k + j * 17 ≡ (k / 17 + j) * 17 + k % 17
    go k j = omega arith

pub right : (l : List Float) (k j : ℕ) → get_or l (k + j) nan ≡ read l (k / 17) (k % 17 + j)
right l k j = ap (λ (i : ℕ). get_or l i nan) (go k j)
  where
    go : (k j : ℕ) → k + j ≡ k / 17 * 17 + (k % 17 + j)
    go k j = omega arith

pub above : (l : List Float) (k : ℕ) → 1 ≤ k / 17 → get_or l (k - 17) nan ≡ read l (k / 17 - 1) (k % 17)
above l k h = ap (λ (i : ℕ). get_or l i nan) (go k h)
  where
    go : (k : ℕ) → 1 ≤ k / 17 → k - 17 ≡ (k / 17 - 1) * 17 + k % 17
    go k h = omega arith

pub left : (l : List Float) (k : ℕ) → 1 ≤ k % 17 → get_or l (k - 1) nan ≡ read l (k / 17) (k % 17 - 1)
left l k h = ap (λ (i : ℕ). get_or l i nan) (go k h)
  where
    go : (k : ℕ) → 1 ≤ k % 17 → k - 1 ≡ k / 17 * 17 + (k % 17 - 1)
    go k h = omega arith

pub five : {a b c d e a' b' c' d' e' : Float} → a ≡ a' → b ≡ b' → c ≡ c' → d ≡ d' → e ≡ e' → binomial a b c d e ≡ binomial a' b' c' d' e'
five {a} {b} {c} {d} {e} {a'} {b'} {c'} {d'} {e'} p q r s t = λ i. binomial (p i) (q i) (r i) (s i) (t i)
