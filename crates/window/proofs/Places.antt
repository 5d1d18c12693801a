-- What holds at 0, 1, 2 and 3 holds at every number below 4; and so for pairs of numbers.
use mathlib.Core.Bool.{Bool, true, false, cond, ◌&&◌}
use Prim.Native.Nat.{ℕ, zero, suc, ◌<◌}
use native.Mathlib.Omega.{arith}
use lib.Dec.{T}
use lib.Ieee.Fits.{and_l, and_r}

-- one fact and the rest: a chain that ends in tt is a fact of each element of a list
infixr 5 ◌and◌
abbrev pub ◌and◌ : {A B : Type 0} → A → B → A × B
a and b = (a, b)

pub below4 : (Q : ℕ → Type 0) → Q 0 → Q 1 → Q 2 → Q 3 → (x : ℕ) → x < 4 → Q x
below4 Q a b c d zero h = a
below4 Q a b c d (suc zero) h = b
below4 Q a b c d (suc (suc zero)) h = c
below4 Q a b c d (suc (suc (suc zero))) h = d
below4 Q a b c d (suc (suc (suc (suc n)))) h = absurd (beyond n h)
  where
    beyond : (n : ℕ) → suc (suc (suc (suc n))) < 4 → ⊥
    beyond n h = omega arith

pub below4² : (Q : ℕ → ℕ → Type 0)
    → Q 0 0 → Q 0 1 → Q 0 2 → Q 0 3 → Q 1 0 → Q 1 1 → Q 1 2 → Q 1 3 → Q 2 0 → Q 2 1 → Q 2 2 → Q 2 3 → Q 3 0 → Q 3 1 → Q 3 2 → Q 3 3
    → (i j : ℕ) → i < 4 → j < 4 → Q i j
below4² Q a b c d e f g h k l m n o p q r i j s =
    below4 (λ i. (j : ℕ) → j < 4 → Q i j) (below4 (Q 0) a b c d) (below4 (Q 1) e f g h) (below4 (Q 2) k l m n) (below4 (Q 3) o p q r) i s j

abbrev pub all4 : (ℕ → Bool) → Bool
all4 f = f 0 && (f 1 && (f 2 && f 3))

tested : (f : ℕ → Bool) → T (all4 f) → (x : ℕ) → x < 4 → T (f x)
tested f t =
    let r = and_r (f 0) (f 1 && (f 2 && f 3)) t in
    let s = and_r (f 1) (f 2 && f 3) r in
    below4 (λ x. T (f x)) (and_l (f 0) (f 1 && (f 2 && f 3)) t) (and_l (f 1) (f 2 && f 3) r)
    (and_l (f 2) (f 3) s) (and_r (f 2) (f 3) s)

-- a test that is true at all sixteen places is true at each
pub sixteen : (f : ℕ → ℕ → Bool) → T (all4 (λ i. all4 (f i))) → (i j : ℕ) → i < 4 → j < 4 → T (f i j)
sixteen f t i j p q = tested (f i) (tested (λ i. all4 (f i)) t i p) j q

abbrev pub implies : Bool → Bool → Bool
implies a b = cond a b true

must : (a b : Bool) → T (implies a b) → T a → T b
must true b t s = t
must false b t s = absurd s

pub sixteen_if : (g f : ℕ → ℕ → Bool) → T (all4 (λ i. all4 (λ j. implies (g i j) (f i j)))) → (i j : ℕ) → i < 4 → j < 4 → T (g i j) → T (f i j)
sixteen_if g f t i j p q s = must (g i j) (f i j) (sixteen (λ i j. implies (g i j) (f i j)) t i j p q) s
