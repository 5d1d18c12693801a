-- `larger` and `smaller` give one of their operands, not below (above) either, the other one beside a NaN, and the first of two that are equal, -0 and +0 among them.
-- Both pick the second operand only where a relation R says that it is past the first; R is `<` for `larger` and `>` for `smaller`.
use mathlib.Core.Path.{◌≡◌, refl, sym, ap, ◌∙◌}
use mathlib.Core.Logic.{inl, inr}
use mathlib.Core.Bool.{Bool, true, false, cond, ◌||◌, beq, true≢false, false≢true}
use Prim.Native.Nat.{ℕ, ◌+◌, ◌*◌}
use native.Mathlib.Omega.{arith}
use lib.Dec.{T, eqb, eqb→eq}
use lib.IntN.{pos}
use lib.Ieee.{Float, nan, inf, fin, up, down, below, level, lt, eq, is_nan}
use lib.Ieee.Fits.{and_l, and_r}
use borrow.Author.Tests.{le-ltb}
use Rattle.ieee.specs.Order.{larger, smaller, Picked}
use Rattle.ieee.proofs.Tests.{yes}
use Rattle.ieee.proofs.TotalOrder.{transitive, irreflexive, as_less}

-- ---- `<` is a strict order, and nothing is below a float that it equals
not_true : (b : Bool) → (b ≡ true → ⊥) → b ≡ false
not_true true h = absurd (h refl)
not_true false h = refl

contrary : {b : Bool} → b ≡ true → b ≡ false → ⊥
contrary h k = true≢false (sym h ∙ k)

lt_irreflexive : (x : Float) → lt x x ≡ false
lt_irreflexive x = not_true (lt x x) (λ (h : lt x x ≡ true). contrary (as_less x x h) (irreflexive x))

lt_asymmetric : (x y : Float) → lt x y ≡ true → lt y x ≡ false
lt_asymmetric x y h = not_true (lt y x) (λ (k : lt y x ≡ true). contrary (transitive x y x (as_less x y h) (as_less y x k)) (irreflexive x))

level_below : (s t : Bool) (a b : ℕ) → T (level s a t b) → (below s a t b ≡ false) × (below t b s a ≡ false)
level_below s t a b h =
    let e : a ≡ b = eqb→eq a b (and_l (eqb a b) (beq s t || eqb a 0) h) in
    go s t (and_r (eqb a b) (beq s t || eqb a 0) h) e
  where
    go : (s t : Bool) → T (beq s t || eqb a 0) → a ≡ b → (below s a t b ≡ false) × (below t b s a ≡ false)
    go true true z e = (le-ltb b a (omega arith), le-ltb a b (omega arith))
    go true false z e = let n : a ≡ 0 = eqb→eq a 0 z in (le-ltb 0 (a + b) (omega arith), refl)
    go false true z e = let n : a ≡ 0 = eqb→eq a 0 z in (refl, le-ltb 0 (b + a) (omega arith))
    go false false z e = (le-ltb a b (omega arith), le-ltb b a (omega arith))

eq_not_lt : (x y : Float) → eq x y ≡ true → (lt x y ≡ false) × (lt y x ≡ false)
unfolding eq lt
eq_not_lt nan y h = absurd (false≢true h)
eq_not_lt (inf s) nan h = absurd (false≢true h)
eq_not_lt (inf true) (inf true) h = (refl, refl)
eq_not_lt (inf true) (inf false) h = absurd (false≢true h)
eq_not_lt (inf false) (inf true) h = absurd (false≢true h)
eq_not_lt (inf false) (inf false) h = (refl, refl)
eq_not_lt (inf s) (fin t n d) h = absurd (false≢true h)
eq_not_lt (fin s m e) nan h = absurd (false≢true h)
eq_not_lt (fin s m e) (inf t) h = absurd (false≢true h)
eq_not_lt (fin s m e) (fin t n d) h = level_below s t (m * up e * down d) (n * up d * down e) (yes h)

eq_plain : (x y : Float) → eq x y ≡ true → is_nan x ≡ false
unfolding eq is_nan
eq_plain nan y h = absurd (false≢true h)
eq_plain (inf s) y h = refl
eq_plain (fin s m e) y h = refl

lt_nan : (x : Float) → lt x nan ≡ false
unfolding lt
lt_nan nan = refl
lt_nan (inf s) = refl
lt_nan (fin s m e) = refl

nan_lt : (x : Float) → lt nan x ≡ false
unfolding lt
nan_lt x = refl

-- ---- one of two, by R
abbrev pick : (Float → Float → Bool) → Float → Float → Float
pick R a b = cond (is_nan a) b (cond (R a b) b a)

record Strict (R : Float → Float → Bool) : Type 0 where
  same : (x : Float) → R x x ≡ false
  turned : (x y : Float) → R x y ≡ true → R y x ≡ false
  no_nan : (x : Float) → R x nan ≡ false
  equal : (x y : Float) → eq x y ≡ true → R x y ≡ false

is_nan_lem : (x : Float) → is_nan x ≡ true → x ≡ nan
unfolding is_nan
is_nan_lem nan h = refl
is_nan_lem (inf s) h = absurd (false≢true h)
is_nan_lem (fin s m e) h = absurd (false≢true h)

module _ (R : Float → Float → Bool) (S : Strict R) (a b : Float) where
  picked : Picked R a b (pick R a b)
  picked = go (is_nan a) refl (R a b) refl
    where
      go : (n : Bool) → is_nan a ≡ n → (p : Bool) → R a b ≡ p → Picked R a b (cond n b (cond p b a))
      go true n p h = record { one_of = inr refl; first = ap (R b) (is_nan_lem a n) ∙ S.no_nan b; second = S.same b }
      go false n true h = record { one_of = inr refl; first = S.turned a b h; second = S.same b }
      go false n false h = record { one_of = inl refl; first = S.same a; second = h }

  -- beside a NaN
  pick_nan : is_nan a ≡ false → pick R a nan ≡ a
  pick_nan n = rw (n, S.no_nan a)

  -- of two that are equal the first
  pick_equal : eq a b ≡ true → pick R a b ≡ a
  pick_equal h = rw (eq_plain a b h, S.equal a b h)

by_less : Strict lt
by_less = record { same = lt_irreflexive; turned = lt_asymmetric; no_nan = lt_nan; equal = λ x y h. (eq_not_lt x y h).0 }

by_more : Strict (λ x y. lt y x)
by_more = record { same = lt_irreflexive; turned = λ x y h. lt_asymmetric y x h; no_nan = nan_lt; equal = λ x y h. (eq_not_lt x y h).1 }

-- ---- the larger, and the smaller
module _ (a b : Float) where
  pub larger_picks : Picked lt a b (larger a b)
  unfolding larger
  larger_picks = picked lt by_less a b

  pub larger_equal : eq a b ≡ true → larger a b ≡ a
  unfolding larger
  larger_equal = pick_equal lt by_less a b

  pub smaller_picks : Picked (λ x y. lt y x) a b (smaller a b)
  unfolding smaller
  smaller_picks = picked (λ x y. lt y x) by_more a b

  pub smaller_equal : eq a b ≡ true → smaller a b ≡ a
  unfolding smaller
  smaller_equal = pick_equal (λ x y. lt y x) by_more a b

-- ---- beside a NaN
module _ (x : Float) where
  pub larger_nan_first : larger nan x ≡ x
  unfolding larger
  larger_nan_first = refl

  pub larger_nan_second : is_nan x ≡ false → larger x nan ≡ x
  unfolding larger
  larger_nan_second = pick_nan lt by_less x x

  pub smaller_nan_first : smaller nan x ≡ x
  unfolding smaller
  smaller_nan_first = refl

  pub smaller_nan_second : is_nan x ≡ false → smaller x nan ≡ x
  unfolding smaller
  smaller_nan_second = pick_nan (λ x y. lt y x) by_more x x

-- ---- zeros: the first of the two
module _ (s t : Bool) where
  zeros_equal : (s t : Bool) → eq (fin s 0 (pos 0)) (fin t 0 (pos 0)) ≡ true
  unfolding eq
  zeros_equal true true = refl
  zeros_equal true false = refl
  zeros_equal false true = refl
  zeros_equal false false = refl

  pub larger_zeros : larger (fin s 0 (pos 0)) (fin t 0 (pos 0)) ≡ fin s 0 (pos 0)
  larger_zeros = larger_equal (fin s 0 (pos 0)) (fin t 0 (pos 0)) (zeros_equal s t)

  pub smaller_zeros : smaller (fin s 0 (pos 0)) (fin t 0 (pos 0)) ≡ fin s 0 (pos 0)
  smaller_zeros = smaller_equal (fin s 0 (pos 0)) (fin t 0 (pos 0)) (zeros_equal s t)
