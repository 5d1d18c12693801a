-- Loops over the knots: a test of each, and the search for the two that a width lies between. Assumes nothing.
use mathlib.Core.Path.{◌≡◌, refl, sym, ap, ◌∙◌}
use mathlib.Core.Bool.{Bool, true, false, cond, not, ◌&&◌, false≢true}
use mathlib.Core.List.{List}
use Prim.Native.Nat.{ℕ, zero, suc, ◌+◌, ◌-◌, ◌≤◌, ◌<◌}
use native.Mathlib.Numerals.{add-one}
use native.Mathlib.Omega.{arith}
use lib.Ieee.{Float, nan, inf, fin, le, lt, eq, is_nan}
use Rattle.laws.proofs.Choice.{chosen, passed, cond_both}
use Rattle.ieee.specs.Order.{finite}
use Rattle.std.specs.Prelude.{Option, Some, None}
use Rattle.knots.specs.declared.Place.TheVariants.{Knot, Between}
use Rattle.laws.proofs.Refusing.{and, and_right}
use Rattle.ranges.specs.Arith.{◌⊖◌, ◌⊘◌, at}
use Rattle.ranges.specs.Ranges.{within}
use Rattle.ranges.proofs.Negations.{not_le}
use Rattle.knots.specs.Places.{every, rises_at, knot_at, place_from, place}
use Rattle.knots.specs.Loops.{sound, AmongKnots}

-- ---- the tests of all columns at once

-- the width before place k; before the first, a NaN
abbrev pub before : List Float → ℕ → Float
before l zero = nan
before l (suc k) = at l k

no_nan : (x : Float) → le x nan ≡ false
unfolding le lt eq
no_nan nan = refl
no_nan (inf s) = refl
no_nan (fin s m e) = refl

plain : (x : Float) → within 1000 x ≡ true → is_nan x ≡ false
unfolding within is_nan
plain nan h = absurd (false≢true h)
plain (inf s) h = refl
plain (fin s m e) h = refl

-- p and three tests so far, joined with q and those of one more; q counts only where the first test has passed twice
joined : (p a b c q q' x y z : Bool) → (a ≡ true → x ≡ true → q ≡ q') → ((((p && ((a && b) && c)) && q) && x) && y) && z ≡ (p && q') && (((a && x) && (b && y)) && (c && z))
joined false a b c q q' x y z h = refl
joined true false b c q true x y z h = refl
joined true false b c q false x y z h = refl
joined true true false c q false x y z h = refl
joined true true false c q true true y z h = refl
joined true true false c q true false y z h = refl
joined true true true false q false x y z h = refl
joined true true true false q true false y z h = refl
joined true true true false q true true true z h = refl
joined true true true false q true true false z h = refl
joined true true true true true true false y z h = refl
joined true true true true true false false y z h = refl
joined true true true true false true false y z h = refl
joined true true true true false false false y z h = refl
joined true true true true q q' true y z h = ap (λ (t : Bool). ((t && true) && y) && z) (h refl refl) ∙ last q' y z
  where
    last : (q y z : Bool) → ((q && true) && y) && z ≡ q && (y && z)
    last true y z = refl
    last false y z = refl

module _ (l g r : List Float) where
  turn : (k : ℕ) → (((sound l g r k && not (le (at l k) (before l k))) && knot_at l k) && knot_at g k) && knot_at r k ≡ sound l g r (suc k)
  turn zero = ap (λ (t : Bool). ((not t && knot_at l 0) && knot_at g 0) && knot_at r 0) (no_nan (at l 0))
  turn (suc k) =
      joined (every (rises_at l) (suc k - 1)) (every (knot_at l) (suc k)) (every (knot_at g) (suc k)) (every (knot_at r) (suc k)) (not (le (at l (suc k)) (at l k)))
      (lt (at l k) (at l (suc k))) (knot_at l (suc k)) (knot_at g (suc k)) (knot_at r (suc k))
      (λ a x. not_le (at l (suc k)) (at l k) (plain (at l (suc k)) x) (plain (at l k) (and_right (every (knot_at l) k) (knot_at l k) a)))
      ∙ ap (λ (t : Bool). t && ((every (knot_at l) (suc (suc k)) && every (knot_at g) (suc (suc k))) && every (knot_at r) (suc (suc k))))
      (and (ap (every (rises_at l)) (less k)) (ap (λ (m : ℕ). lt (at l k) (at l m)) (sym (add-one k))) ∙ ap (every (rises_at l)) (sym (less (suc k))))
    where
      less : (k : ℕ) → suc k - 1 ≡ k
      less k = omega arith

  pub record Sound (k : ℕ) (all : Bool) (last : Float) : Type 0 where
    pub so : all ≡ sound l g r k
    pub past : last ≡ before l k

  pub sound_start : Sound 0 true nan
  sound_start = record { so = refl; past = refl }

  pub sound_more : {k : ℕ} {all x y z : Bool} {last : Float} → Sound k all last → x ≡ knot_at l k → y ≡ knot_at g k → z ≡ knot_at r k
      → Sound (k + 1) ((((all && not (le (at l k) last)) && x) && y) && z) (at l k)
  sound_more {k} {all} {x} {y} {z} {last} i d e f = record {
    so = and (and (and (and i.so (ap (λ (v : Float). not (le (at l k) v)) i.past)) d) e) f ∙ turn k ∙ sym (ap (sound l g r) (add-one k));
    past = sym (ap (before l) (add-one k));
  }

-- ---- the place of w among the knots 0, .. , n, of which those up to k lie below it

pub record Seeking (l : List Float) (w : Float) (n k : ℕ) : Type 0 where
  pub left : place_from l w k (n - k) ≡ place_from l w 0 n

module _ (l : List Float) (w : Float) where
  share : ℕ → Float
  share k = (w ⊖ at l k) ⊘ (at l (k + 1) ⊖ at l k)

  one_more : (n k : ℕ) → k < n → place_from l w k (n - k) ≡ cond (le w (at l (k + 1))) (Between k ((w ⊖ at l k) ⊘ (at l (k + 1) ⊖ at l k))) (place_from l w (k + 1) (n - (k + 1)))
  one_more n k h = ap (λ (m : ℕ). place_from l w k m) (next n k h)
    where
      next : (n k : ℕ) → k < n → n - k ≡ suc (n - (k + 1))
      next n k h = omega arith

  pub seek_start : (n : ℕ) → Seeking l w n 0
  seek_start n = record { left = ap (λ (m : ℕ). place_from l w 0 m) (whole n) }
    where
      whole : (n : ℕ) → n - 0 ≡ n
      whole n = omega arith

  module _ {n k : ℕ} (i : Seeking l w n k) where
    pub seek_more : k < n → le w (at l (k + 1)) ≡ false → Seeking l w n (k + 1)
    seek_more h t = record { left = passed _ _ _ t ∙ sym (one_more n k h) ∙ i.left }

    pub seek_found : k < n → le w (at l (k + 1)) ≡ true → Between k ((w ⊖ at l k) ⊘ (at l (k + 1) ⊖ at l k)) ≡ place_from l w 0 n
    seek_found h t = chosen _ _ _ t ∙ sym (one_more n k h) ∙ i.left

    pub seek_end : n ≤ k → Knot k ≡ place_from l w 0 n
    seek_end h = ap (λ (m : ℕ). place_from l w k m) (none n k h) ∙ i.left
      where
        none : (n k : ℕ) → n ≤ k → zero ≡ n - k
        none n k h = omega arith

  -- ---- a place lies among the knots

  pub place_from_in : (k n m : ℕ) → k + n < m → AmongKnots m (place_from l w k n)
  place_from_in k zero m h = omega arith
  place_from_in k (suc n) m h =
      cond_both (AmongKnots m) (le w (at l (k + 1))) _ _ (omega arith) (place_from_in (k + 1) n m (omega arith))

pub place_in : (l : List Float) (n m : ℕ) (w : Option Float) → 0 < n → n ≤ m → AmongKnots m (place l n w)
unfolding place
place_in l n m None p h = omega arith
place_in l n m (Some w) p h = cond_both (AmongKnots m) (finite w && not (le w (at l 0))) _ _ (place_from_in l w 0 (n - 1) m (omega arith)) (omega arith)
