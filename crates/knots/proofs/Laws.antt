-- What the definitions mean: the rule of the knots, and that only counted knots are looked at. Assumes nothing.
use mathlib.Core.Path.{◌≡◌, refl, sym, ap, ◌∙◌, subst}
use mathlib.Core.Bool.{Bool, true, false, cond, not, ◌&&◌}
use mathlib.Core.List.{List}
use Prim.Native.Nat.{ℕ, zero, suc, ◌+◌, ◌-◌, ◌≤◌, ◌<◌}
use native.Mathlib.Nat.{le_refl}
use native.Mathlib.Numerals.{add-one}
use native.Mathlib.Omega.{arith}
use lib.Ieee.{Float, nan, le, lt}
use lib.ListN.{take}
use lib.Seq.{get_or-take}
use Rattle.ieee.specs.Order.{finite}
use Rattle.laws.proofs.Refusing.{and}
use Rattle.ranges.specs.Arith.{◌⊖◌, ◌⊘◌, at}
use Rattle.ranges.specs.Ranges.{within}
use Rattle.std.proofs.Math.Bool.{and-false}
use Rattle.std.specs.Prelude.{Option, Some, None}
use Rattle.knots.specs.declared.Place.{Place}
use Rattle.knots.specs.declared.Place.TheVariants.{Knot, Between}
use Rattle.knots.specs.Places.{every, rises_at, knot_at, place_from, place, blend, value_at}
use Rattle.knots.specs.Loops.{sound, AmongKnots}
use Rattle.knots.proofs.Tables.{Seeking, seek_start, seek_more, seek_found, seek_end, place_in}

-- ---- the rule of the knots

module _ (l : List Float) (n : ℕ) where
  pub first_unknown : place l n None ≡ Knot 0
  unfolding place
  first_unknown = refl

  module _ (w : Float) where
    by : Bool → Place
    by b = cond b (place_from l w 0 (n - 1)) (Knot 0)

    pub first_not_finite : finite w ≡ false → place l n (Some w) ≡ Knot 0
    unfolding place by
    first_not_finite h = ap (λ (b : Bool). by (b && not (le w (at l 0)))) h

    pub first_at_most : le w (at l 0) ≡ true → place l n (Some w) ≡ Knot 0
    unfolding place by
    first_at_most h = ap (λ (b : Bool). by (finite w && not b)) h ∙ ap by (and-false (finite w))

    -- w is at or below none of the knots 0, .. , k
    abbrev pub Above : ℕ → Type 0
    Above k = (j : ℕ) → j ≤ k → le w (at l j) ≡ false

    seek : (k : ℕ) → k ≤ n - 1 → Above k → Seeking l w (n - 1) k
    seek zero h a = seek_start l w (n - 1)
    seek (suc k) h a = subst (Seeking l w (n - 1)) (add-one k) (seek_more l w (seek k (omega arith) (λ j i. a j (omega arith))) (omega arith) (a (k + 1) (omega arith)))

    searched : finite w ≡ true → Above 0 → place l n (Some w) ≡ place_from l w 0 (n - 1)
    unfolding place by
    searched f a = ap (λ (b : Bool). by (b && not (le w (at l 0)))) f ∙ ap (λ (b : Bool). by (not b)) (a 0 (omega arith))

    -- above knot k, and at or below the next: t of the way between them
    pub lies_between : finite w ≡ true → (k : ℕ) → k < n - 1 → Above k → le w (at l (k + 1)) ≡ true
        → place l n (Some w) ≡ Between k ((w ⊖ at l k) ⊘ (at l (k + 1) ⊖ at l k))
    lies_between f k h a e = searched f (λ j i. a j (omega arith)) ∙ sym (seek_found l w (seek k (omega arith) a) h e)

    -- above them all: the last
    pub lies_past : finite w ≡ true → Above (n - 1) → place l n (Some w) ≡ Knot (n - 1)
    lies_past f a = searched f (λ j i. a j (omega arith)) ∙ sym (seek_end l w (seek (n - 1) (omega arith) a) (omega arith))

-- ---- only the counted knots are looked at

pub every_same : (p q : ℕ → Bool) (n : ℕ) → ((k : ℕ) → k < n → p k ≡ q k) → every p n ≡ every q n
every_same p q zero h = refl
every_same p q (suc n) h = and (every_same p q n (λ k i. h k (omega arith))) (h n (omega arith))

pub place_from_same : (l m : List Float) (w : Float) (k n : ℕ) → ((j : ℕ) → j ≤ k + n → at l j ≡ at m j) → place_from l w k n ≡ place_from m w k n
place_from_same l m w k zero h = refl
place_from_same l m w k (suc n) h =
    ap (λ (x : Float). step (at l k) x (place_from l w (k + 1) n)) (h (k + 1) (omega arith))
    ∙ ap (λ (x : Float). step x (at m (k + 1)) (place_from l w (k + 1) n)) (h k (omega arith))
    ∙ ap (λ (r : Place). step (at m k) (at m (k + 1)) r) (place_from_same l m w (k + 1) n (λ j i. h j (omega arith)))
  where
    step : Float → Float → Place → Place
    step x y r = cond (le w y) (Between k ((w ⊖ x) ⊘ (y ⊖ x))) r

pub place_same : (l m : List Float) (n : ℕ) (w : Option Float) → 0 < n → ((j : ℕ) → j < n → at l j ≡ at m j) → place l n w ≡ place m n w
unfolding place
place_same l m n None p h = refl
place_same l m n (Some w) p h =
    ap (λ (x : Float). cond (finite w && not (le w x)) (place_from l w 0 (n - 1)) (Knot 0)) (h 0 p)
    ∙ ap (λ (r : Place). cond (finite w && not (le w (at m 0))) r (Knot 0)) (place_from_same l m w 0 (n - 1) (λ j i. h j (omega arith)))

pub value_same : (l m : List Float) (n : ℕ) (p : Place) → AmongKnots n p → ((j : ℕ) → j < n → at l j ≡ at m j) → value_at l p ≡ value_at m p
unfolding value_at
value_same l m n (Knot k) i h = h k i
value_same l m n (Between k t) i h = ap (λ (x : Float). blend x (at l (k + 1)) t) (h k (omega arith)) ∙ ap (λ (y : Float). blend (at m k) y t) (h (k + 1) i)

-- ---- columns of the first n numbers

module _ (n : ℕ) where
  at_take : (l : List Float) (k : ℕ) → k < n → at (take n l) k ≡ at l k
  at_take l k h = get_or-take n l k nan h

  pub rises_take : (l : List Float) {m : ℕ} → m ≡ n → every (rises_at (take n l)) (m - 1) ≡ every (rises_at l) (n - 1)
  rises_take l e =
      ap (λ (m : ℕ). every (rises_at (take n l)) (m - 1)) e
      ∙ every_same (rises_at (take n l)) (rises_at l) (n - 1)
      (λ k i. ap (λ (x : Float). lt x (at (take n l) (k + 1))) (at_take l k (omega arith)) ∙ ap (λ (y : Float). lt (at l k) y) (at_take l (k + 1) (omega arith)))

  pub sound_take : (l g r : List Float) {m : ℕ} → m ≡ n → sound (take n l) (take n g) (take n r) m ≡ sound l g r n
  sound_take l g r e = ap (sound (take n l) (take n g) (take n r)) e ∙ and (rises_take l refl) (and (and (column l) (column g)) (column r))
    where
      column : (a : List Float) → every (knot_at (take n a)) n ≡ every (knot_at a) n
      column a = every_same (knot_at (take n a)) (knot_at a) n (λ k i. ap (within 1000) (at_take a k i))

  pub value_take : (l v : List Float) (w : Option Float) → 0 < n → {m : ℕ} → m ≡ n → value_at (take n v) (place (take n l) m w) ≡ value_at v (place l n w)
  value_take l v w p e =
      ap (λ (m : ℕ). value_at (take n v) (place (take n l) m w)) e
      ∙ ap (value_at (take n v)) (place_same (take n l) l n w p (at_take l))
      ∙ value_same (take n v) v n (place l n w) (place_in l n n w p (le_refl n)) (at_take v)
