-- What the definitions mean: the constant, and that only counted knots are looked at. Assumes nothing.
use mathlib.Core.Path.{◌≡◌, refl, ap, ◌∙◌}
use mathlib.Core.Bool.{Bool, true, false, cond, not, ◌&&◌}
use mathlib.Core.List.{List}
use Prim.Native.Nat.{ℕ, ◌+◌, ◌-◌, ◌<◌}
use native.Mathlib.Nat.{le_refl}
use native.Mathlib.Omega.{arith}
use lib.Dec.{ltb, leb}
use lib.Ieee.{Float, lt, of_int, round}
use Rattle.std.specs.Prelude.{Option, Result, Ok, Err}
use Rattle.numbers.specs.declared.Number.{Number}
use Rattle.numbers.specs.declared.Number.TheVariants.{Knots, FloatRange}
use Rattle.numbers.specs.Numbers.{number_in}
use Rattle.laws.proofs.Refusing.{and}
use Rattle.ranges.specs.Arith.{at, one, twelfth}
use Rattle.ranges.specs.Ranges.{within, up_to}
use Rattle.knots.specs.Places.{every, rises_at, knot_at, place, value_at}
use Rattle.knots.specs.Loops.{AmongKnots}
use Rattle.knots.proofs.Tables.{place_in}
use Rattle.knots.proofs.Laws.{every_same, place_same, value_same}
use Rattle.model.specs.declared.SystematicModel.{SystematicModel}
use Rattle.model.specs.Knots.{table, rising_knots, knots_in_range, after_knots, knots_judged, knots_number, gain_at, residual_at, both_at, at_of}
use Rattle.model.specs.Systematic.{uniform_variance}
use Rattle.model.proofs.Refusals.{knots}

-- ---- the constant is the variance of a uniform spread over one grey level

pub twelfth_uniform : uniform_variance one ≡ twelfth
unfolding lib.Ieee.mul lib.Ieee.div of_int round
twelfth_uniform = refl

-- ---- only the counted knots are looked at

module _ (n : ℕ) (f : Float) (l g r l' g' r' : List Float)
    (hl : (k : ℕ) → k < n → at l k ≡ at l' k) (hg : (k : ℕ) → k < n → at g k ≡ at g' k) (hr : (k : ℕ) → k < n → at r k ≡ at r' k) where
  in_range : (a b : List Float) → ((k : ℕ) → k < n → at a k ≡ at b k) → every (knot_at a) n ≡ every (knot_at b) n
  in_range a b h = every_same (knot_at a) (knot_at b) n (λ k i. ap (within 1000) (h k i))

  rise : every (rises_at l) (n - 1) ≡ every (rises_at l') (n - 1)
  rise = every_same (rises_at l) (rises_at l') (n - 1)
      (λ k i. ap (λ (x : Float). lt x (at l (k + 1))) (hl k (omega arith)) ∙ ap (λ (y : Float). lt (at l' k) y) (hl (k + 1) (omega arith)))

  abbrev s : SystematicModel
  s = table n f l g r

  abbrev s' : SystematicModel
  s' = table n f l' g' r'

  same_after : {A : Type 0} (next : Result A Number) → after_knots s next ≡ after_knots s' next
  unfolding after_knots
  same_after next =
      ap (λ (b : Bool). cond (not ((ltb 0 n && leb n 16) && b)) (Err Knots) (cond (not (knots_in_range s)) (Err FloatRange) next)) rise
      ∙ ap (λ (b : Bool). cond (not (rising_knots s')) (Err Knots) (cond (not (b && up_to 1000 f)) (Err FloatRange) next)) (and (and (in_range l l' hl) (in_range g g' hg)) (in_range r r' hr))

  pub same_number : knots_number (table n f l g r) ≡ knots_number (table n f l' g' r')
  same_number = ap number_in (same_after (Ok tt))

  -- what follows is looked at where nothing refuses the knots
  looked : {A : Type 0} (x y : Result A Number) → (Ok tt ≡ knots_judged s → x ≡ y) → after_knots s x ≡ after_knots s y
  unfolding after_knots
  looked {A} x y = go (rising_knots s) (knots_in_range s)
    where
      go : (a b : Bool) → (◌≡◌ {A = Result Unit Number} (Ok tt) (cond (not a) (Err Knots) (cond (not b) (Err FloatRange) (Ok tt))) → x ≡ y)
          → cond (not a) (Err Knots) (cond (not b) (Err FloatRange) x) ≡ cond (not a) (Err Knots) (cond (not b) (Err FloatRange) y)
      go true true h = h refl
      go true false h = refl
      go false b h = refl

  same_both : (w : Option Float) → 0 < n → both_at s w ≡ both_at s' w
  same_both w p = whole (value_same g g' n (place l n w) i hg ∙ ap (value_at g') (place_same l l' n w p hl)) (value_same r r' n (place l n w) i hr ∙ ap (value_at r') (place_same l l' n w p hl))
    where
      i : AmongKnots n (place l n w)
      i = place_in l n n w p (le_refl n)

      whole : gain_at s w ≡ gain_at s' w → residual_at s w ≡ residual_at s' w → both_at s w ≡ both_at s' w
      whole e f = λ i. record { gain = e i; residual = f i }

  pub same_at : (w : Option Float) → at_of (table n f l g r) w ≡ at_of (table n f l' g' r') w
  unfolding at_of
  same_at w = looked (Ok (both_at s w)) (Ok (both_at s' w)) (λ e. ap Ok (same_both w (knots s e).0)) ∙ same_after (Ok (both_at s' w))
