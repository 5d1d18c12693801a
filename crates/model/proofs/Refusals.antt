-- What a call answers, from the tests on the way. Assumes nothing.
use mathlib.Core.Path.{◌≡◌, refl, sym, ap, ◌∙◌}
use mathlib.Core.Bool.{Bool, true, false, cond, not, ◌&&◌}
use mathlib.Core.List.{List}
use Prim.Native.Nat.{◌-◌, ◌≤◌, ◌<◌}
use native.Mathlib.Omega.{arith}
use lib.Dec.{ltb, leb}
use lib.Ieee.{Float}
use lib.ListN.{length, take}
use borrow.Author.Tests.{lt-ltb, le-ltb, le-leb, lt-leb, ltb-true, leb-true}
use Rattle.std.specs.Prelude.{Option, Result, Ok, Err}
use Rattle.std.proofs.lemmas.Bool.{and_right as fails_right}
use Rattle.numbers.specs.declared.Number.{Number}
use Rattle.numbers.specs.declared.Number.TheVariants.{Knots, FloatRange, NotFinite}
use Rattle.refine.specs.Covariance.{all_finite, judged}
use Rattle.refine.specs.declared.PositionCovariance.{PositionCovariance}
use Rattle.covariance.specs.declared.CovarianceModel.{CovarianceModel}
use Rattle.laws.proofs.Refusing.{and, and_left, and_right}
use Rattle.ranges.specs.Ranges.{up_to}
use Rattle.knots.specs.Places.{every, rises_at, knot_at, place, value_at}
use Rattle.knots.specs.Loops.{sound}
use Rattle.knots.proofs.Laws.{value_take}
use Rattle.model.specs.declared.SystematicModel.{SystematicModel}
use Rattle.model.specs.declared.GainResidual.{GainResidual}
use Rattle.model.specs.Knots.{rising_knots, knots_in_range, after_knots, knots_judged, both_at, at_of}
use Rattle.model.specs.Model.{systematic_at, estimate_in_range, ungrown, model_of}

-- ---- the knots

module _ (s : SystematicModel) where
  -- by the two tests, in their order
  by : Bool → Bool → Result Unit Number
  by a b = cond (not a) (Err Knots) (cond (not b) (Err FloatRange) (Ok tt))

  judged_is : (a b : Bool) → rising_knots s ≡ a → knots_in_range s ≡ b → by a b ≡ knots_judged s
  unfolding after_knots by
  judged_is a b f g = ap (λ (z : Bool). by z b) (sym f) ∙ ap (λ (z : Bool). by (rising_knots s) z) (sym g)

  abbrev E : Bool
  E = every (rises_at s.widths) (s.count - 1)

  not_counted : ltb 0 s.count && leb s.count 16 ≡ false → Err Knots ≡ knots_judged s
  unfolding by
  not_counted h = judged_is false (knots_in_range s) (ap (λ (b : Bool). b && E) h) refl

  pub no_knot : s.count ≡ 0 → Err Knots ≡ knots_judged s
  no_knot e = not_counted (ap (λ (b : Bool). b && leb s.count 16) (le-ltb 0 s.count (omega arith)))

  pub many_knots : 16 < s.count → Err Knots ≡ knots_judged s
  many_knots l = not_counted (fails_right (ltb 0 s.count) (leb s.count 16) (lt-leb s.count 16 l))

  module _ (p : (s.count ≡ 0) → ⊥) (q : s.count ≤ 16) where
    counted : rising_knots s ≡ E
    counted = ap (λ (z : Bool). z && E) (and (lt-ltb 0 s.count (omega arith)) (le-leb s.count 16 q))

    abbrev K : Bool
    K = (every (knot_at s.widths) s.count && every (knot_at s.gains) s.count) && every (knot_at s.residuals) s.count

    pub not_rising : E ≡ false → Err Knots ≡ knots_judged s
    unfolding by
    not_rising h = judged_is false (knots_in_range s) (counted ∙ h) refl

    -- by the test of all knots at once, and that of the floor
    pub out_of_range : E ≡ true → sound s.widths s.gains s.residuals s.count && up_to 1000 s.floor ≡ false → Err FloatRange ≡ knots_judged s
    unfolding by
    out_of_range h g = judged_is true false (counted ∙ h) (sym (ap (λ (b : Bool). (b && K) && up_to 1000 s.floor) h) ∙ g)

    pub taken : sound s.widths s.gains s.residuals s.count && up_to 1000 s.floor ≡ true → Ok tt ≡ knots_judged s
    unfolding by
    taken g =
        let e = and_left (E && K) (up_to 1000 s.floor) g in
        judged_is true true (counted ∙ and_left E K e) (and (and_right E K e) (and_right (E && K) (up_to 1000 s.floor) g))

  -- a table that nothing refuses has one to sixteen knots
  pub knots : Ok tt ≡ knots_judged s → (0 < s.count) × (s.count ≤ 16)
  unfolding after_knots by
  knots e =
      let r = rising (rising_knots s) (knots_in_range s) e in
      let c = and_left (ltb 0 s.count && leb s.count 16) E r in
      (ltb-true 0 s.count (and_left (ltb 0 s.count) (leb s.count 16) c), leb-true s.count 16 (and_right (ltb 0 s.count) (leb s.count 16) c))
    where
      rising : (a b : Bool) → Ok tt ≡ by a b → a ≡ true
      rising true b h = refl
      rising false b h = cc

  -- what refuses the knots stands, and where nothing does comes what follows
  module _ {A : Type 0} (next : Result A Number) where
    pub knots_stand : (why : Number) → Err why ≡ knots_judged s → Err why ≡ after_knots s next
    unfolding after_knots by
    knots_stand why = go (rising_knots s) (knots_in_range s)
      where
        go : (a b : Bool) → Err why ≡ by a b → Err why ≡ cond (not a) (Err Knots) (cond (not b) (Err FloatRange) next)
        go false b e = cc
        go true false e = cc
        go true true e = cc

    pub knots_pass : Ok tt ≡ knots_judged s → next ≡ after_knots s next
    unfolding after_knots by
    knots_pass = go (rising_knots s) (knots_in_range s)
      where
        go : (a b : Bool) → Ok tt ≡ by a b → next ≡ cond (not a) (Err Knots) (cond (not b) (Err FloatRange) next)
        go false b e = cc
        go true false e = cc
        go true true e = refl

  -- ---- at

  module _ (w : Option Float) where
    -- by the counted numbers of each array
    pub given : {l g r : List Float} {k : GainResidual} → Ok tt ≡ knots_judged s → l ≡ take s.count s.widths → g ≡ take s.count s.gains → r ≡ take s.count s.residuals
        → length l ≡ s.count → k.gain ≡ value_at g (place l (length l) w) → k.residual ≡ value_at r (place l (length l) w) → k ≡ both_at s w
    given {l} {g} {r} {k} z a b c d e f = whole (e ∙ there s.gains b) (f ∙ there s.residuals c)
      where
        same : {v v' : List Float} → l ≡ take s.count s.widths → v ≡ v' → value_at v (place l (length l) w) ≡ value_at v' (place (take s.count s.widths) (length l) w)
        same a b = cc

        there : (v : List Float) {v' : List Float} → v' ≡ take s.count v → value_at v' (place l (length l) w) ≡ value_at v (place s.widths s.count w)
        there v b = same a b ∙ value_take s.count s.widths v w (knots z).0 d

        whole : k.gain ≡ (both_at s w).gain → k.residual ≡ (both_at s w).residual → k ≡ both_at s w
        whole e f = λ i. record { gain = e i; residual = f i }

    pub at_refused : (why : Number) → Err why ≡ knots_judged s → Err why ≡ at_of s w
    unfolding at_of
    at_refused why e = knots_stand (Ok (both_at s w)) why e

    pub at_found : Ok tt ≡ knots_judged s → {k : GainResidual} → k ≡ both_at s w → Ok k ≡ at_of s w
    unfolding at_of
    at_found z e = ap Ok e ∙ knots_pass (Ok (both_at s w)) z

-- ---- the model

module _ (s : SystematicModel) (c : PositionCovariance) (u : List Float) (w : Option Float) (grid : Float) where
  -- by the tests in their order
  all : (a b e : Bool) → Result CovarianceModel Number → Result CovarianceModel Number
  all a b e r = cond (not a) (Err Knots) (cond (not (b && e)) (Err FloatRange) r)

  last : Bool → PositionCovariance → Result CovarianceModel Number
  last f d = cond (not f) (Err NotFinite) (Ok (ungrown c d))

  pub model_knots : (why : Number) → Err why ≡ knots_judged s → Err why ≡ model_of s c u w grid
  unfolding model_of after_knots all last by
  model_knots why = go (rising_knots s) (knots_in_range s) (estimate_in_range c u grid) (last (all_finite (systematic_at s u w grid)) (systematic_at s u w grid))
    where
      go : (a b e : Bool) (r : Result CovarianceModel Number) → Err why ≡ by s a b → Err why ≡ all a b e r
      go false b e r h = cc
      go true false e r h = cc
      go true true e r h = cc

  module _ (h : Ok tt ≡ knots_judged s) where
    passed : (e : Bool) (d : PositionCovariance) → estimate_in_range c u grid ≡ e → d ≡ systematic_at s u w grid
        → cond (not e) (Err FloatRange) (last (all_finite d) d) ≡ model_of s c u w grid
    unfolding model_of after_knots all last by
    passed e d f g =
        ap (λ (z : Bool). cond (not z) (Err FloatRange) (last (all_finite d) d)) (sym f)
        ∙ ap (λ (d : PositionCovariance). cond (not (estimate_in_range c u grid)) (Err FloatRange) (last (all_finite d) d)) g
        ∙ go (rising_knots s) (knots_in_range s) (estimate_in_range c u grid) (last (all_finite (systematic_at s u w grid)) (systematic_at s u w grid)) h
      where
        go : (a b e : Bool) (r : Result CovarianceModel Number) → Ok tt ≡ by s a b → cond (not e) (Err FloatRange) r ≡ all a b e r
        go false b e r h = cc
        go true false e r h = cc
        go true true e r h = refl

    pub model_12 : estimate_in_range c u grid ≡ false → Err FloatRange ≡ model_of s c u w grid
    model_12 f = passed false (systematic_at s u w grid) f refl

    module _ (f : estimate_in_range c u grid ≡ true) (d : PositionCovariance) (g : d ≡ systematic_at s u w grid) where
      pub model_13 : (why : Number) → Err why ≡ judged d → Err why ≡ model_of s c u w grid
      unfolding last
      model_13 why e = go (all_finite d) e ∙ passed true d f g
        where
          go : (b : Bool) → ◌≡◌ {A = Result PositionCovariance Number} (Err why) (cond b (Ok d) (Err NotFinite)) → Err why ≡ last b d
          go true e = cc
          go false e = cc

      pub model_0 : (t : PositionCovariance) → Ok t ≡ judged d → Ok (ungrown c t) ≡ model_of s c u w grid
      unfolding last
      model_0 t e = go (all_finite d) e ∙ passed true d f g
        where
          go : (b : Bool) → ◌≡◌ {A = Result PositionCovariance Number} (Ok t) (cond b (Ok d) (Err NotFinite)) → Ok (ungrown c t) ≡ last b d
          go true e = let q : t ≡ d = cc in ap (λ (d : PositionCovariance). Ok (ungrown c d)) q
          go false e = cc
