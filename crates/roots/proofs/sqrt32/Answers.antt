-- The tests leave an x above zero (`AboveZero`), and the pattern of its root is made of the digits and of half the exponent (`SqrtPatterns`). An f32 as an f64 has few digits (`Widened`).
use mathlib.Core.Path.{◌≡◌, sym, ap, ◌∙◌, subst}
use mathlib.Core.Bool.{false}
use Prim.Native.Nat.{ℕ, ◌+◌, ◌-◌, ◌*◌, ◌/◌, ◌%◌, ◌^◌, ◌<◌}
use lib.Dec.{T}
use native.Mathlib.Omega.{arith}
use lib.Ieee.Fits.{fits_widens}
use Rattle.ieee.proofs.Widened.{Widened, widened}
use lib.Ieee.{Float, binary32, binary64, fits, to_bits}
use lib.Ieee.Bits.{of_bits-to_bits}
use lib.Ieee.Exact.{HasValue}
use Rattle.roots.specs.Scaled.{IsScaled}
use Rattle.ieee.specs.Sqrt.{sqrt, nearest_root}
use Rattle.ieee.proofs.Reading.{Pattern}
use Rattle.ieee.proofs.AboveZero.{above_zero, above_plain, above_some, sqrt_nan, sqrt_zero, sqrt_below, sqrt_top}
use Rattle.ieee.proofs.SqrtPatterns.{m_hi, exact32, sqrt32_pattern, doubled, plain}
use Rattle.convert.proofs.Nan.{differs, alike, nan32}
use Rattle.roots.proofs.sqrt32.Goals.{then-v-eq1, else-v-eq1}
use Rattle.roots.proofs.sqrt32.Goals as goal

-- v being x as an f64
module _ (x : Float) (held : T (fits binary32 x)) (v : Float) (same : v ≡ x) (digits e : ℕ) (s : IsScaled (to_bits binary64 v) digits e) where
  value : HasValue x false (digits * 2 ^ e) (2 ^ 1126)
  value = subst (λ (v : Float). HasValue v false (digits * 2 ^ e) (2 ^ 1126)) (of_bits-to_bits binary64 v (subst (λ (v : Float). T (fits binary64 v)) (sym same) (fits_widens x held)) ∙ same) s.value

  brief : Widened digits e
  brief = widened x digits e held s.lo s.hi value

  module _ (m : ℕ) (m_is : m ≡ digits * 2 ^ (e % 2)) where
    asked : (m < 2 ^ 54) × (m * 4 ^ 24 % 2 ^ 54 ≡ 0)
    asked = rw m_is (m_hi digits e s.lo s.hi, exact32 digits e s.lo s.hi brief.w brief.even brief.above brief.below)

    rooted : (q : ℕ) → q ≡ nearest_root (m * 4 ^ 24 / 2 ^ 54) → Pattern binary32 (sqrt binary32 x) ((e / 2 - 411) * 2 ^ 23 + q)
    rooted q q_is = sqrt32_pattern digits e s.lo s.hi brief.w brief.even brief.above brief.below x value q (q_is ∙ ap (λ (m : ℕ). nearest_root (m * 4 ^ 24 / 2 ^ 54)) m_is)

pub returns-then-is_nan : goal.returns-then-is_nan
returns-then-is_nan c = sqrt_nan binary32 c.args.x (differs c.args.x c.is_nan.ensures.value c.if-is_nan.true)

pub returns-then-x : goal.returns-then-x
returns-then-x c = sqrt_zero binary32 c.args.x c.if-x.true

pub returns-then-x-2 : goal.returns-then-x-2
returns-then-x-2 c = nan32 ∙ sqrt_below binary32 c.args.x c.if-x-2.true

pub float_to_bits-b : goal.float_to_bits-b
float_to_bits-b c = rw c.from-b.ensures (above_plain c.args.x (above_zero binary32 c.args.x (alike c.args.x c.is_nan.ensures.value c.if-is_nan.false) c.if-x.false c.if-x-2.false))

pub returns-then-b-ge9218868437227405312 : goal.returns-then-b-ge9218868437227405312
returns-then-b-ge9218868437227405312 c = sqrt_top c.args.x (fits_widens c.args.x (subst T (sym c.well_formed.0.1) tt)) (above_zero binary32 c.args.x (alike c.args.x c.is_nan.ensures.value c.if-is_nan.false) c.if-x.false c.if-x-2.false) binary32 (rw c.from-b.ensures at c.if-b-ge9218868437227405312.true)

pub scaled-v-requires : goal.scaled-v-requires
scaled-v-requires c = (rw c.from-b.ensures (above_some c.args.x (fits_widens c.args.x (subst T (sym c.well_formed.0.1) tt)) (above_zero binary32 c.args.x (alike c.args.x c.is_nan.ensures.value c.if-is_nan.false) c.if-x.false c.if-x-2.false)), c.if-b-ge9218868437227405312.false)

pub overflow_sub-result : goal.overflow_sub-result
overflow_sub-result c = omega (arith, (brief c.args.x (subst T (sym c.well_formed.0.1) tt) _ c.from-b.ensures _ _ c.scaled-v.ensures).above)

pub root24-requires : goal.root24-requires
root24-requires c =
    let m_is : c.if-v-eq1.m ≡ c.scaled-v.result.digits * 2 ^ (c.scaled-v.result.e % 2) = elim c.if-v-eq1.branch [ then-v-eq1 w ↦ w.m-is ∙ doubled _ _ w.if-v-eq1.true | else-v-eq1 w ↦ w.m-is ∙ plain _ _ w.if-v-eq1.false ] in
    let k = asked c.args.x (subst T (sym c.well_formed.0.1) tt) _ c.from-b.ensures _ _ c.scaled-v.ensures _ m_is in
    (k.0, k.1, c.guess.ensures.0, c.guess.ensures.1)

pub overflow_add-result : goal.overflow_add-result
overflow_add-result c =
    let m_is : c.if-v-eq1.m ≡ c.scaled-v.result.digits * 2 ^ (c.scaled-v.result.e % 2) = elim c.if-v-eq1.branch [ then-v-eq1 w ↦ w.m-is ∙ doubled _ _ w.if-v-eq1.true | else-v-eq1 w ↦ w.m-is ∙ plain _ _ w.if-v-eq1.false ] in
    omega (arith, (rooted c.args.x (subst T (sym c.well_formed.0.1) tt) _ c.from-b.ensures _ _ c.scaled-v.ensures _ m_is _ c.root24.ensures).wide)

pub overflow_cast-result : goal.overflow_cast-result
overflow_cast-result c =
    let m_is : c.if-v-eq1.m ≡ c.scaled-v.result.digits * 2 ^ (c.scaled-v.result.e % 2) = elim c.if-v-eq1.branch [ then-v-eq1 w ↦ w.m-is ∙ doubled _ _ w.if-v-eq1.true | else-v-eq1 w ↦ w.m-is ∙ plain _ _ w.if-v-eq1.false ] in
    record { fits = (rooted c.args.x (subst T (sym c.well_formed.0.1) tt) _ c.from-b.ensures _ _ c.scaled-v.ensures _ m_is _ c.root24.ensures).wide }

pub float_from_bits-result : goal.float_from_bits-result
float_from_bits-result c =
    let m_is : c.if-v-eq1.m ≡ c.scaled-v.result.digits * 2 ^ (c.scaled-v.result.e % 2) = elim c.if-v-eq1.branch [ then-v-eq1 w ↦ w.m-is ∙ doubled _ _ w.if-v-eq1.true | else-v-eq1 w ↦ w.m-is ∙ plain _ _ w.if-v-eq1.false ] in
    (rooted c.args.x (subst T (sym c.well_formed.0.1) tt) _ c.from-b.ensures _ _ c.scaled-v.ensures _ m_is _ c.root24.ensures).plain

pub returns : goal.returns
returns c =
    let m_is : c.if-v-eq1.m ≡ c.scaled-v.result.digits * 2 ^ (c.scaled-v.result.e % 2) = elim c.if-v-eq1.branch [ then-v-eq1 w ↦ w.m-is ∙ doubled _ _ w.if-v-eq1.true | else-v-eq1 w ↦ w.m-is ∙ plain _ _ w.if-v-eq1.false ] in
    (rooted c.args.x (subst T (sym c.well_formed.0.1) tt) _ c.from-b.ensures _ _ c.scaled-v.ensures _ m_is _ c.root24.ensures).back
