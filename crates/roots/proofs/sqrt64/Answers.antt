-- The tests leave an x above zero (`AboveZero`), and the pattern of its root is made of the digits and of half the exponent (`SqrtPatterns`).
use mathlib.Core.Path.{◌≡◌, sym, ap, ◌∙◌, subst}
use mathlib.Core.Bool.{false}
use Prim.Native.Nat.{ℕ, ◌+◌, ◌*◌, ◌/◌, ◌%◌, ◌^◌}
use lib.Dec.{T}
use lib.Ieee.{Float, binary64, fits, to_bits}
use lib.Ieee.Bits.{of_bits-to_bits}
use lib.Ieee.Exact.{HasValue}
use Rattle.roots.specs.Scaled.{IsScaled}
use Rattle.ieee.specs.Sqrt.{sqrt, nearest_root}
use Rattle.ieee.proofs.Reading.{Pattern}
use Rattle.ieee.proofs.AboveZero.{above_zero, above_plain, above_some, sqrt_nan, sqrt_zero, sqrt_below, sqrt_top}
use Rattle.ieee.proofs.SqrtPatterns.{sqrt64_pattern, doubled, plain}
use Rattle.convert.proofs.Nan.{differs, alike, nan64}
use Rattle.roots.proofs.sqrt64.Goals.{then-v-eq1, else-v-eq1}
use Rattle.roots.proofs.sqrt64.Goals as goal

-- m being digits * 2 ^ (e % 2), and q its root
rooted : (x : Float) → T (fits binary64 x) → (digits e m q : ℕ) → IsScaled (to_bits binary64 x) digits e → m ≡ digits * 2 ^ (e % 2) → q ≡ nearest_root (m * 4 ^ 53 / 2 ^ 54)
    → Pattern binary64 (sqrt binary64 x) ((e / 2 + 485) * 2 ^ 52 + q)
rooted x held digits e m q s m_is q_is =
    sqrt64_pattern digits e s.lo s.hi s.small x
    (subst (λ (v : Float). HasValue v false (digits * 2 ^ e) (2 ^ 1126)) (of_bits-to_bits binary64 x held) s.value)
    q (q_is ∙ ap (λ (m : ℕ). nearest_root (m * 4 ^ 53 / 2 ^ 54)) m_is)

pub returns-then-is_nan : goal.returns-then-is_nan
returns-then-is_nan c = sqrt_nan binary64 c.args.x (differs c.args.x c.is_nan.ensures.value c.if-is_nan.true)

pub returns-then-x : goal.returns-then-x
returns-then-x c = sqrt_zero binary64 c.args.x c.if-x.true

pub returns-then-x-2 : goal.returns-then-x-2
returns-then-x-2 c = nan64 ∙ sqrt_below binary64 c.args.x c.if-x-2.true

pub float_to_bits-b : goal.float_to_bits-b
float_to_bits-b c = above_plain c.args.x (above_zero binary64 c.args.x (alike c.args.x c.is_nan.ensures.value c.if-is_nan.false) c.if-x.false c.if-x-2.false)

pub returns-then-b-ge9218868437227405312 : goal.returns-then-b-ge9218868437227405312
returns-then-b-ge9218868437227405312 c = sqrt_top c.args.x (subst T (sym c.well_formed.0.1) tt) (above_zero binary64 c.args.x (alike c.args.x c.is_nan.ensures.value c.if-is_nan.false) c.if-x.false c.if-x-2.false) binary64 c.if-b-ge9218868437227405312.true

pub scaled-v-requires : goal.scaled-v-requires
scaled-v-requires c = (above_some c.args.x (subst T (sym c.well_formed.0.1) tt) (above_zero binary64 c.args.x (alike c.args.x c.is_nan.ensures.value c.if-is_nan.false) c.if-x.false c.if-x-2.false), c.if-b-ge9218868437227405312.false)

pub overflow_add-result-2 : goal.overflow_add-result-2
overflow_add-result-2 c =
    let m_is : c.if-v-eq1.m ≡ c.scaled-v.result.digits * 2 ^ (c.scaled-v.result.e % 2) = elim c.if-v-eq1.branch [ then-v-eq1 w ↦ w.m-is ∙ doubled _ _ w.if-v-eq1.true | else-v-eq1 w ↦ w.m-is ∙ plain _ _ w.if-v-eq1.false ] in
    record { fits = (rooted c.args.x (subst T (sym c.well_formed.0.1) tt) _ _ _ _ c.scaled-v.ensures m_is c.root.ensures).wide }

pub float_from_bits-result : goal.float_from_bits-result
float_from_bits-result c =
    let m_is : c.if-v-eq1.m ≡ c.scaled-v.result.digits * 2 ^ (c.scaled-v.result.e % 2) = elim c.if-v-eq1.branch [ then-v-eq1 w ↦ w.m-is ∙ doubled _ _ w.if-v-eq1.true | else-v-eq1 w ↦ w.m-is ∙ plain _ _ w.if-v-eq1.false ] in
    (rooted c.args.x (subst T (sym c.well_formed.0.1) tt) _ _ _ _ c.scaled-v.ensures m_is c.root.ensures).plain

pub returns : goal.returns
returns c =
    let m_is : c.if-v-eq1.m ≡ c.scaled-v.result.digits * 2 ^ (c.scaled-v.result.e % 2) = elim c.if-v-eq1.branch [ then-v-eq1 w ↦ w.m-is ∙ doubled _ _ w.if-v-eq1.true | else-v-eq1 w ↦ w.m-is ∙ plain _ _ w.if-v-eq1.false ] in
    (rooted c.args.x (subst T (sym c.well_formed.0.1) tt) _ _ _ _ c.scaled-v.ensures m_is c.root.ensures).back
