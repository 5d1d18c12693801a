-- The digits over p are the number, so they are rounded alike; zeros and what is from 2 ^ 23 on stay.
use mathlib.Core.Path.{sym, ap, ◌∙◌, subst}
use mathlib.Core.Logic.{inl, inr}
use mathlib.Core.Bool.{true, false}
use Prim.Native.Nat.{ℕ, ◌+◌, ◌/◌, ◌%◌, ◌^◌}
use native.Mathlib.Omega.{arith}
use lib.Dec.{T}
use lib.Ieee.{binary32, fits, to_bits}
use Rattle.ieee.proofs.FloorPatterns.{floor_nan, stays_large, stays_zero, floor_part, sized_above, sized_below, size_in, up_in, up_is, down_is, Part, part_in}
use Rattle.convert.proofs.Nan.{differs, no_nan}
use Rattle.convert.proofs.floor32.Goals.{then-field-ge126, else-field-ge126}
use Rattle.convert.proofs.floor32.Goals as goal

pub returns-then-is_nan : goal.returns-then-is_nan
returns-then-is_nan c = floor_nan c.args.x (differs c.args.x c.is_nan.ensures.value c.if-is_nan.true)

pub float_to_bits-b : goal.float_to_bits-b
float_to_bits-b c = no_nan c.args.x c.is_nan.ensures.value c.if-is_nan.false

pub returns-then-field-ge150 : goal.returns-then-field-ge150
returns-then-field-ge150 c = stays_large c.args.x (subst T (sym c.well_formed.0.1) tt) (no_nan c.args.x c.is_nan.ensures.value c.if-is_nan.false) c.if-field-ge150.true

pub returns-then-a-eq0 : goal.returns-then-a-eq0
returns-then-a-eq0 c = stays_zero c.args.x (subst T (sym c.well_formed.0.1) tt) (no_nan c.args.x c.is_nan.ensures.value c.if-is_nan.false) c.if-a-eq0.true

pub int_to_float-result : goal.int_to_float-result
int_to_float-result c =
    let x = c.args.x in
    let p = c.if-field-ge126.p in
    let held : T (fits binary32 x) = subst T (sym c.well_formed.0.1) tt in
    let plain = no_nan x c.is_nan.ensures.value c.if-is_nan.false in
    let a = to_bits binary32 x % 2 ^ 31 in
    let part : Part (a / 2 ^ 23) p = elim c.if-field-ge126.branch [ then-field-ge126 w ↦ inl (w.if-field-ge126.true, w.p-is ∙ w.pow2.ensures ∙ ap (λ (q : ℕ). 2 ^ q) w.from.ensures) | else-field-ge126 w ↦ inr (w.if-field-ge126.false, w.p-is) ] in
    up_in x held true a (size_in x held plain) (sized_above x held c.if-b-ge2147483648.true) p (part_in (a / 2 ^ 23) p part).0

pub returns-then-b-ge2147483648 : goal.returns-then-b-ge2147483648
returns-then-b-ge2147483648 c =
    let x = c.args.x in
    let p = c.if-field-ge126.p in
    let held : T (fits binary32 x) = subst T (sym c.well_formed.0.1) tt in
    let plain = no_nan x c.is_nan.ensures.value c.if-is_nan.false in
    let a = to_bits binary32 x % 2 ^ 31 in
    let part : Part (a / 2 ^ 23) p = elim c.if-field-ge126.branch [ then-field-ge126 w ↦ inl (w.if-field-ge126.true, w.p-is ∙ w.pow2.ensures ∙ ap (λ (q : ℕ). 2 ^ q) w.from.ensures) | else-field-ge126 w ↦ inr (w.if-field-ge126.false, w.p-is) ] in
    up_is (2 ^ 23 + a % 2 ^ 23) p ∙ floor_part x held plain true (sized_above x held c.if-b-ge2147483648.true) p (omega (arith, c.if-a-eq0.false)) c.if-field-ge150.false part

pub returns-else-b-ge2147483648 : goal.returns-else-b-ge2147483648
returns-else-b-ge2147483648 c =
    let x = c.args.x in
    let p = c.if-field-ge126.p in
    let held : T (fits binary32 x) = subst T (sym c.well_formed.0.1) tt in
    let plain = no_nan x c.is_nan.ensures.value c.if-is_nan.false in
    let a = to_bits binary32 x % 2 ^ 31 in
    let part : Part (a / 2 ^ 23) p = elim c.if-field-ge126.branch [ then-field-ge126 w ↦ inl (w.if-field-ge126.true, w.p-is ∙ w.pow2.ensures ∙ ap (λ (q : ℕ). 2 ^ q) w.from.ensures) | else-field-ge126 w ↦ inr (w.if-field-ge126.false, w.p-is) ] in
    down_is (2 ^ 23 + a % 2 ^ 23) p ∙ floor_part x held plain false (sized_below x held c.if-b-ge2147483648.false) p (omega (arith, c.if-a-eq0.false)) c.if-field-ge150.false part
