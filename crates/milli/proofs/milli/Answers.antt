-- `milli` meets its contract: the digits' half thousandths, an odd one up, are the thousandths of the value
-- (proofs/Patterns.antt).
use mathlib.Core.Path.{sym, ◌∙◌, subst}
use mathlib.Core.Logic.{inl, inr}
use Prim.Native.Nat.{◌/◌, ◌^◌}
use lib.Dec.{T}
use lib.Ieee.{binary32, to_bits}
use Rattle.milli.proofs.Patterns.{milli_nan, milli_minus, milli_large, milli_is, Part, plain}
use Rattle.milli.proofs.milli.Goals.{then-field-ge110, else-field-ge110}
use Rattle.milli.proofs.milli.Goals as goal

pub returns-then-is_nan : goal.returns-then-is_nan
returns-then-is_nan c = milli_nan c.args.x (sym c.if-is_nan.ensures.value)

pub returns-then-b-ge2147483648 : goal.returns-then-b-ge2147483648
returns-then-b-ge2147483648 c = milli_minus c.args.x (subst T (sym c.well_formed.0.1) tt) c.if-b-ge2147483648.true

pub returns-then-field-ge150 : goal.returns-then-field-ge150
returns-then-field-ge150 c =
    let x = c.args.x in
    milli_large x (subst T (sym c.well_formed.0.1) tt) (plain x c.if-is_nan.ensures.value) c.if-b-ge2147483648.false c.if-field-ge150.true

pub returns : goal.returns
returns c =
    let x = c.args.x in
    let d = c.if-field-ge110.d in
    let p : Part (to_bits binary32 x / 2 ^ 23) d = elim c.if-field-ge110.branch [
      | then-field-ge110 w ↦ inl (w.if-field-ge110.true, w.d-is)
      | else-field-ge110 w ↦ inr (w.if-field-ge110.false, w.d-is)
    ] in
    c.min.ensures
    ∙ milli_is x (subst T (sym c.well_formed.0.1) tt) (plain x c.if-is_nan.ensures.value) c.if-b-ge2147483648.false c.from-digits.result d
    c.from.result c.if-field-ge150.false p c.from-digits.ensures c.from.ensures
