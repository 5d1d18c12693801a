-- The sign is taken off and put back, and `narrow_size` gives the pattern of what is between. What owning a float tells: the format holds it (`c.well_formed`).
use Rattle.ieee.specs.Convert.{convert}
use Rattle.ieee.proofs.Reading.{Pattern}
use Rattle.ieee.proofs.Narrowing.{narrow_nan, size_above, size_below, of_above, of_below, above_is}
use lib.Ieee.{binary32, binary64, fits, neg}
use lib.Dec.{T}
use mathlib.Core.Path.{sym, ◌∙◌, subst}
use Rattle.convert.proofs.Nan.{differs, no_nan, nan32}
use Rattle.convert.proofs.to_f32.Goals as goal

pub returns-then-is_nan : goal.returns-then-is_nan
returns-then-is_nan c = nan32 ∙ narrow_nan c.args.x (differs c.args.x c.is_nan.ensures.value c.if-is_nan.true)

pub float_to_bits-b : goal.float_to_bits-b
float_to_bits-b c = no_nan c.args.x c.is_nan.ensures.value c.if-is_nan.false

pub narrow_size-requires : goal.narrow_size-requires
narrow_size-requires c = size_above c.args.x (subst T (sym c.well_formed.0.1) tt) (no_nan c.args.x c.is_nan.ensures.value c.if-is_nan.false) c.if-b-ge9223372036854775808.true

pub overflow_cast-result : goal.overflow_cast-result
overflow_cast-result c =
    let upper : Pattern binary32 (convert binary32 (neg c.args.x)) c.narrow_size.result = of_above c.args.x (subst T (sym c.well_formed.0.1) tt) (no_nan c.args.x c.is_nan.ensures.value c.if-is_nan.false) c.if-b-ge9223372036854775808.true c.narrow_size.result c.narrow_size.ensures in
    record { fits = upper.wide }

pub float_from_bits-result : goal.float_from_bits-result
float_from_bits-result c =
    (of_above c.args.x (subst T (sym c.well_formed.0.1) tt) (no_nan c.args.x c.is_nan.ensures.value c.if-is_nan.false) c.if-b-ge9223372036854775808.true c.narrow_size.result c.narrow_size.ensures).plain

pub narrow_size-requires-else-b-ge9223372036854775808 : goal.narrow_size-requires-else-b-ge9223372036854775808
narrow_size-requires-else-b-ge9223372036854775808 c = size_below c.args.x (subst T (sym c.well_formed.0.1) tt) (no_nan c.args.x c.is_nan.ensures.value c.if-is_nan.false) c.if-b-ge9223372036854775808.false

pub overflow_cast-result-else-b-ge9223372036854775808 : goal.overflow_cast-result-else-b-ge9223372036854775808
overflow_cast-result-else-b-ge9223372036854775808 c =
    let r = c.narrow_size-else-b-ge9223372036854775808 in
    record { fits = (of_below c.args.x (subst T (sym c.well_formed.0.1) tt) (no_nan c.args.x c.is_nan.ensures.value c.if-is_nan.false) r.result r.ensures).wide }

pub float_from_bits-result-else-b-ge9223372036854775808 : goal.float_from_bits-result-else-b-ge9223372036854775808
float_from_bits-result-else-b-ge9223372036854775808 c =
    let r = c.narrow_size-else-b-ge9223372036854775808 in
    (of_below c.args.x (subst T (sym c.well_formed.0.1) tt) (no_nan c.args.x c.is_nan.ensures.value c.if-is_nan.false) r.result r.ensures).plain

pub returns-then-b-ge9223372036854775808 : goal.returns-then-b-ge9223372036854775808
returns-then-b-ge9223372036854775808 c =
    let held : T (fits binary64 c.args.x) = subst T (sym c.well_formed.0.1) tt in
    let plain = no_nan c.args.x c.is_nan.ensures.value c.if-is_nan.false in
    above_is c.args.x held plain _ (of_above c.args.x held plain c.if-b-ge9223372036854775808.true c.narrow_size.result c.narrow_size.ensures).back

pub returns-else-b-ge9223372036854775808 : goal.returns-else-b-ge9223372036854775808
returns-else-b-ge9223372036854775808 c =
    let r = c.narrow_size-else-b-ge9223372036854775808 in
    (of_below c.args.x (subst T (sym c.well_formed.0.1) tt) (no_nan c.args.x c.is_nan.ensures.value c.if-is_nan.false) r.result r.ensures).back
