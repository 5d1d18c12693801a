use Rattle.std.proofs.Common.{sym, ◌∙◌, ap}
use mathlib.Core.Bool.{not}
use Rattle.float.proofs.Signs.{sign_is, nan_positive}
use Rattle.float.proofs.F64Real.is_negative.Goals as goal

pub returns-then-not-is_nan : goal.returns-then-not-is_nan
returns-then-not-is_nan c = c.is_sign_negative.ensures ∙ sign_is c.args.self

pub returns-else-not-is_nan : goal.returns-else-not-is_nan
returns-else-not-is_nan c =
    ap not c.if-not-is_nan.false ∙ sym (nan_positive c.args.self (sym c.is_nan.ensures.value ∙ c.if-not-is_nan.false))
