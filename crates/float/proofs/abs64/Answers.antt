-- Whether the sign is set says whether `-x` or x has it clear.
use Rattle.std.proofs.Common.{sym, ◌∙◌}
use Rattle.ieee.proofs.Classes.{magnitude_turned}
use Rattle.float.proofs.Signs.{nan_magnitude}
use Rattle.float.proofs.abs64.Goals as goal

pub returns-then-is_nan : goal.returns-then-is_nan
returns-then-is_nan c = nan_magnitude c.args.x (sym c.is_nan.ensures.value ∙ c.if-is_nan.true)

pub returns-then-is_negative : goal.returns-then-is_negative
returns-then-is_negative c = sym (magnitude_turned c.args.x (sym c.is_negative.ensures ∙ c.if-is_negative.true))
