-- `deviation` meets its contract: it is its definition, operation by operation. Assumes nothing.
use mathlib.Core.Path.{◌≡◌, ◌∙◌, ap}
use lib.Ieee.{Float, binary32, binary64, div, of_bits, of_int, round}
use Rattle.ieee.specs.Convert.{convert}
use Rattle.ieee.specs.Sqrt.{sqrt}
use Rattle.joining.specs.Numbers.{operator_gain}
use Rattle.joining.specs.Joining.{deviation}
use Rattle.joining.proofs.deviation.Goals as goal

-- the root over the gain, rounded
rounded : {x y r : Float} → r ≡ convert binary32 (div binary64 x operator_gain) → x ≡ y → r ≡ convert binary32 (div binary64 y operator_gain)
rounded e f = e ∙ ap (λ (z : Float). convert binary32 (div binary64 z operator_gain)) f

pub returns : goal.returns
unfolding deviation of_bits of_int round
returns c =
    rounded c.to_f32.ensures
    (c.sqrt64.ensures ∙ ap (λ (x : Float). sqrt binary64 (div binary64 c.args.k.sum x)) c.nearest_usize_to_f64.ensures)
