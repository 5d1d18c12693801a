-- A cell that is no NaN widens to itself. Assumes nothing.
use mathlib.Core.Bool.{not, ◌&&◌}
use lib.Dec.{T}
use Rattle.std.proofs.Common.{rules}
use lib.Ieee.{Float, binary32, binary64, fits, is_nan}
use lib.Ieee.Fits.{fits_widens, and_i}
use Rattle.gram.proofs.Nans.{plain_cells}
use Rattle.gram.proofs.Plain.with_products.Goals as goal

exact : (x : Float) → T (fits binary32 x) → T (not (is_nan x)) → T (fits binary64 x && not (is_nan x))
exact x f p = and_i (fits binary64 x) (not (is_nan x)) (fits_widens x f) p

pub float_to_float-x : goal.float_to_float-x
float_to_float-x c = exact _ (search rules) (plain_cells _ _ _ _ c.args.self.no_nan c.requires).0

pub float_to_float-y : goal.float_to_float-y
float_to_float-y c = exact _ (search rules) (plain_cells _ _ _ _ c.args.self.no_nan c.requires).1
