-- Only for the loop: the choices of an insertion that compares and never jumps.
use Rattle.std.specs.Prelude.{cond, Float}
use Rattle.std.specs.Float.Ieee.{lt}

-- the greater of two numbers
abbrev pub greater : Float → Float → Float
greater v y = cond (lt v y) y v

-- v between y and x, else the one of them that is nearer
abbrev pub middle : Float → Float → Float → Float
middle v y x = cond (lt v x) (greater v y) x
