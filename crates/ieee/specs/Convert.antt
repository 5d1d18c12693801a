-- A float at another format, rounded once: IEEE 754-2019, section 5.4.2, convertFormat, to nearest with ties to even.
use Rattle.std.specs.Prelude.{◌*◌, Float}
use Rattle.std.specs.Float.{nan, inf, fin, Format}
use Rattle.std.specs.Float.Ieee.{up, down, round}

unfoldable pub convert : Format → Float → Float
unfolding round
convert f nan = nan
convert f (inf s) = inf s
convert f (fin s m e) = round f s (m * up e) (down e)
