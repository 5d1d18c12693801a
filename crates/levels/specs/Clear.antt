-- What the code asks of squared gradients: numbers with the sign clear, an infinity among them.
use Rattle.std.specs.Prelude.{Bool, false, not, List, T, Float}
use Rattle.std.specs.Float.{nan, inf, fin}
use Rattle.laws.specs.Lists.{Each}

abbrev pub clear : Float → Bool
clear nan = false
clear (inf s) = not s
clear (fin s m e) = not s

abbrev pub AllClear : List Float → Type 0
AllClear l = Each (λ x. T (clear x)) l
