-- What only the code's needs of room use; no definition does. How many windows a band's answer rests on, and those of several.
use Rattle.std.specs.Prelude.{List, [], ◌∷◌, ℕ, ◌+◌, Option, Some, None}
use Rattle.rounds.specs.declared.Found.{Found}

abbrev pub windows_of : Option Found → ℕ
windows_of (Some f) = f.n
windows_of None = 0

abbrev pub windows_in : List (Option Found) → ℕ
windows_in [] = 0
windows_in (f ∷ bands) = windows_of f + windows_in bands
