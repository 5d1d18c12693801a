-- Memory cleared from the front on.
use Rattle.std.specs.Prelude.{ℕ, List, ◌++◌, drop, replicate}

-- n zeros, then what stood there
abbrev pub cleared : {A : Type 0} → A → ℕ → List A → List A
cleared nought n l = replicate n nought ++ drop n l
