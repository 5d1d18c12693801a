-- A text of plain characters as the list of its bytes: Rust's `as_bytes`.
use Rattle.std.specs.Prelude.{ℕ, List}
use Prim.Native.Char.{code}
use Prim.Native.String.{String, len, char_at}
use Rattle.laws.specs.Lists.{from}

abbrev pub as_bytes : String → List ℕ
as_bytes s = from (λ (i : ℕ). code (char_at s i)) 0 (len s)
