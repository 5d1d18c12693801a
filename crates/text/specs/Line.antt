-- A line of fields: parted by one space, ended by hex 0A.
use Rattle.std.specs.Prelude.{ℕ, ◌+◌, ◌%◌, cond, List, [], ◌∷◌, ◌++◌, length, get_or, eqb}
use Rattle.laws.specs.Lists.{joined}
use Rattle.text.specs.declared.Field.{Field}
use Rattle.text.specs.declared.Field.TheVariants.{Decimal, Hex}
use Rattle.text.specs.Numerals.{decimal_of, hex8_of}

-- a field's text
unfoldable pub field_of : Field → List ℕ
field_of (Decimal n) = decimal_of n
field_of (Hex x) = hex8_of (x % 4294967296)

-- what stands after field k of n: a space, and after the last one the line's end
abbrev pub end_of : ℕ → ℕ → ℕ
end_of n k = cond (eqb (k + 1) n) 10 32

-- a field and the byte that stands after it
abbrev pub field_then : Field → ℕ → List ℕ
field_then field end = field_of field ++ (end ∷ [])

-- field k of the line, with what stands after it
abbrev pub field_at : List Field → ℕ → List ℕ
field_at fields k = field_then (get_or fields k (Decimal 0)) (end_of (length fields) k)

unfoldable pub line_of : List Field → List ℕ
line_of fields = joined (field_at fields) 0 (length fields)

-- a header and the line under it
abbrev pub under : List ℕ → List Field → List ℕ
under header fields = header ++ line_of fields
