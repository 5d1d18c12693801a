-- What `lidnoise` writes: a header and one line, sigma as the f32's bits in hexadecimal, the rest decimal.
use Rattle.std.specs.Prelude.{◌≡◌, refl, ℕ, ◌+◌, ◌*◌, List, map, [], ◌∷◌, length}
use Rattle.std.specs.Float.{binary32}
use Rattle.std.specs.Float.Ieee.{to_bits}
use Rattle.text.specs.declared.Field.{Field}
use Rattle.text.specs.declared.Field.TheVariants.{Decimal, Hex}
use Rattle.text.specs.Text.{as_bytes}
use Rattle.text.specs.Line.{under}
use Rattle.answer.specs.declared.Answer.{Answer}
use Rattle.answer.specs.Fields.{words_of}

abbrev pub header : List ℕ
header = as_bytes "answer sigma milli b0 b1 b2 b3 rail rounds passes\n"

-- sigma is the second field
abbrev pub fields_of : Answer → List Field
fields_of a =
    Decimal a.number ∷ Hex (to_bits binary32 a.sigma) ∷ Decimal a.milli ∷ Decimal a.b0 ∷ Decimal a.b1 ∷ Decimal a.b2 ∷ Decimal a.b3 ∷ Decimal a.rail
    ∷ Decimal a.rounds ∷ Decimal a.passes ∷ []

-- a field's number
abbrev pub value_of : Field → ℕ
value_of (Decimal n) = n
value_of (Hex x) = x

-- so they are the answer's ten words
pub in_order : (a : Answer) → map value_of (fields_of a) ≡ words_of a
in_order a = refl

-- as many bytes as a report may take: the header, and a field is at most 20 digits and what stands after it
abbrev pub report_bytes : ℕ
report_bytes = length header + 21 * 10

unfoldable pub report_of : Answer → List ℕ
report_of a = under header (fields_of a)
