-- Numerals and lines by example.
use Rattle.std.specs.Prelude.{◌≡◌, refl, [], ◌∷◌}
use Rattle.text.specs.declared.Field.TheVariants.{Decimal, Hex}
use Rattle.text.specs.Text.{as_bytes}
use Rattle.text.specs.Numerals.{places, decimal_of, digit_of, hex8_of}
use Rattle.text.specs.Line.{field_of, line_of}

-- a text's bytes
pub plain : as_bytes "b0 \n" ≡ 98 ∷ 48 ∷ 32 ∷ 10 ∷ []
plain = refl

pub decimals : (decimal_of 0 ≡ as_bytes "0") × (decimal_of 9 ≡ as_bytes "9") × (decimal_of 10 ≡ as_bytes "10")
    × (decimal_of 1000 ≡ as_bytes "1000") × (decimal_of 18446744073709551615 ≡ as_bytes "18446744073709551615")
unfolding decimal_of places
decimals = (refl, refl, refl, refl, refl)

pub capitals : (hex8_of 0x43CC1BFD ≡ as_bytes "43CC1BFD") × (hex8_of 0x0002_9A90 ≡ as_bytes "00029A90")
unfolding digit_of
capitals = (refl, refl)

-- one space between fields, hex 0A after the last
pub line : line_of (Decimal 7 ∷ Hex 4294967295 ∷ Decimal 12 ∷ []) ≡ as_bytes "7 FFFFFFFF 12\n"
unfolding line_of field_of decimal_of places digit_of
line = refl
