-- Sentences by example: the ends of the numbers, a number past it, a whole line.
use Rattle.std.specs.Prelude.{◌≡◌, refl}
use Rattle.text.specs.Text.{as_bytes}
use Rattle.text.specs.Numerals.{places, decimal_of}
use Rattle.reasons.specs.Reasons.{reason_at, reason_of, numbered_of, numbered_bytes}

pub ends : (reason_of 0 ≡ as_bytes "there is a figure") × (reason_of 22 ≡ as_bytes "the raster is not width x height bytes long")
unfolding reason_of reason_at
ends = (refl, refl)

pub past : (reason_of 23 ≡ as_bytes "no such number") × (reason_of 4294967295 ≡ as_bytes "no such number")
unfolding reason_of reason_at
past = (refl, refl)

pub line : numbered_of 15 ≡ as_bytes "number 15: the input is not 4 + width x height bytes long\n"
unfolding numbered_of reason_of reason_at decimal_of places
line = refl

pub room : numbered_bytes ≡ 130
room = refl
