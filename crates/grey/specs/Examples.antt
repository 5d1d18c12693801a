-- Inputs at the ends of what is taken, in the order of their causes; answers; remarks.
use Rattle.std.specs.Prelude.{◌≡◌, refl, Err, false, [], ◌++◌, replicate}
use Rattle.text.specs.Text.{as_bytes}
use Rattle.text.specs.Numerals.{places, decimal_of}
use Rattle.reasons.specs.Reasons.{reason_at, reason_of, numbered_of}
use Rattle.numbers.specs.declared.Number.TheVariants.{ManyPixels, PgmHeader, PgmMaximum, PgmRaster}
use Rattle.pgm.specs.Read.{image_at, take_byte, take_white, take_number, header_of, head_of}
use Rattle.noise.specs.Refusals.{refusal_of}
use Rattle.noise.specs.Call.{refused, noise_of}
use Rattle.grey.specs.declared.TheConstants.{INPUT_BYTES, REMARK_BYTES}
use Rattle.grey.specs.Grey.{grey_bytes, grey_parsed, grey_answer, grey_said}
use Rattle.grey.specs.Remark.{grey_remark, grey_remark_bytes}

-- 17 by 241 is 4,097 pixels, whatever follows: 16 comes before 22, and after 21 and 20; 64 by 64 is 4,096
pub sixteen : (grey_parsed (as_bytes "P5 17 241 255 ") ≡ Err ManyPixels) × (grey_parsed (as_bytes "P5 17 241 254 ") ≡ Err PgmMaximum) × (grey_parsed (as_bytes "P5 17 241 254") ≡ Err PgmHeader)
    × (grey_parsed (as_bytes "P5 64 64 255 ") ≡ Err PgmRaster) × (grey_parsed (as_bytes "P5 65536 65536 255 ") ≡ Err ManyPixels)
unfolding grey_parsed head_of header_of take_byte take_white take_number
sixteen = (refl, refl, refl, refl, refl)

pub image : (grey_parsed (as_bytes "P5 3 2 255 " ++ replicate 6 9) ≡ image_at 3 2 11) × (grey_parsed (as_bytes "P5 3 2 255 " ++ replicate 7 9) ≡ Err PgmRaster)
unfolding grey_parsed head_of header_of take_byte take_white take_number
image = (refl, refl)

-- zeros beside a number; the noise call of the raster, width before height
pub answers : (grey_answer (as_bytes "P5 3 2 100 ") ≡ refused 21) × (grey_answer (as_bytes "P5 3 2 255 xxxxxx") ≡ refused 3)
    × (grey_answer (as_bytes "P5 5 4 255 01234567890123456789") ≡ noise_of (as_bytes "01234567890123456789") 5 4 false)
unfolding grey_answer grey_parsed head_of header_of take_byte take_white take_number noise_of refusal_of
answers = (refl, refl, refl)

pub said_of : grey_said (as_bytes "P5 3 2 100 ") ≡ grey_remark 21
unfolding grey_answer grey_parsed head_of header_of take_byte take_white take_number
said_of = refl

pub beside_figure : grey_remark 0 ≡ []
unfolding grey_remark
beside_figure = refl

pub said : grey_remark 21 ≡ as_bytes "pgmnoise: no figure, number 21: the PGM file's maximum is not 255\n"
unfolding grey_remark numbered_of reason_of reason_at decimal_of places
said = refl

pub room : (grey_bytes ≡ 4118) × (grey_remark_bytes ≡ 151)
room = (refl, refl)

pub input_room : INPUT_BYTES ≡ grey_bytes
input_room = refl

pub remark_room : REMARK_BYTES ≡ grey_remark_bytes
remark_room = refl
