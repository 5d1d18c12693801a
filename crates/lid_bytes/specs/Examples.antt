-- Inputs at the ends of what is taken, in the order of their causes; a report whose ten fields differ; remarks.
use Rattle.std.specs.Prelude.{◌≡◌, refl, Err, true, false, [], ◌∷◌, replicate}
use Rattle.std.specs.Float.Ieee.{of_int, to_bits}
use Rattle.ieee.specs.Numbers.{f32_of, plus_zero}
use Rattle.little_endian.specs.Bytes.{value_of}
use Rattle.text.specs.Text.{as_bytes}
use Rattle.text.specs.Numerals.{places, decimal_of, digit_of}
use Rattle.text.specs.Line.{field_of, line_of}
use Rattle.answer.specs.declared.Answer.{Answer}
use Rattle.numbers.specs.declared.Number.TheVariants.{NotALid, ManyPixels}
use Rattle.pgm.specs.Read.{image_at}
use Rattle.lid_bytes.specs.declared.TheConstants.{INPUT_BYTES, REPORT_BYTES, REMARK_BYTES}
use Rattle.lid_bytes.specs.Input.{input_bytes, width_of, height_of, parsed_of}
use Rattle.lid_bytes.specs.Report.{report_bytes, report_of}
use Rattle.reasons.specs.Reasons.{reason_at, reason_of, numbered_of}
use Rattle.lid_bytes.specs.Remark.{begins_p5, pgm_of, remark_of, remark_bytes}

-- width first, each low first
pub sides : (parsed_of (3 ∷ 0 ∷ 2 ∷ 0 ∷ replicate 6 9) ≡ image_at 3 2 4) × (parsed_of (0 ∷ 1 ∷ 1 ∷ 0 ∷ replicate 256 9) ≡ image_at 256 1 4)
unfolding parsed_of width_of height_of value_of
sides = (refl, refl)

-- under 4 bytes; a byte short or too many
pub fifteen : (parsed_of (1 ∷ 0 ∷ 1 ∷ []) ≡ Err NotALid) × (parsed_of (3 ∷ 0 ∷ 2 ∷ 0 ∷ replicate 5 9) ≡ Err NotALid)
    × (parsed_of (3 ∷ 0 ∷ 2 ∷ 0 ∷ replicate 7 9) ≡ Err NotALid)
unfolding parsed_of width_of height_of value_of
fifteen = (refl, refl, refl)

-- 17 by 241 is 4,097 pixels, whatever follows; 64 by 64 is 4,096, of which none stands here
pub sixteen : (parsed_of (17 ∷ 0 ∷ 241 ∷ 0 ∷ []) ≡ Err ManyPixels) × (parsed_of (64 ∷ 0 ∷ 64 ∷ 0 ∷ []) ≡ Err NotALid)
unfolding parsed_of width_of height_of value_of
sixteen = (refl, refl)

-- the room for an input
pub input_room : INPUT_BYTES ≡ input_bytes
input_room = refl

-- the room for a report, and for a remark
pub rooms : (REPORT_BYTES ≡ report_bytes) × (REMARK_BYTES ≡ remark_bytes)
rooms = (refl, refl)

-- ---- reports

-- document 01's flat lid
abbrev flat : Answer
flat = record { number = 0; sigma = plus_zero; milli = 0; b0 = 0; b1 = 0; b2 = 529; b3 = 0; rail = 0; rounds = 2; passes = 1 }

pub flat_lid : report_of flat
    ≡ as_bytes "answer sigma milli b0 b1 b2 b3 rail rounds passes\n0 00000000 0 0 0 529 0 0 2 1\n"
unfolding report_of line_of field_of decimal_of places digit_of to_bits
flat_lid = refl

abbrev ten : Answer
ten = record { number = 7; sigma = f32_of 1; milli = 1000; b0 = 10; b1 = 11; b2 = 12; b3 = 13; rail = 14; rounds = 15; passes = 2 }

pub ten_fields : report_of ten
    ≡ as_bytes "answer sigma milli b0 b1 b2 b3 rail rounds passes\n7 3F800000 1000 10 11 12 13 14 15 2\n"
unfolding report_of line_of field_of decimal_of places digit_of of_int to_bits
ten_fields = refl

pub room : report_bytes ≡ 260
room = refl

-- ---- remarks

-- both bytes, in their order
pub two_bytes : (begins_p5 (80 ∷ 53 ∷ []) ≡ true) × (begins_p5 (80 ∷ 54 ∷ 53 ∷ []) ≡ false) × (begins_p5 (53 ∷ 80 ∷ []) ≡ false)
    × (begins_p5 (80 ∷ []) ≡ false) × (begins_p5 [] ≡ false)
unfolding begins_p5
two_bytes = (refl, refl, refl, refl, refl)

-- nothing beside a figure, whatever the input
pub beside_figure : (remark_of (26 ∷ 0 ∷ []) 0 ≡ []) × (remark_of (80 ∷ 53 ∷ []) 0 ≡ [])
unfolding remark_of
beside_figure = (refl, refl)

pub too_small : remark_of (3 ∷ 0 ∷ 9 ∷ 0 ∷ []) 3
    ≡ as_bytes "lidnoise: no figure, number 3: a side is below 4: a window needs 4 by 4 pixels\n"
unfolding remark_of pgm_of begins_p5 numbered_of reason_of reason_at decimal_of places
too_small = refl

pub of_pgm : remark_of (as_bytes "P5\n64 64\n255\n") 16
    ≡ as_bytes "lidnoise: the input begins with P5, as a binary PGM file does: pgmnoise reads those\nlidnoise: no figure, number 16: there are over 4,096 pixels\n"
unfolding remark_of pgm_of begins_p5 numbered_of reason_of reason_at decimal_of places
of_pgm = refl

pub remark_room : remark_bytes ≡ 235
remark_room = refl
