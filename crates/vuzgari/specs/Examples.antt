-- What C gets: numbers past 4,294,967,296, 4 for a short answer slice, the answer's bytes before what stood beyond them, and a
-- record written from an answer slice and read into fields; a grey file's header and judgement.
use Rattle.std.specs.Prelude.{◌≡◌, refl, List, [], ◌∷◌, ◌++◌, ℕ, replicate, Ok, Err}
use Rattle.little_endian.specs.Bytes.{bytes_of, value_of}
use Rattle.grid.specs.Step.{step_of}
use Rattle.grid.specs.Grid.{places_of}
use Rattle.grid.specs.Needed.{needed_of}
use Rattle.numbers.specs.declared.Number.TheVariants.{SideAbove, SideBelow, Few, ShortSlice, Far, Flat}
use Rattle.tile.specs.declared.EdgeWidth.TheVariants.{Refused}
use Rattle.answer.specs.Fields.{answer_bytes}
use Rattle.noise.specs.Refusals.{refusal_of}
use Rattle.noise.specs.Call.{refused}
use Rattle.record.specs.Layout.{bytes_in, numbers_in}
use Rattle.record.specs.Rule.{stored_answer, sigma_taken, counts_taken, allowed}
use Rattle.record.specs.Records.{bytes_as, written_as, read_as}
use Rattle.pgm.specs.Read.{take_byte, take_white, take_number, header_of, head_of, front_read}
use Rattle.vuzgari.specs.Codes.{size_code, width_code}
use Rattle.vuzgari.specs.Noise.{short_for, left_bytes}
use Rattle.vuzgari.specs.Records.{written_for, read_for}
use Rattle.vuzgari.specs.Grey.{header_in, number_for}

pub sizes : (size_code (Ok 9174) ≡ 9174) × (size_code (Err SideAbove) ≡ 4294967297) × (size_code (Err SideBelow) ≡ 4294967299)
sizes = (refl, refl, refl)

pub refusals : (width_code (Refused Far) ≡ 4294967304) × (width_code (Refused Flat) ≡ 4294967305)
refusals = (refl, refl)

-- one window needs 3 i32 and 4 f32: 39 bytes are too short for the answer, 40 are not
pub answer_slice : (refusal_of 16 4 4 (short_for 4 4 3 4 39) ≡ 4) × (refusal_of 16 4 4 (short_for 4 4 3 4 40) ≡ 0)
unfolding refusal_of needed_of step_of places_of
answer_slice = (refl, refl)

-- after 5 a slice of 42 bytes keeps its last two; after 4 all
pub bytes_written : left_bytes (replicate 40 9 ++ (8 ∷ 7 ∷ [])) (refused 5) ≡ answer_bytes (refused 5) ++ (8 ∷ 7 ∷ [])
bytes_written = refl

pub bytes_kept : left_bytes (replicate 40 9 ++ (8 ∷ 7 ∷ [])) (refused 4) ≡ replicate 40 9 ++ (8 ∷ 7 ∷ [])
bytes_kept = refl

-- ---- records

-- the answer slice of a 5 by 4 image, of whose two windows one is in the first band and one was dropped: the number by its two
-- low bytes; milli 99, rounds 98 and passes 97, which no record keeps; and one byte beyond
abbrev two_windows : ℕ → ℕ → List ℕ
two_windows low high =
    low ∷ high ∷ 0 ∷ 0 ∷ 0 ∷ 0 ∷ 0 ∷ 0 ∷ 99 ∷ 0 ∷ 0 ∷ 0 ∷ 1 ∷ 0 ∷ 0 ∷ 0 ∷ 0 ∷ 0 ∷ 0 ∷ 0 ∷ 0 ∷ 0 ∷ 0 ∷ 0 ∷ 0 ∷ 0 ∷ 0 ∷ 0 ∷ 1
    ∷ 0 ∷ 0 ∷ 0 ∷ 98 ∷ 0 ∷ 0 ∷ 0 ∷ 97 ∷ 0 ∷ 0 ∷ 0 ∷ 9 ∷ []

-- its record for shot 7
abbrev log_bytes : List ℕ
log_bytes = 0x4E ∷ 0x46 ∷ 7 ∷ 0 ∷ 0 ∷ 0 ∷ 5 ∷ 0 ∷ 4 ∷ 0 ∷ 5 ∷ 0 ∷ 0 ∷ 0 ∷ 0 ∷ 1 ∷ (replicate 15 0 ++ (1 ∷ 0 ∷ 0 ∷ 0 ∷ []))

pub record_written : written_for 7 5 4 (two_windows 5 0) (replicate 36 8) ≡ record { number = 0; bytes = log_bytes ++ (8 ∷ []) }
unfolding written_for written_as bytes_as bytes_in bytes_of value_of allowed stored_answer sigma_taken counts_taken places_of step_of
record_written = refl

-- a width of 65,541 or an answer of 256 + 5 is not cut to what fits
pub not_cut : (written_for 7 65541 4 (two_windows 5 0) (replicate 36 8) ≡ record { number = 19; bytes = replicate 36 8 })
    × (written_for 7 5 4 (two_windows 5 1) (replicate 36 8) ≡ record { number = 19; bytes = replicate 36 8 })
unfolding written_for written_as value_of allowed stored_answer
not_cut = (refl, refl)

-- 4, then 19, then 18: no side is allowed and there is no room; then one cause less each
pub write_order : ((written_for 7 0 0 (replicate 39 0) []).number ≡ 4) × ((written_for 7 0 0 (two_windows 5 0) []).number ≡ 19)
    × ((written_for 7 5 4 (two_windows 5 0) (replicate 34 8)).number ≡ 18)
unfolding written_for written_as value_of allowed stored_answer sigma_taken counts_taken places_of step_of
write_order = (refl, refl, refl)

-- two fields beyond stay
pub record_read : read_for log_bytes (replicate 12 8)
    ≡ record { number = 0; fields = 7 ∷ 5 ∷ 4 ∷ 5 ∷ 0 ∷ 1 ∷ 0 ∷ 0 ∷ 0 ∷ 1 ∷ 8 ∷ 8 ∷ [] }
unfolding read_for read_as numbers_in value_of allowed stored_answer sigma_taken counts_taken places_of step_of
record_read = refl

-- 4, then 18, 17, 19
pub read_order : (read_for [] (replicate 9 8) ≡ record { number = 4; fields = replicate 9 8 })
    × (read_for (replicate 34 0) (replicate 10 8) ≡ record { number = 18; fields = replicate 10 8 })
    × (read_for (replicate 35 0) (replicate 10 8) ≡ record { number = 17; fields = replicate 10 8 })
    × (read_for (0x4E ∷ 0x46 ∷ replicate 33 0) (replicate 10 8) ≡ record { number = 19; fields = replicate 10 8 })
unfolding read_for read_as numbers_in value_of allowed
read_order = (refl, refl, refl, refl)

-- ---- grey files

-- `P5 3 2 255 ` and the same with 254
abbrev header255 : List ℕ
header255 = 80 ∷ 53 ∷ 32 ∷ 51 ∷ 32 ∷ 50 ∷ 32 ∷ 50 ∷ 53 ∷ 53 ∷ 32 ∷ []

abbrev header254 : List ℕ
header254 = 80 ∷ 53 ∷ 32 ∷ 51 ∷ 32 ∷ 50 ∷ 32 ∷ 50 ∷ 53 ∷ 52 ∷ 32 ∷ []

-- width, height, maximum and the raster's place before the field that was beyond; three fields are too few, whatever the bytes
pub header_shown_lem : (header_in header254 (replicate 5 8) ≡ record { number = 0; fields = 3 ∷ 2 ∷ 254 ∷ 11 ∷ 8 ∷ [] })
    × (header_in header255 (replicate 3 8) ≡ record { number = 4; fields = replicate 3 8 })
    × (header_in [] (replicate 3 8) ≡ record { number = 4; fields = replicate 3 8 })
    × (header_in [] (replicate 4 8) ≡ record { number = 20; fields = replicate 4 8 })
unfolding header_in head_of header_of take_byte take_white take_number
header_shown_lem = (refl, refl, refl, refl)

-- six bytes are to follow the header's eleven
pub judgements : (number_for (front_read header255 17) ≡ 0) × (number_for (front_read header255 16) ≡ 22) × (number_for (front_read header255 18) ≡ 22)
    × (number_for (front_read header254 16) ≡ 21) × (number_for (front_read [] 17) ≡ 20)
unfolding front_read head_of header_of take_byte take_white take_number
judgements = (refl, refl, refl, refl, refl)
