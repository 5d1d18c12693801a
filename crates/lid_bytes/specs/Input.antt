-- What `lidnoise` reads: width and height, two bytes each, low first, then the pixels.
use Rattle.std.specs.Prelude.{Result, Err, ℕ, ◌+◌, ◌*◌, cond, not, List, ltb, eqb, length, drop}
use Rattle.std.proofs.Math.Seq.{slice}
use Rattle.little_endian.specs.Bytes.{value_of}
use Rattle.numbers.specs.declared.Number.{Number}
use Rattle.numbers.specs.declared.Number.TheVariants.{NotALid, ManyPixels}
use Rattle.pgm.specs.declared.Image.{Image}
use Rattle.pgm.specs.Read.{image_at}

-- more pixels than this are 16
abbrev pub most_pixels : ℕ
most_pixels = 4096

-- one byte more than the largest lid has
abbrev pub input_bytes : ℕ
input_bytes = 4 + most_pixels + 1

unfoldable pub width_of : List ℕ → ℕ
width_of input = value_of (slice 0 2 input)

unfoldable pub height_of : List ℕ → ℕ
height_of input = value_of (slice 2 4 input)

abbrev pub pixels_of : List ℕ → List ℕ
pixels_of input = drop 4 input

-- the image, its pixels from place 4 on; 15 under 4 bytes, 16 for too many pixels, 15 where the input is not 4 + w × h bytes: the first that applies
unfoldable pub parsed_of : List ℕ → Result Image Number
parsed_of input =
    cond (ltb (length input) 4) (Err NotALid)
    (cond (ltb most_pixels (width_of input * height_of input)) (Err ManyPixels)
    (cond (not (eqb (length input) (4 + width_of input * height_of input))) (Err NotALid)
    (image_at (width_of input) (height_of input) 4)))
