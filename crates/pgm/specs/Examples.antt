-- Files as text, read: the edges that document 02's words leave one to wonder about. A raster here is of the letter x.
use Rattle.std.specs.Prelude.{◌≡◌, refl, Err, None, [], ◌∷◌, ◌++◌}
use Rattle.text.specs.Text.{as_bytes}
use Rattle.text.specs.Numerals.{places, decimal_of}
use Rattle.numbers.specs.declared.Number.TheVariants.{PgmHeader, PgmMaximum, PgmRaster}
use Rattle.pgm.specs.Read.{header_at, image_at, take_byte, take_white, take_number, header_of, head_of, header_bytes, front_read, read_of, raster_of}
use Rattle.pgm.specs.File.{header_for}

-- each kind of whitespace; width before height; the raster is the rest
pub small : (read_of (as_bytes "P5\t3 2\r255\nxxxxxx") ≡ image_at 3 2 11) × (raster_of (as_bytes "P5\t2 1\r255\nxy") ≡ as_bytes "xy")
unfolding read_of front_read head_of header_of take_byte take_white take_number raster_of
small = (refl, refl)

-- a header in three lines
pub written : header_for 10 32 10 10 26 4096 ≡ as_bytes "P5\n26 4096\n255\n"
unfolding decimal_of places
written = refl

-- 65,536 by 65,536 is no empty raster
pub not_wrapped : read_of (as_bytes "P5 65536 65536 255\n") ≡ Err PgmRaster
unfolding read_of front_read head_of header_of take_byte take_white take_number
not_wrapped = refl

-- the largest side, and the least
pub widest : head_of (as_bytes "P5 99999 1 255 ") ≡ header_at 99999 1 255 15
unfolding head_of header_of take_byte take_white take_number
widest = refl

-- the longest header is 21 bytes
pub longest : (head_of (as_bytes "P5 99999 99999 99999 ") ≡ header_at 99999 99999 99999 21) × (header_bytes ≡ 21)
unfolding head_of header_of take_byte take_white take_number
longest = (refl, refl)

-- the last whitespace byte is missing: 20 comes before 21
pub cut : (read_of (as_bytes "P5 2 1 100") ≡ Err PgmHeader) × (read_of (as_bytes "P5 2 1 100 ") ≡ Err PgmMaximum)
unfolding read_of front_read head_of header_of take_byte take_white take_number
cut = (refl, refl)

-- 21 comes before 22
pub maximum : (read_of (as_bytes "P5 2 1 256 xx") ≡ Err PgmMaximum) × (read_of (as_bytes "P5 2 1 99999 x") ≡ Err PgmMaximum)
unfolding read_of front_read head_of header_of take_byte take_white take_number
maximum = (refl, refl)

-- a zero in front, and alone; six digits; a sign; no digit
pub no_number : (head_of (as_bytes "P5 2 1 0255 ") ≡ None) × (head_of (as_bytes "P5 0 1 255 ") ≡ None) × (head_of (as_bytes "P5 2 100000 255 ") ≡ None)
    × (head_of (as_bytes "P5 +2 1 255 ") ≡ None) × (head_of (as_bytes "P5  2 1 255 ") ≡ None)
unfolding head_of header_of take_byte take_white take_number
no_number = (refl, refl, refl, refl, refl)

-- a comment; another kind of file; no whitespace after the mark; hex 0B and 0C, which are whitespace elsewhere
pub other_kind : (head_of (as_bytes "P5\n#\n2 1 255 ") ≡ None) × (head_of (as_bytes "P2 2 1 255 ") ≡ None) × (head_of (as_bytes "P52 1 255 ") ≡ None)
    × (head_of (80 ∷ 53 ∷ 11 ∷ as_bytes "2 1 255 ") ≡ None) × (head_of (as_bytes "P5 2 1 255" ++ 12 ∷ []) ≡ None)
unfolding head_of header_of take_byte take_white take_number
other_kind = (refl, refl, refl, refl, refl)

-- after the maximum a second whitespace byte is the raster's first
pub two_ends : (read_of (as_bytes "P5 2 1 255\r\nxx") ≡ Err PgmRaster) × (read_of (as_bytes "P5 2 1 255\r\nx") ≡ image_at 2 1 11)
unfolding read_of front_read head_of header_of take_byte take_white take_number
two_ends = (refl, refl)

-- a byte short, a byte too many; by first bytes, the length that the file is said to have decides
pub lengths : (read_of (as_bytes "P5 2 1 255 x") ≡ Err PgmRaster) × (read_of (as_bytes "P5 2 1 255 xxx") ≡ Err PgmRaster)
    × (front_read (as_bytes "P5 2 1 255 x") 13 ≡ image_at 2 1 11) × (front_read (as_bytes "P5 2 1 255 xx") 14 ≡ Err PgmRaster)
unfolding read_of front_read head_of header_of take_byte take_white take_number
lengths = (refl, refl, refl, refl)

-- a refused file has no raster
pub no_raster : (raster_of (as_bytes "P5 2 1 255") ≡ []) × (raster_of (as_bytes "P5 2 1 254 xy") ≡ []) × (raster_of (as_bytes "P5 2 1 255 x") ≡ [])
unfolding raster_of read_of front_read head_of header_of take_byte take_white take_number
no_raster = (refl, refl, refl)
