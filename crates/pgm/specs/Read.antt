-- The reading of a file, from its front to its raster. Each part takes the bytes that are left and what goes on after it.
use Rattle.std.specs.Prelude.{Option, Some, None, Result, Ok, Err, ℕ, ◌+◌, ◌*◌, ◌-◌, Bool, cond, not, ◌&&◌, ◌||◌, List, [], ◌∷◌, leb, eqb, length, get_or, drop}
use Rattle.pgm.specs.Grammar.{number_in}
use Rattle.numbers.specs.declared.Number.{Number}
use Rattle.numbers.specs.declared.Number.TheVariants.{PgmHeader, PgmMaximum, PgmRaster}
use Rattle.pgm.specs.declared.Head.{Head}
use Rattle.pgm.specs.declared.Image.{Image}

-- how a file opens: with a header's width, height and maximum, and then the bytes after it; or with no header
pub data Opening : Type 0 where
  split : ℕ → ℕ → ℕ → List ℕ → Opening
  none : Opening

abbrev pub is_white : ℕ → Bool
is_white b = eqb b 32 || (eqb b 9 || (eqb b 13 || eqb b 10))

abbrev pub is_decimal : ℕ → Bool
is_decimal b = leb 48 b && leb b 57

-- the digits at the front, as many as there are
abbrev pub digits_of : List ℕ → List ℕ
digits_of [] = []
digits_of (b ∷ l) = cond (is_decimal b) (b ∷ digits_of l) []

-- what stands after them
abbrev pub past_digits : List ℕ → List ℕ
past_digits [] = []
past_digits (b ∷ l) = cond (is_decimal b) (past_digits l) (b ∷ l)

-- 1 to 5 of them, the first not 0
abbrev pub is_numeral : List ℕ → Bool
is_numeral d = leb 1 (length d) && (leb (length d) 5 && not (eqb (get_or d 0 0) 48))

unfoldable pub take_byte : ℕ → List ℕ → (List ℕ → Opening) → Opening
take_byte x [] go = none
take_byte x (b ∷ l) go = cond (eqb b x) (go l) none

unfoldable pub take_white : List ℕ → (List ℕ → Opening) → Opening
take_white [] go = none
take_white (b ∷ l) go = cond (is_white b) (go l) none

unfoldable pub take_number : List ℕ → (ℕ → List ℕ → Opening) → Opening
take_number l go = cond (is_numeral (digits_of l)) (go (number_in (digits_of l)) (past_digits l)) none

-- a number and one whitespace byte
abbrev pub take_field : List ℕ → (ℕ → List ℕ → Opening) → Opening
take_field l go = take_number l λ n l. take_white l (go n)

-- `P5`, whitespace, width, whitespace, height, whitespace, maximum, whitespace, and what is left
unfoldable pub header_of : List ℕ → Opening
header_of file = take_byte 80 file λ l. take_byte 53 l λ l. take_white l λ l. take_field l λ w l. take_field l λ h l. take_field l λ m raster. split w h m raster

-- a header's width, height and maximum, and the place after it
abbrev pub header_at : ℕ → ℕ → ℕ → ℕ → Option Head
header_at w h m start = Some (record { width = w; height = h; maximum = m; start = start })

-- the header at a file's front by its numbers and the place after it
abbrev pub head_by : List ℕ → Opening → Option Head
head_by file (split w h m left) = header_at w h m (length file - length left)
head_by file none = None

unfoldable pub head_of : List ℕ → Option Head
head_of file = head_by file (header_of file)

-- the longest header: `P5`, four whitespace bytes, three times five digits
abbrev pub header_bytes : ℕ
header_bytes = 2 + 4 + 3 * 5

-- an image by its sides and its raster's first place
abbrev pub image_at : ℕ → ℕ → ℕ → Result Image Number
image_at w h start = Ok (record { width = w; height = h; start = start })

-- a file of `len` bytes by its header: 20 where there is none, 21 where the maximum is not 255, 22 where the raster, all that follows
-- the header, is not w × h bytes: the first that applies
abbrev pub pgm_judged : ℕ → Option Head → Result Image Number
pgm_judged len None = Err PgmHeader
pgm_judged len (Some head) =
    cond (not (eqb head.maximum 255)) (Err PgmMaximum)
    (cond (not (eqb len (head.start + head.width * head.height))) (Err PgmRaster)
    (image_at head.width head.height head.start))

-- by its first bytes, as far as they reach
unfoldable pub front_read : List ℕ → ℕ → Result Image Number
front_read front len = pgm_judged len (head_of front)

-- a whole file
unfoldable pub read_of : List ℕ → Result Image Number
read_of file = front_read file (length file)

-- the raster of a file that is read, and nothing of one that is refused
abbrev pub raster_by : List ℕ → Result Image Number → List ℕ
raster_by file (Ok image) = drop image.start file
raster_by file (Err why) = []

unfoldable pub raster_of : List ℕ → List ℕ
raster_of file = raster_by file (read_of file)
