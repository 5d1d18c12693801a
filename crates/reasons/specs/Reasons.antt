-- Each number that the desk reads, in a sentence for a person.
use Rattle.std.specs.Prelude.{ℕ, ◌+◌, ◌==◌, cond, Option, Some, None, List, [], ◌++◌, eqb}
use Rattle.std.specs.List.{find}
use Rattle.numbers.specs.declared.Number.{Number}
use Rattle.numbers.specs.declared.Number.TheVariants.{SideAbove, OtherLength, SideBelow, ShortSlice, Few, NoBand, Thin, Far, Flat, Support, Outside}
use Rattle.numbers.specs.declared.Number.TheVariants.{FloatRange, NotFinite, Knots, NotALid, ManyPixels, OtherMark, ShortRecord, BrokenRule}
use Rattle.numbers.specs.declared.Number.TheVariants.{PgmHeader, PgmMaximum, PgmRaster}
use Rattle.numbers.specs.Numbers.{number_of, all}
use Rattle.text.specs.Text.{as_bytes}
use Rattle.text.specs.Numerals.{decimal_of}

-- as many bytes as a sentence may take
abbrev pub reason_bytes : ℕ
reason_bytes = 100

-- docs/NUMBERS.md's reasons, word for word
abbrev pub sentence_of : Number → List ℕ
sentence_of SideAbove = as_bytes "a side is above 16,384"
sentence_of OtherLength = as_bytes "the pixel slice is not width x height long"
sentence_of SideBelow = as_bytes "a side is below 4: a window needs 4 by 4 pixels"
sentence_of ShortSlice = as_bytes "a work slice, the answer slice or the slice of fields is too short"
sentence_of Few = as_bytes "under 512 windows are kept: the lid is small, or too much of it is near black or white"
sentence_of NoBand = as_bytes "no band of brightness has a variance: there is no quiet area"
sentence_of Thin = as_bytes "the bands that join hold under 512 windows: there is too little quiet area"
sentence_of Far = as_bytes "a part of the centre or of the origin is beyond 1,000,000 either way"
sentence_of Flat = as_bytes "the patch is flat once it is smoothed: there is no edge to measure"
sentence_of Support = as_bytes "the side of the support is above 32"
sentence_of Outside = as_bytes "the pixel is outside the support"
sentence_of FloatRange = as_bytes "a float is outside its range"
sentence_of NotFinite = as_bytes "a covariance or a model has a component that is not finite"
sentence_of Knots = as_bytes "there is no knot, there are over 16, or their widths do not rise strictly"
sentence_of NotALid = as_bytes "the input is not 4 + width x height bytes long"
sentence_of ManyPixels = as_bytes "there are over 4,096 pixels"
sentence_of OtherMark = as_bytes "the bytes do not begin with a record's mark"
sentence_of ShortRecord = as_bytes "the slice is shorter than a record"
sentence_of BrokenRule = as_bytes "a field of the record breaks the rule"
sentence_of PgmHeader = as_bytes "the header is not that of a binary PGM file as the camera tool writes it"
sentence_of PgmMaximum = as_bytes "the PGM file's maximum is not 255"
sentence_of PgmRaster = as_bytes "the raster is not width x height bytes long"

-- the reason that has this number, if there is one
unfoldable pub reason_at : ℕ → Option Number
reason_at n = find (λ why. number_of why == n) all

-- the sentence of a number by its reason; of 0 that there is a figure, of any other without a reason that it is none
abbrev pub told_by : ℕ → Option Number → List ℕ
told_by n (Some why) = sentence_of why
told_by n None = cond (eqb n 0) (as_bytes "there is a figure") (as_bytes "no such number")

unfoldable pub reason_of : ℕ → List ℕ
reason_of n = told_by n (reason_at n)

-- a number and its sentence, to a line's end
unfoldable pub numbered_of : ℕ → List ℕ
numbered_of n = as_bytes "number " ++ decimal_of n ++ as_bytes ": " ++ reason_of n ++ as_bytes "\n"

-- as many bytes as that may take: a number has at most 20 digits
abbrev pub numbered_bytes : ℕ
numbered_bytes = 7 + 20 + 2 + reason_bytes + 1

abbrev pub no_figure : List ℕ
no_figure = as_bytes ": no figure, "

-- what a program says of a number: nothing beside a figure, else what stands before, then its name and why there is none
unfoldable pub remark_by : List ℕ → List ℕ → ℕ → List ℕ
remark_by before program n = cond (eqb n 0) [] (before ++ program ++ no_figure ++ numbered_of n)
