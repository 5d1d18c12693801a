-- What `pgmnoise` answers, writes and says of a grey file: the file's number, or the noise call's answer, its memory being enough.
use Rattle.std.specs.Prelude.{Option, Some, None, Result, Err, ℕ, ◌+◌, ◌*◌, cond, not, List, ltb, eqb, length}
use Rattle.answer.specs.declared.Answer.{Answer}
use Rattle.lid_bytes.specs.Input.{most_pixels}
use Rattle.lid_bytes.specs.Report.{report_of}
use Rattle.numbers.specs.declared.Number.{Number}
use Rattle.numbers.specs.declared.Number.TheVariants.{ManyPixels, PgmHeader, PgmMaximum, PgmRaster}
use Rattle.pgm.specs.declared.Head.{Head}
use Rattle.pgm.specs.declared.Image.{Image}
use Rattle.pgm.specs.Read.{header_bytes, image_at, head_of}
use Rattle.lid.specs.Answer.{answer_found}
use Rattle.grey.specs.Remark.{grey_remark}

-- one byte more than the longest header and the largest raster have
abbrev pub grey_bytes : ℕ
grey_bytes = header_bytes + most_pixels + 1

-- 20 where there is no header, 21 where its maximum is not 255, 16 for too many pixels, 22 where the raster is not w × h bytes: the
-- first that applies
abbrev pub grey_judged : ℕ → Option Head → Result Image Number
grey_judged len None = Err PgmHeader
grey_judged len (Some head) =
    cond (not (eqb head.maximum 255)) (Err PgmMaximum)
    (cond (ltb most_pixels (head.width * head.height)) (Err ManyPixels)
    (cond (not (eqb len (head.start + head.width * head.height))) (Err PgmRaster)
    (image_at head.width head.height head.start)))

unfoldable pub grey_parsed : List ℕ → Result Image Number
grey_parsed input = grey_judged (length input) (head_of input)

unfoldable pub grey_answer : List ℕ → Answer
grey_answer input = answer_found input (grey_parsed input)

-- on standard output
abbrev pub grey_output : List ℕ → List ℕ
grey_output input = report_of (grey_answer input)

-- on standard error
abbrev pub grey_said : List ℕ → List ℕ
grey_said input = grey_remark (grey_answer input).number
