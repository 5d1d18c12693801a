-- What `lidnoise` answers, writes and says: the input's number, or the noise call's answer, its memory being enough.
use Rattle.std.specs.Prelude.{false, List, ℕ, Result, Ok, Err, drop}
use Rattle.numbers.specs.declared.Number.{Number}
use Rattle.numbers.specs.Numbers.{number_of}
use Rattle.answer.specs.declared.Answer.{Answer}
use Rattle.noise.specs.Call.{refused, noise_of}
use Rattle.pgm.specs.declared.Image.{Image}
use Rattle.lid_bytes.specs.Input.{parsed_of}
use Rattle.lid_bytes.specs.Report.{report_of}
use Rattle.lid_bytes.specs.Remark.{remark_of}

-- by the image that was found in the input, or by why there is none
abbrev pub answer_found : List ℕ → Result Image Number → Answer
answer_found input (Ok image) = noise_of (drop image.start input) image.width image.height false
answer_found input (Err why) = refused (number_of why)

unfoldable pub lid_answer : List ℕ → Answer
lid_answer input = answer_found input (parsed_of input)

-- on standard output
abbrev pub output_of : List ℕ → List ℕ
output_of input = report_of (lid_answer input)

-- on standard error
abbrev pub said_of : List ℕ → List ℕ
said_of input = remark_of input (lid_answer input).number
