-- An input's first bytes, one more than the largest lid has, decide its answer and what is said of it: what stands past them need not be read.
use mathlib.Core.Path.{◌≡◌, refl, sym, ap, ◌∙◌}
use mathlib.Core.Bool.{Bool, true, false}
use mathlib.Core.List.{List}
use Prim.Native.Nat.{ℕ, ◌+◌, ◌*◌, ◌≤◌, ◌<◌, min}
use native.Mathlib.Omega.{arith}
use lib.Dec.{ltb}
use lib.ListN.{length, take, drop, length-take}
use lib.Seq.{slice, take_all, take-take}
use borrow.Author.Tests.{ltb-false, ltb-true}
use Rattle.little_endian.specs.Bytes.{value_of}
use Rattle.noise.specs.Call.{refused}
use Rattle.std.specs.Prelude.{Err}
use Rattle.numbers.specs.declared.Number.{Number}
use Rattle.numbers.specs.declared.Number.TheVariants.{NotALid, ManyPixels}
use Rattle.numbers.specs.Numbers.{number_of}
use Rattle.lid_bytes.specs.Input.{most_pixels, input_bytes, parsed_of}
use Rattle.lid.specs.Answer.{answer_found, lid_answer, said_of}
use Rattle.answer.specs.declared.Answer.{Answer}
use Rattle.lid_bytes.specs.Remark.{remark_of}
use Rattle.lid_bytes.proofs.Inputs.{too_many, unlike}
use Rattle.lid_bytes.proofs.Remarks.{by_front as remark_by_front}

same_slice : (f t n : ℕ) (l : List ℕ) → t ≤ n → slice f t l ≡ slice f t (take n l)
same_slice f t n l h = ap (λ (m : List ℕ). drop f m) (sym (take-take t n l h))

as_number : (input : List ℕ) (why : Number) → Err why ≡ parsed_of input → lid_answer input ≡ refused (number_of why)
unfolding lid_answer
as_number input why e = ap (answer_found input) (sym e)

-- an input that goes on past n bytes is refused, by the same number as its first n
module _ (n : ℕ) (all : 4 + most_pixels < n) (input : List ℕ) (long : n < length input) where
  abbrev front : List ℕ
  front = take n input

  front_long : length front ≡ n
  front_long = length-take n input ∙ least n (length input) long
    where
      least : (a b : ℕ) → a < b → min a b ≡ a
      least a b h = omega arith

  abbrev w : ℕ
  w = value_of (slice 0 2 input)

  abbrev h : ℕ
  h = value_of (slice 2 4 input)

  refused_both : (b : Bool) → ltb most_pixels (w * h) ≡ b → lid_answer front ≡ lid_answer input
  refused_both true e =
      as_number front ManyPixels (too_many front w h (ap value_of (same_slice 0 2 n input (omega arith))) (ap value_of (same_slice 2 4 n input (omega arith))) (omega (arith, front_long)) (ltb-true most_pixels (w * h) e))
      ∙ sym (as_number input ManyPixels (too_many input w h refl refl (omega arith) (ltb-true most_pixels (w * h) e)))
  refused_both false e =
      as_number front NotALid (unlike front w h (ap value_of (same_slice 0 2 n input (omega arith))) (ap value_of (same_slice 2 4 n input (omega arith))) (omega (arith, front_long)) few (λ q. omega (arith, few, front_long)))
      ∙ sym (as_number input NotALid (unlike input w h refl refl (omega arith) few (λ q. omega (arith, few))))
    where
      few : w * h ≤ most_pixels
      few = ltb-false most_pixels (w * h) e

by_front : (n : ℕ) → 4 + most_pixels < n → (input : List ℕ) (b : Bool) → ltb n (length input) ≡ b → lid_answer (take n input) ≡ lid_answer input
by_front n all input true e = refused_both n all input (ltb-true n (length input) e) (ltb most_pixels (value_of (slice 0 2 input) * value_of (slice 2 4 input))) refl
by_front n all input false e = ap lid_answer (take_all n input (ltb-false n (length input) e))

pub first_bytes : (input : List ℕ) → lid_answer (take input_bytes input) ≡ lid_answer input
first_bytes input = by_front input_bytes (omega arith) input (ltb input_bytes (length input)) refl

pub first_bytes_said : (input : List ℕ) → said_of (take input_bytes input) ≡ said_of input
first_bytes_said input = remark_by_front input input_bytes (lid_answer (take input_bytes input)).number (omega arith) ∙ ap (λ (a : Answer). remark_of input a.number) (first_bytes input)
