-- The bytes of an answer whose ten fields differ, and how many any answer has.
use Rattle.std.specs.Prelude.{◌≡◌, refl, [], ◌∷◌, length}
use Rattle.std.specs.Float.Ieee.{of_int, to_bits}
use Rattle.ieee.specs.Numbers.{f32_of}
use Rattle.little_endian.specs.Bytes.{bytes_of}
use Rattle.answer.specs.declared.Answer.{Answer}
use Rattle.answer.specs.Fields.{words_of, bytes_of_words, answer_bytes}

abbrev ten : Answer
ten =
    record {
      number = 7;
      sigma = f32_of 1;
      milli = 1000;
      b0 = 0x0403_0201;
      b1 = 11;
      b2 = 12;
      b3 = 13;
      rail = 14;
      rounds = 15;
      passes = 2;
    }

pub worked_words : words_of ten ≡ 7 ∷ 0x3F80_0000 ∷ 1000 ∷ 0x0403_0201 ∷ 11 ∷ 12 ∷ 13 ∷ 14 ∷ 15 ∷ 2 ∷ []
unfolding of_int to_bits
worked_words = refl

pub worked_bytes : answer_bytes ten
    ≡ 7 ∷ 0 ∷ 0 ∷ 0 ∷ 0 ∷ 0 ∷ 128 ∷ 63 ∷ 232 ∷ 3 ∷ 0 ∷ 0 ∷ 1 ∷ 2 ∷ 3 ∷ 4 ∷ 11 ∷ 0 ∷ 0 ∷ 0
    ∷ 12 ∷ 0 ∷ 0 ∷ 0 ∷ 13 ∷ 0 ∷ 0 ∷ 0 ∷ 14 ∷ 0 ∷ 0 ∷ 0 ∷ 15 ∷ 0 ∷ 0 ∷ 0 ∷ 2 ∷ 0 ∷ 0 ∷ 0 ∷ []
unfolding bytes_of_words bytes_of of_int to_bits
worked_bytes = refl

pub forty : (a : Answer) → length (answer_bytes a) ≡ 40
unfolding bytes_of_words bytes_of
forty a = refl
