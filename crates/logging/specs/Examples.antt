-- A worked answer: forty bytes, no two alike, so that each field of the record shows the place that it was read from.
use Rattle.std.specs.Prelude.{◌≡◌, refl, List, [], ◌∷◌, ℕ}
use Rattle.little_endian.specs.Bytes.{value_of}
use Rattle.logging.specs.Logging.{record_from}

abbrev answer : List ℕ
answer =
    1 ∷ 2 ∷ 3 ∷ 4 ∷ 5 ∷ 6 ∷ 7 ∷ 8 ∷ 9 ∷ 10 ∷ 11 ∷ 12 ∷ 13 ∷ 14 ∷ 15 ∷ 16 ∷ 17 ∷ 18 ∷ 19 ∷ 20 ∷ 21 ∷ 22 ∷ 23 ∷ 24 ∷ 25 ∷ 26 ∷ 27 ∷ 28
    ∷ 29 ∷ 30 ∷ 31 ∷ 32 ∷ 33 ∷ 34 ∷ 35 ∷ 36 ∷ 37 ∷ 38 ∷ 39 ∷ 40 ∷ []

pub places : record_from 7 26 27 answer
    ≡ record {
      shot = 7;
      width = 26;
      height = 27;
      answer = 0x0403_0201;
      sigma = 0x0807_0605;
      b0 = 0x100F_0E0D;
      b1 = 0x1413_1211;
      b2 = 0x1817_1615;
      b3 = 0x1C1B_1A19;
      rail = 0x201F_1E1D;
    }
unfolding value_of
places = refl
