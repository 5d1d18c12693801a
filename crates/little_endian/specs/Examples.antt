-- The lowest byte stands first; bytes past the count are cut.
use Rattle.std.specs.Prelude.{◌≡◌, refl, [], ◌∷◌}
use Rattle.little_endian.specs.Bytes.{bytes_of, value_of}

pub low_first : (bytes_of 4 0x0403_0201 ≡ 1 ∷ 2 ∷ 3 ∷ 4 ∷ []) × (bytes_of 2 0x0403_0201 ≡ 1 ∷ 2 ∷ [])
unfolding bytes_of
low_first = (refl, refl)

pub read_low_first : (value_of (1 ∷ 2 ∷ 3 ∷ 4 ∷ []) ≡ 0x0403_0201) × (value_of (0 ∷ 1 ∷ []) ≡ 256) × (value_of [] ≡ 0)
unfolding value_of
read_low_first = (refl, refl, refl)
