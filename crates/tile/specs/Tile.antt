-- The tile: 17 rows of 17 samples about the centre, `PixelTile`.
use Rattle.std.specs.Prelude.{◌≡◌, ℕ, ◌<◌, List, length, get_or, ℤ, pos, ◌+ℤ◌, ◌-ℤ◌, Result, Float}
use Rattle.std.specs.Result.{result_map_both}
use Rattle.std.specs.Float.{nan}
use Rattle.std.specs.Float.Ieee.{to_unsigned}
use Rattle.ieee.specs.Numbers.{f32_of}
use Rattle.imageview.specs.Sample.{sample}
use Rattle.disk.specs.Rows.{in_rows}
use Rattle.numbers.specs.declared.Number.{Number}
use Rattle.tile.specs.Refusal.{refusal}

-- the sample in row y and column x: row 8 and column 8 are the centre's
abbrev pub tile : List ℕ → ℕ → ℕ → List ℤ → List ℤ → ℕ → ℕ → Float
tile l w h origin centre y x =
    sample l w h origin (get_or centre 0 (pos 0) +ℤ (pos x -ℤ pos 8)) (get_or centre 1 (pos 0) +ℤ (pos y -ℤ pos 8))

-- what `PixelTile::load` answers: the samples, or why there are none
unfoldable pub loaded : List ℕ → ℕ → ℕ → List ℤ → List ℤ → Result (List Float) Number
loaded l w h origin centre = result_map_both (λ _. in_rows (tile l w h origin centre) 289) (λ why. why) (refusal (length l) w h origin centre)

-- x is a byte: the same as a u8 and back
abbrev pub IsByte : Float → Type 0
IsByte x = f32_of (to_unsigned 8 x) ≡ x

-- each of 289 samples is one
abbrev pub ByteSamples : List Float → Type 0
ByteSamples samples = (k : ℕ) → k < 289 → IsByte (get_or samples k nan)
