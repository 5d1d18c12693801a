-- A file as it is written out: decimal sides, maximum 255, the raster and nothing more.
use Rattle.std.specs.Prelude.{ℕ, ◌*◌, ◌≤◌, ◌≡◌, List, [], ◌∷◌, ◌++◌, length}
use Rattle.text.specs.Numerals.{decimal_of}
use Rattle.pgm.specs.Grammar.{White}

-- all that stands before the raster, the whitespace bytes being a, b, c and d
abbrev pub header_for : ℕ → ℕ → ℕ → ℕ → ℕ → ℕ → List ℕ
header_for a b c d w h = 80 ∷ 53 ∷ a ∷ (decimal_of w ++ b ∷ (decimal_of h ++ c ∷ 50 ∷ 53 ∷ 53 ∷ d ∷ []))

-- an image of w by h, its raster from place `start` on
pub record ImageFile (file : List ℕ) (w h start : ℕ) : Type 0 where
  pub a : ℕ
  pub b : ℕ
  pub c : ℕ
  pub d : ℕ
  pub whites : White a × White b × White c × White d
  pub sides : (1 ≤ w) × (w ≤ 99999) × (1 ≤ h) × (h ≤ 99999)
  pub raster : List ℕ
  pub area : length raster ≡ w * h
  pub whole : file ≡ header_for a b c d w h ++ raster
  pub place : start ≡ length (header_for a b c d w h)
