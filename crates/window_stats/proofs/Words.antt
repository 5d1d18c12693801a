-- Four pixels in one number are its four bytes, and a window of such rows has the figures of the window in the image.
use mathlib.Core.Path.{◌≡◌, refl, ap, ◌∙◌}
use mathlib.Core.List.{List, [], ◌∷◌}
use Prim.Native.Nat.{ℕ, ◌+◌, ◌*◌, ◌/◌, ◌%◌, ◌<◌}
use native.Mathlib.Omega.{arith}
use lib.ListN.{get_or}
use lib.IntN.{ℤ, pos}
use mir.Syntax.{w8}
use mir.Val.{Fits}
use Rattle.laws.specs.Lists.{Each}
use Rattle.laws.proofs.Machine.{four}
use Rattle.window.specs.Window.{Pixel, of_rows, pixels_at, stats_of}
use Rattle.window.proofs.Places.{◌and◌, below4}
use Rattle.window.proofs.Same.{stats_alike}
use Rattle.window_stats.specs.Words.{word_at, row_in, rows_in}

byte_pixel : (n : ℕ) → n < 256 → Pixel (pos n)
byte_pixel n h = record { byte = n; is = refl; most = omega arith }

pub row_pixels : (n : ℕ) → n < 4294967296 → Each Pixel (row_in n)
row_pixels n h =
    byte_pixel (n % 256) (omega arith) and byte_pixel (n / 256 % 256) (omega arith) and byte_pixel (n / 65536 % 256) (omega arith)
    and byte_pixel (n / 16777216) (omega arith) and tt

-- the bytes of a number that is made of four
bytes : (a b c d : ℕ) → a < 256 → b < 256 → c < 256 → d < 256
    → row_in (a + b * 256 + c * 65536 + d * 16777216) ≡ pos a ∷ pos b ∷ pos c ∷ pos d ∷ []
bytes a b c d p q r s = four (ap pos first) (ap pos second) (ap pos third) (ap pos fourth)
  where
    first : (a + b * 256 + c * 65536 + d * 16777216) % 256 ≡ a
    first = omega arith

    second : (a + b * 256 + c * 65536 + d * 16777216) / 256 % 256 ≡ b
    second = omega arith

    third : (a + b * 256 + c * 65536 + d * 16777216) / 65536 % 256 ≡ c
    third = omega arith

    fourth : (a + b * 256 + c * 65536 + d * 16777216) / 16777216 ≡ d
    fourth = omega arith

module _ (l : List ℕ) (g : (i : ℕ) → Fits w8 (get_or l i 0)) where
  in_row : (a b : ℕ) → a ≡ b → (x : ℕ) → x < 4 → get_or (row_in (word_at l a)) x (pos 0) ≡ pos (get_or l (b + x) 0)
  in_row a b e x h =
      ap (λ (r : List ℤ). get_or r x (pos 0)) (bytes (get_or l a 0) (get_or l (a + 1) 0) (get_or l (a + 2) 0) (get_or l (a + 3) 0)
      (omega (arith, (g a).fits)) (omega (arith, (g (a + 1)).fits)) (omega (arith, (g (a + 2)).fits)) (omega (arith, (g (a + 3)).fits)))
      ∙ below4 (λ x. get_or (pos (get_or l a 0) ∷ pos (get_or l (a + 1) 0) ∷ pos (get_or l (a + 2) 0) ∷ pos (get_or l (a + 3) 0) ∷ []) x (pos 0)
      ≡ pos (get_or l (b + x) 0))
      (one a 0 (omega arith)) (one (a + 1) 1 (omega arith)) (one (a + 2) 2 (omega arith)) (one (a + 3) 3 (omega arith)) x h
    where
      one : (i x : ℕ) → i ≡ b + x → pos (get_or l i 0) ≡ pos (get_or l (b + x) 0)
      one i x h = ap (λ (n : ℕ). pos (get_or l n 0)) h

  abbrev rows_at : ℕ → ℕ → List (List ℤ)
  rows_at w at = rows_in (word_at l at) (word_at l (at + w)) (word_at l (at + 2 * w)) (word_at l (at + 3 * w))

  place : (w at x y : ℕ) → x < 4 → y < 4 → of_rows (rows_at w at) x y ≡ pixels_at l w at x y
  place w at x y p =
      below4 (λ y. of_rows (rows_at w at) x y ≡ pixels_at l w at x y) (in_row at (at + 0 * w) (omega arith) x p)
      (in_row (at + w) (at + 1 * w) (omega arith) x p) (in_row (at + 2 * w) (at + 2 * w) refl x p)
      (in_row (at + 3 * w) (at + 3 * w) refl x p) y

  pub words_stats : (w at : ℕ)
      → stats_of (of_rows (rows_in (word_at l at) (word_at l (at + w)) (word_at l (at + 2 * w)) (word_at l (at + 3 * w)))) ≡ stats_of (pixels_at l w at)
  words_stats w at = stats_alike (of_rows (rows_at w at)) (pixels_at l w at) (place w at)

pub packed_same : {a b c d a' b' c' d' : ℕ} → a ≡ a' → b ≡ b' → c ≡ c' → d ≡ d'
    → stats_of (of_rows (rows_in a b c d)) ≡ stats_of (of_rows (rows_in a' b' c' d'))
packed_same p q r s = ap (λ (m : List (List ℤ)). stats_of (of_rows m)) (four (ap row_in p) (ap row_in q) (ap row_in r) (ap row_in s))
