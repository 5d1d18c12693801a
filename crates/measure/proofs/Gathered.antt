-- The windows whose rows are gathered have the figures that they have in the image.
use mathlib.Core.Path.{◌≡◌, ap, ◌∙◌}
use mathlib.Core.List.{List}
use Prim.Native.Nat.{ℕ, ◌+◌, ◌*◌, ◌<◌}
use native.Mathlib.Omega.{arith}
use lib.ListN.{get_or, drop, get_or-append}
use mir.Syntax.{w8}
use mir.Val.{Fits}
use Rattle.laws.specs.Lists.{from}
use Rattle.laws.proofs.Fill.{length_from, get_d_from}
use Rattle.window_stats.specs.Words.{word_at}
use Rattle.window_stats.proofs.Words.{words_stats, packed_same}
use Rattle.measure.specs.Loops.{figure_of, gathered, figure_of_words}

module _ (img : List ℕ) where
  word_at_lem : (at s n : ℕ) (old : List ℕ) (k : ℕ) → k < n → get_or (gathered img at s n old) k 0 ≡ word_at img (at + k * s)
  unfolding gathered
  word_at_lem at s n old k h =
      let word : ℕ → ℕ = λ k. word_at img (at + k * s) in
      get_or-append (from word 0 n) (drop n old) 0 k (omega (arith, length_from word 0 n))
      ∙ get_d_from word 0 n 0 k h ∙ ap word (same k)
    where
      same : (a : ℕ) → 0 + a ≡ a
      same a = omega arith

  -- in the row that lies b below, d being where
  word_below : (at b s n : ℕ) (old : List ℕ) (k : ℕ) → k < n → (d : ℕ) → at + b + k * s ≡ d → get_or (gathered img (at + b) s n old) k 0 ≡ word_at img d
  word_below at b s n old k h d e = word_at_lem (at + b) s n old k h ∙ ap (word_at img) e

  -- of windows whose four rows are gathered in a, b, c and d
  pub figures : ((i : ℕ) → Fits w8 (get_or img i 0)) → (w at s n : ℕ) (old : List ℕ) {a b c d : List ℕ}
      → a ≡ gathered img (at + 0 * w) s n old → b ≡ gathered img (at + 1 * w) s n old
      → c ≡ gathered img (at + 2 * w) s n old → d ≡ gathered img (at + 3 * w) s n old
      → (k : ℕ) → k < n → figure_of_words a b c d k ≡ figure_of img w at s k
  figures g w at s n old p q r u k h =
      let read : List ℕ → ℕ = λ l. get_or l k 0 in
      packed_same
      (ap read p ∙ word_below at (0 * w) s n old k h (at + k * s) (omega arith))
      (ap read q ∙ word_below at (1 * w) s n old k h (at + k * s + w) (omega arith))
      (ap read r ∙ word_below at (2 * w) s n old k h (at + k * s + 2 * w) (omega arith))
      (ap read u ∙ word_below at (3 * w) s n old k h (at + k * s + 3 * w) (omega arith))
      ∙ words_stats img g w (at + k * s)
