-- What is admitted adds to at most its count times the bound of an output: a block's f32 sum of n outputs is at most n times that
-- bound, which f32 holds, and so is the f64 sum of the blocks.
use mathlib.Core.Path.{◌≡◌, refl, sym, ap, ◌∙◌, subst}
use mathlib.Core.Logic.{◌⊎◌, inl, inr}
use mathlib.Core.Bool.{Bool, true, false, cond, ◌&&◌, false≢true}
use mathlib.Core.List.{List}
use Prim.Native.Nat.{ℕ, zero, suc, ◌+◌, ◌-◌, ◌*◌, ◌^◌, ◌/◌, ◌≤◌, min}
use native.Mathlib.Nat.{le_trans, le_of_eq, add-mul}
use native.Mathlib.Omega.{arith}
use lib.Dec.{lit≤}
use lib.ListN.{length}
use lib.Ieee.{Float, nan, binary32, binary64, lt, le}
use Rattle.laws.specs.Lists.{Each}
use Rattle.laws.proofs.Each.{each_or}
use Rattle.ieee.specs.Numbers.{plus_zero}
use Rattle.ieee.proofs.Bounded.{Bounded, bounded_up, plus_zero_bounded}
use Rattle.ieee.proofs.BoundedOperations.{add_bounded}
use Rattle.quantile.specs.Tally.{tally}
use Rattle.quantile.specs.Rising.{at}
use Rattle.sums.specs.Admitted.{keeps, value, block_sum, block_count, blocks_sum, blocks, admitted_by}
use Rattle.sums.proofs.Counts.{tally_few, tally_add}
use Rattle.sums.proofs.Sums.{kept}
use Rattle.bounds.proofs.Constants.{OutputBounded, output_most, holds_block, holds_sum}

-- ---- one window

-- a NaN, which stands past the end, is not admitted
nan_out : (t c g : Float) → keeps t c g nan ≡ false
unfolding le lt
nan_out t c g = go (lt g t)
  where
    go : (b : Bool) → b && false ≡ false
    go true = refl
    go false = refl

value_bounded : (t c g o : Float) → (o ≡ nan) ⊎ OutputBounded o → Bounded (value t c g o) false (cond (keeps t c g o) 1 0 * output_most)
value_bounded t c g o p = go (keeps t c g o) refl p
  where
    go : (b : Bool) → keeps t c g o ≡ b → (o ≡ nan) ⊎ OutputBounded o → Bounded (cond b o plus_zero) false (cond b 1 0 * output_most)
    go true e (inl z) = absurd (false≢true (sym (ap (keeps t c g) z ∙ nan_out t c g) ∙ e))
    go true e (inr h) = bounded_up o false output_most (1 * output_most) (lit≤ tt) h
    go false e h = plus_zero_bounded (0 * output_most)

-- ---- a block, the blocks and all that is admitted
module _ (t c : Float) (g o : List Float) (h : Each OutputBounded o) where
  output : (k : ℕ) → (at o k ≡ nan) ⊎ OutputBounded (at o k)
  output k = each_or OutputBounded nan o h k

  block_bounded : (a m : ℕ) → m ≤ 256 → Bounded (block_sum t c g o a m) false (block_count t c g o a m * output_most)
  block_bounded a zero l = plus_zero_bounded (0 * output_most)
  block_bounded a (suc m) l =
      let n = block_count t c g o a m in
      let b : ℕ = cond (kept t c g o (a + m)) 1 0 in
      add_bounded binary32 ((n + b) * output_most) (holds_block (n + b) (le_trans (tally_few (λ (k : ℕ). kept t c g o (a + k)) (suc m)) l)) false
      (block_sum t c g o a m) (value t c (at g (a + m)) (at o (a + m))) (n * output_most) (b * output_most) (le_of_eq (sym (add-mul n b output_most)))
      (block_bounded a m (omega arith)) (value_bounded t c (at g (a + m)) (at o (a + m)) (output (a + m)))

  module _ (few : length g ≤ 2 ^ 28) where
    -- the first i blocks have so many windows
    abbrev reach : ℕ → ℕ
    reach i = min (i * 256) (length g)

    abbrev count : ℕ → ℕ
    count i = tally (kept t c g o) (reach i)

    blocks_bounded : (i : ℕ) → i * 256 ≤ length g + 255 → Bounded (blocks_sum t c g o i) false (count i * output_most)
    blocks_bounded zero l = plus_zero_bounded (count 0 * output_most)
    blocks_bounded (suc i) l =
        let m = min 256 (length g - i * 256) in
        let b = block_count t c g o (i * 256) m in
        let is : count (suc i) ≡ count i + b =
        ap (tally (kept t c g o)) (next i (length g) l) ∙ tally_add (kept t c g o) (i * 256) m ∙ ap (λ (x : ℕ). tally (kept t c g o) x + b) (full i (length g) l) in
        let most : count (suc i) ≤ 2 ^ 28 = omega (arith, tally_few (kept t c g o) (reach (suc i))) in
        add_bounded binary64 (count (suc i) * output_most) (holds_sum (count (suc i)) most) false
        (blocks_sum t c g o i) (block_sum t c g o (i * 256) m) (count i * output_most) (b * output_most)
        (le_of_eq (sym (add-mul (count i) b output_most) ∙ ap (λ (x : ℕ). x * output_most) (sym is)))
        (blocks_bounded i (omega arith)) (block_bounded (i * 256) m (omega arith))
      where
        next : (i l : ℕ) → suc i * 256 ≤ l + 255 → min (suc i * 256) l ≡ i * 256 + min 256 (l - i * 256)
        next i l h = omega arith

        full : (i l : ℕ) → suc i * 256 ≤ l + 255 → i * 256 ≡ min (i * 256) l
        full i l h = omega arith

    pub admitted_bounded : Bounded (admitted_by t c g o).sum false ((admitted_by t c g o).n * output_most)
    admitted_bounded =
        subst (λ (x : ℕ). Bounded (admitted_by t c g o).sum false (tally (kept t c g o) x * output_most)) (all (length g))
        (blocks_bounded (blocks (length g)) (inside (length g)))
      where
        all : (l : ℕ) → min ((l + 255) / 256 * 256) l ≡ l
        all l = omega arith

        inside : (l : ℕ) → (l + 255) / 256 * 256 ≤ l + 255
        inside l = omega arith
