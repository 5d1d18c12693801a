-- What the loop of `admitted` keeps. Assumes nothing.
use Rattle.std.proofs.Common.{◌≡◌, ℕ, suc, ◌+◌, ◌-◌, ◌*◌, ◌<◌, ◌≤◌, min, Bool, List, length, sym, refl, ap, ◌∙◌, add-one, arith}
use lib.Ieee.{Float, binary32, binary64, add}
use Rattle.quantile.specs.Tally.{tally}
use Rattle.quantile.specs.Rising.{at}
use Rattle.sums.specs.Admitted.{threshold, cut, keeps, value, block_sum, blocks_sum, blocks, admitted_at}
use Rattle.sums.proofs.Counts.{tally_few, tally_add}

module _ (t c : Float) (g o : List Float) where
  abbrev pub kept : ℕ → Bool
  kept k = keeps t c (at g k) (at o k)

-- a window more, added to a block's sum
pub sum_next : (t c : Float) (g o : List Float) (a k : ℕ) {s v : Float} → s ≡ block_sum t c g o a k → v ≡ value t c (at g (a + k)) (at o (a + k))
    → add binary32 s v ≡ block_sum t c g o a (k + 1)
sum_next t c g o a k {s} {v} p q =
    (λ i. add binary32 (p i) (q i)) ∙ sym (ap (block_sum t c g o a) (add-one k) ∙ one_more)
  where
    one_more : block_sum t c g o a (suc k) ≡ add binary32 (block_sum t c g o a k) (value t c (at g (a + k)) (at o (a + k)))
    one_more = refl

-- ---- the first i blocks

pub record Added (t c : Float) (g o : List Float) (s : Float) (n i : ℕ) : Type 0 where
  pub low : i ≤ blocks (length g)
  pub sum : s ≡ blocks_sum t c g o i
  pub count : n ≡ tally (kept t c g o) (min (i * 256) (length g))

module _ {t c : Float} {g o : List Float} {s : Float} {n i : ℕ} (I : Added t c g o s n i) where
  pub added_few : n ≤ length g
  added_few = omega (arith, I.count, tally_few (kept t c g o) (min (i * 256) (length g)))

  pub added_more : i * 256 < length g → {v w : Float} {d m : ℕ} → m ≡ min 256 (length g - i * 256)
      → d ≡ tally (λ (k : ℕ). kept t c g o (i * 256 + k)) m → v ≡ w → w ≡ block_sum t c g o (i * 256) m → Added t c g o (add binary64 s v) (n + d) (i + 1)
  added_more h {v} {w} {d} {m} e p u q =
      record {
        low = omega arith;
        sum = ap (λ (x : Float). add binary64 x v) I.sum
            ∙ ap (λ (x : Float). add binary64 (blocks_sum t c g o i) x) (u ∙ q ∙ ap (block_sum t c g o (i * 256)) e) ∙ sym (ap (blocks_sum t c g o) (add-one i));
        count = ap (λ (x : ℕ). x + d) (I.count ∙ ap (tally (kept t c g o)) (full i (length g) h))
            ∙ ap (λ (x : ℕ). tally (kept t c g o) (i * 256) + x) p ∙ sym (tally_add (kept t c g o) (i * 256) m)
            ∙ ap (tally (kept t c g o)) (next i (length g) m h e);
      }
    where
      full : (i l : ℕ) → i * 256 < l → min (i * 256) l ≡ i * 256
      full i l h = omega arith

      next : (i l m : ℕ) → i * 256 < l → m ≡ min 256 (l - i * 256) → i * 256 + m ≡ min ((i + 1) * 256) l
      next i l m h e = omega arith

-- ---- no more are admitted than there are

pub admitted_few : (g o : List Float) (gv ov : Float) → (admitted_at g o gv ov).n ≤ length g
admitted_few g o gv ov = tally_few (kept (threshold gv) (cut ov) g o) (length g)
