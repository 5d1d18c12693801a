-- What the loops over eight blocks side by side keep. Assumes nothing.
use Rattle.std.proofs.Common.{◌≡◌, ℕ, zero, suc, ◌+◌, ◌-◌, ◌*◌, ◌<◌, ◌≤◌, min, cond, List, length, get_or, set, sym, refl, ap, ◌∙◌, subst, ⊎_elim, eq-or-lt_of_le, add-one, arith, length-set, get_or-set_same}
use lib.Ieee.{Float, nan, binary32, add}
use borrow.Author.Rules.{read_below, read_above}
use Rattle.quantile.specs.Rising.{at}
use Rattle.sums.specs.Admitted.{value, block_sum, block_count}
use Rattle.sums.specs.Lanes.{Lanes, CountsFit, lanes_sum, lanes_count}
use Rattle.sums.specs.declared.Total.{Total}
use Rattle.sums.proofs.Counts.{tally_few}
use Rattle.sums.proofs.Sums.{kept, sum_next, Added, added_more}

-- ---- a window more in each lane: the first l of eight places are new, the others old

pub record Half {A : Type 0} (d : A) (old new : ℕ → A) (s : List A) (l : ℕ) : Type 0 where
  pub long : length s ≡ 8
  pub done : (j : ℕ) → j < l → get_or s j d ≡ new j
  pub todo : (j : ℕ) → l ≤ j → j < 8 → get_or s j d ≡ old j

module _ {A : Type 0} {d : A} {old new : ℕ → A} where
  half_put : {s : List A} {l : ℕ} → Half d old new s l → l < 8 → {v : A} → v ≡ new l → Half d old new (set s l v) (l + 1)
  half_put {s} {l} i h {v} e =
      record {
        long = length-set s l v ∙ i.long;
        done = λ j q. ⊎_elim (λ (z : j ≡ l). ap (λ (x : ℕ). get_or (set s l v) x d) z ∙ get_or-set_same s l v d (omega (arith, i.long)) ∙ e ∙ ap new (sym z))
            (λ (z : j < l). read_below A s l j v d (new j) z (i.done j z)) (eq-or-lt_of_le (most j q));
        todo = λ j p q. read_above A s l j v d (old j) (over j p) (i.todo j (least j p) q);
      }
    where
      most : (j : ℕ) → j < l + 1 → j ≤ l
      most j q = omega arith

      over : (j : ℕ) → l + 1 ≤ j → l < j
      over j p = omega arith

      least : (j : ℕ) → l + 1 ≤ j → l ≤ j
      least j p = omega arith

pub record Step (t c : Float) (g o : List Float) (a i : ℕ) (s : List Float) (n : List ℕ) (l : ℕ) : Type 0 where
  pub low : l ≤ 8
  pub half_s : Half nan (λ (j : ℕ). block_sum t c g o (a + j * 256) i) (λ (j : ℕ). block_sum t c g o (a + j * 256) (i + 1)) s l
  pub half_n : Half 0 (λ (j : ℕ). block_count t c g o (a + j * 256) i) (λ (j : ℕ). block_count t c g o (a + j * 256) (i + 1)) n l

count_next : (t c : Float) (g o : List Float) (a k : ℕ) {n d : ℕ} → n ≡ block_count t c g o a k → d ≡ cond (kept t c g o (a + k)) 1 0
    → n + d ≡ block_count t c g o a (k + 1)
count_next t c g o a k {n} {d} p q =
    ap (λ (x : ℕ). x + d) p ∙ ap (λ (x : ℕ). block_count t c g o a k + x) q ∙ sym (ap (block_count t c g o a) (add-one k))

count_few : (t c : Float) (g o : List Float) (a m : ℕ) → block_count t c g o a m ≤ m
count_few t c g o a m = tally_few (λ (k : ℕ). kept t c g o (a + k)) m

module _ {t c : Float} {g o : List Float} {a i : ℕ} {s : List Float} {n : List ℕ} where
  pub step_few : {l : ℕ} → Step t c g o a i s n l → l < 8 → get_or n l 0 ≤ i
  step_few {l} h q = subst (λ (x : ℕ). x ≤ i) (sym (h.half_n.todo l (omega arith) q)) (count_few t c g o (a + l * 256) i)

  pub step_put : {l : ℕ} → Step t c g o a i s n l → l < 8 → {v : Float} {d : ℕ}
      → v ≡ value t c (at g (a + l * 256 + i)) (at o (a + l * 256 + i)) → d ≡ cond (kept t c g o (a + l * 256 + i)) 1 0
      → Step t c g o a i (set s l (add binary32 (at s l) v)) (set n l (get_or n l 0 + d)) (l + 1)
  step_put {l} h q e f =
      record {
        low = omega arith;
        half_s = half_put h.half_s q (sum_next t c g o (a + l * 256) i (h.half_s.todo l (omega arith) q) e);
        half_n = half_put h.half_n q (count_next t c g o (a + l * 256) i (h.half_n.todo l (omega arith) q) f);
      }

-- ---- all windows of the eight blocks

pub counts_fit : {t c : Float} {g o : List Float} {a : ℕ} {s : List Float} {n : List ℕ} → Lanes t c g o a 256 s n → CountsFit n
counts_fit {t} {c} {g} {o} {a} L =
    record { each = λ j q. subst (λ (x : ℕ). x ≤ 256) (sym (L.counts j q)) (count_few t c g o (a + j * 256) 256) }

-- ---- the lanes added up

pub record Up (x : List Float) (y : List ℕ) (s₀ : Float) (n₀ : ℕ) (s : Float) (n l : ℕ) : Type 0 where
  pub low : l ≤ 8
  pub sum : s ≡ lanes_sum x s₀ l
  pub count : n ≡ lanes_count y n₀ l
  pub few : n ≤ n₀ + l * 256

-- ---- eight blocks more

module _ {t c : Float} {g o : List Float} {s : Float} {n i : ℕ} (I : Added t c g o s n i) {x : List Float} {y : List ℕ} (L : Lanes t c g o (i * 256) 256 x y)
    (h : i * 256 + 2048 ≤ length g) where
  added_lanes : (l : ℕ) → l ≤ 8 → Added t c g o (lanes_sum x s l) (lanes_count y n l) (i + l)
  added_lanes zero q = subst (Added t c g o s n) (none i) I
    where
      none : (i : ℕ) → i ≡ i + 0
      none i = omega arith
  added_lanes (suc l) q =
      subst (Added t c g o (lanes_sum x s (suc l)) (lanes_count y n (suc l))) (next i l)
      (added_more (added_lanes l (omega arith)) (omega arith) (full l (omega arith))
      (L.counts l (omega arith) ∙ ap (λ (z : ℕ). block_count t c g o z 256) (place i l)) refl
      (L.sums l (omega arith) ∙ ap (λ (z : ℕ). block_sum t c g o z 256) (place i l)))
    where
      next : (i l : ℕ) → i + l + 1 ≡ i + suc l
      next i l = omega arith

      place : (i l : ℕ) → i * 256 + l * 256 ≡ (i + l) * 256
      place i l = omega arith

      full : (l : ℕ) → l < 8 → 256 ≡ min 256 (length g - (i + l) * 256)
      full l q = omega arith

-- a loop that has done j of m times eight blocks
pub record Eights (t c : Float) (g o : List Float) (m : ℕ) (k : Total) (j : ℕ) : Type 0 where
  pub low : j ≤ m
  pub added : Added t c g o k.sum k.n (j * 8)

module _ {t c : Float} {g o : List Float} {m : ℕ} {k : Total} {j : ℕ} (E : Eights t c g o m k j) (room : m * 2048 ≤ length g) where
  pub eights_more : j < m → {a : ℕ} {x : List Float} {y : List ℕ} → a ≡ j * 2048 → Lanes t c g o a 256 x y
      → {r : Total} → r.n ≡ lanes_count y k.n 8 → r.sum ≡ lanes_sum x k.sum 8 → Eights t c g o m r (j + 1)
  eights_more h {a} {x} {y} e L {r} p q =
      record {
        low = omega arith;
        added = subst (λ (z : ℕ). Added t c g o r.sum z ((j + 1) * 8)) (sym p)
            (subst (λ (z : Float). Added t c g o z (lanes_count y k.n 8) ((j + 1) * 8)) (sym q)
            (subst (Added t c g o (lanes_sum x k.sum 8) (lanes_count y k.n 8)) (next j)
            (added_lanes E.added (subst (λ (z : ℕ). Lanes t c g o z 256 x y) (e ∙ place j) L) (omega arith) 8 (omega arith))));
      }
    where
      next : (j : ℕ) → j * 8 + 8 ≡ (j + 1) * 8
      next j = omega arith

      place : (j : ℕ) → j * 2048 ≡ j * 8 * 256
      place j = omega arith
