-- The sum of the values that pass a test, as a whole number: f32 additions of whole numbers up to 2 ^ 24 make the same.
use mathlib.Core.Path.{◌≡◌, sym, ap, ◌∙◌}
use mathlib.Core.Bool.{Bool, true, false, cond}
use mathlib.Core.List.{List}
use Prim.Native.Nat.{ℕ, ◌+◌, ◌*◌, ◌≤◌, ◌<◌, max}
use native.Mathlib.Omega.{arith}
use lib.ListN.{length, get_or}
use lib.Ieee.{Float, nan, binary32, add, div}
use Rattle.laws.proofs.Choice.{chosen, passed}
use Rattle.ieee.specs.Numbers.{f32_of}
use Rattle.levels.specs.Filtered.{filtered}
use Rattle.levels.specs.Levels.{summed, mean_of}
use Rattle.levels.proofs.Folds.{Folding, fold_start, fold_put, fold_end, foldl_filtered, count_filtered}
use Rattle.levels.proofs.Wholes.{add_whole}

-- the first m values taken in, of which n pass
pub record Summing (p : Float → Bool) (l : List Float) (sum n m : ℕ) : Type 0 where
  pub low : m ≤ 81
  pub small : sum ≤ m * 65280
  pub few : n ≤ m
  pub fold : Folding (λ a v. cond (p v) (add binary32 a v) a) l (f32_of 0) (f32_of sum) m
  pub count : Folding (λ a v. cond (p v) (a + 1) a) l 0 n m

pub begin : (p : Float → Bool) (l : List Float) → Summing p l 0 0 0
begin p l = record { low = omega arith; small = omega arith; few = omega arith; fold = fold_start; count = fold_start }

module _ {p : Float → Bool} {l : List Float} {sum n m : ℕ} (s : Summing p l sum n m) where
  module _ (long : length l ≡ 81) (h : m < 81) where
    abbrev next : Float
    next = get_or l m nan

    pub taken : {k sum' n' : ℕ} → next ≡ f32_of k → k ≤ 65280 → p next ≡ true → sum' ≡ sum + k → n' ≡ n + 1 → Summing p l sum' n' (m + 1)
    taken {k} {sum'} x q t e f = record {
      low = omega arith;
      small = omega (arith, s.small);
      few = omega (arith, s.few);
      fold =
          fold_put nan s.fold (omega arith)
          (ap f32_of e ∙ sym (add_whole binary32 sum k (omega (arith, s.small)) (omega arith)) ∙ ap (add binary32 (f32_of sum)) (sym x)
          ∙ chosen (p next) (add binary32 (f32_of sum) next) (f32_of sum) t);
      count = fold_put nan s.count (omega arith) (f ∙ chosen (p next) (n + 1) n t);
    }

    pub left : {sum' n' : ℕ} → p next ≡ false → sum' ≡ sum → n' ≡ n → Summing p l sum' n' (m + 1)
    left t e f = record {
      low = omega arith;
      small = omega (arith, s.small);
      few = omega (arith, s.few);
      fold = fold_put nan s.fold (omega arith) (ap f32_of e ∙ passed (p next) (add binary32 (f32_of sum) next) (f32_of sum) t);
      count = fold_put nan s.count (omega arith) (f ∙ passed (p next) (n + 1) n t);
    }

  pub done : length l ≤ m → div binary32 (f32_of sum) (f32_of (max n 1)) ≡ mean_of (filtered p l)
  done h =
      ap (λ (z : Float). div binary32 z (f32_of (max n 1))) (fold_end s.fold h ∙ foldl_filtered (add binary32) p (f32_of 0) l)
      ∙ ap (λ (k : ℕ). div binary32 (summed (filtered p l)) (f32_of (max k 1))) (fold_end s.count h ∙ count_filtered p l)
