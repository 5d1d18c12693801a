-- The highest and the lowest of whole numbers, compared as whole numbers.
use mathlib.Core.Path.{◌≡◌, refl, sym, ap, ◌∙◌}
use mathlib.Core.Bool.{true, false}
use mathlib.Core.List.{List}
use Prim.Native.Nat.{ℕ, ◌+◌, ◌≤◌, ◌<◌, min, max}
use native.Mathlib.Omega.{arith}
use lib.ListN.{length, get_or}
use lib.Ieee.{Float, nan, inf, fin, binary32, lt, is_nan}
use lib.Ieee.Exact.{HasValue}
use Rattle.ieee.specs.Order.{larger, smaller}
use Rattle.ieee.specs.Numbers.{f32_of}
use Rattle.levels.specs.Levels.{highest, lowest}
use Rattle.levels.proofs.Folds.{Folding, fold_start, fold_put, fold_end}
use Rattle.levels.proofs.Wholes.{whole_value}
use Rattle.levels.proofs.Sums.{larger_whole, smaller_whole}

-- the infinities give way to a number
first_larger : (x : Float) (n : ℕ) → HasValue x false n 1 → x ≡ larger (inf true) x
unfolding larger lt is_nan
first_larger nan n h = absurd h
first_larger (inf s) n h = absurd h
first_larger (fin s m e) n h = refl

first_smaller : (x : Float) (n : ℕ) → HasValue x false n 1 → x ≡ smaller (inf false) x
unfolding smaller lt is_nan
first_smaller nan n h = absurd h
first_smaller (inf s) n h = absurd h
first_smaller (fin s m e) n h = refl

-- the extremes of the first m values
pub record Ends (l : List Float) (most least m : ℕ) : Type 0 where
  pub low : m ≤ 81
  pub most_small : most ≤ 65280
  pub least_small : least ≤ 65280
  pub most_fold : Folding larger l (inf true) (f32_of most) m
  pub least_fold : Folding smaller l (inf false) (f32_of least) m

pub begin : (l : List Float) (n : ℕ) → length l ≡ 81 → get_or l 0 nan ≡ f32_of n → n ≤ 65280 → Ends l n n 1
begin l n long e h =
    let v = whole_value binary32 n (omega arith) in
    record {
      low = omega arith;
      most_small = h;
      least_small = h;
      most_fold = fold_put nan fold_start (omega arith) (first_larger (f32_of n) n v ∙ ap (larger (inf true)) (sym e));
      least_fold = fold_put nan fold_start (omega arith) (first_smaller (f32_of n) n v ∙ ap (smaller (inf false)) (sym e));
    }

module _ {l : List Float} {most least m : ℕ} (x : Ends l most least m) (long : length l ≡ 81) where
  pub turn : {n most' least' : ℕ} → m < 81 → get_or l m nan ≡ f32_of n → n ≤ 65280 → most' ≡ max most n → least' ≡ min least n → Ends l most' least' (m + 1)
  turn {n} h e k p q = record {
    low = omega arith;
    most_small = omega (arith, x.most_small);
    least_small = omega (arith, x.least_small);
    most_fold = fold_put nan x.most_fold (omega arith) (ap f32_of p ∙ sym (larger_whole most n (omega (arith, x.most_small)) (omega arith)) ∙ ap (larger (f32_of most)) (sym e));
    least_fold = fold_put nan x.least_fold (omega arith) (ap f32_of q ∙ sym (smaller_whole least n (omega (arith, x.least_small)) (omega arith)) ∙ ap (smaller (f32_of least)) (sym e));
  }

  pub most_done : 81 ≤ m → f32_of most ≡ highest l
  most_done h = fold_end x.most_fold (omega arith)

  pub least_done : 81 ≤ m → f32_of least ≡ lowest l
  least_done h = fold_end x.least_fold (omega arith)
