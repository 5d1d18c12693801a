-- What the loop of `mean_quiet` keeps. Assumes nothing.
use Rattle.std.proofs.Common.{◌≡◌, ℕ, ◌≤◌, eqb, List, length, ap, ◌∙◌, le_antisymm, eq-eqb, ne_eqb}
use lib.Ieee.{Float, binary64, div}
use Rattle.laws.proofs.Choice.{chosen, passed}
use Rattle.ieee.specs.Numbers.{plus_zero, f64_of}
use Rattle.sums.specs.Start.{is_quiet, quiet_sum, mean, mean_quiet}
use Rattle.sums.proofs.Counts.{Tallied, tallied_few, tallied_end}

pub mean_none : (sum : Float) (n : ℕ) → n ≡ 0 → plus_zero ≡ mean sum n
unfolding mean
mean_none sum n h = chosen (eqb n 0) plus_zero (div binary64 sum (f64_of n)) (eq-eqb n 0 h)

pub mean_is : (sum : Float) (n : ℕ) → (n ≡ 0 → ⊥) → {w : Float} → w ≡ f64_of n → div binary64 sum w ≡ mean sum n
unfolding mean
mean_is sum n h e = ap (div binary64 sum) e ∙ passed (eqb n 0) plus_zero (div binary64 sum (f64_of n)) (ne_eqb n 0 h)

pub record Quiet (o g : List Float) (q : Float) (s : Float) (n k : ℕ) : Type 0 where
  pub counted : Tallied (is_quiet g q) (length g) n k
  pub sum : s ≡ quiet_sum o g q k

module _ {o g : List Float} {q s : Float} {n k : ℕ} (i : Quiet o g q s n k) where
  pub quiet_few : n ≤ k
  quiet_few = tallied_few (is_quiet g q) i.counted

  pub quiet_end : length g ≤ k → {r : Float} → r ≡ mean s n → r ≡ mean_quiet o g q
  unfolding mean_quiet
  quiet_end h {r} e =
      e ∙ ap (λ (x : Float). mean x n) (i.sum ∙ ap (quiet_sum o g q) (le_antisymm i.counted.low h))
      ∙ ap (mean (quiet_sum o g q (length g))) (tallied_end (is_quiet g q) i.counted h)
