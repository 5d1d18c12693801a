-- How many pass a test, one after the other and part by part. Assumes nothing.
use Rattle.std.proofs.Common.{◌≡◌, ℕ, zero, suc, ◌+◌, ◌≤◌, Bool, cond, ap, ◌∙◌, le_antisymm, arith}
use Rattle.laws.proofs.Choice.{cond_both}
use Rattle.quantile.specs.Tally.{tally}

pub one_at_most : (b : Bool) → cond b 1 0 ≤ 1
one_at_most b = cond_both (λ (k : ℕ). k ≤ 1) b 1 0 (omega arith) (omega arith)

pub tally_few : (b : ℕ → Bool) (n : ℕ) → tally b n ≤ n
tally_few b zero = omega arith
tally_few b (suc n) = omega (arith, tally_few b n, one_at_most (b n))

pub tally_add : (b : ℕ → Bool) (a m : ℕ) → tally b (a + m) ≡ tally b a + tally (λ (k : ℕ). b (a + k)) m
tally_add b a zero = omega (arith, ap (tally b) (nothing a))
  where
    nothing : (a : ℕ) → a + 0 ≡ a
    nothing a = omega arith
tally_add b a (suc m) =
    ap (tally b) (step a m) ∙ ap (λ (k : ℕ). k + cond (b (a + m)) 1 0) (tally_add b a m) ∙ assoc (tally b a) (tally (λ (k : ℕ). b (a + k)) m) (cond (b (a + m)) 1 0)
  where
    step : (a m : ℕ) → a + suc m ≡ suc (a + m)
    step a m = omega arith

    assoc : (x y z : ℕ) → x + y + z ≡ x + (y + z)
    assoc x y z = omega arith

-- a loop that has counted m of the first k
pub record Tallied (b : ℕ → Bool) (n m k : ℕ) : Type 0 where
  pub low : k ≤ n
  pub count : m ≡ tally b k

module _ (b : ℕ → Bool) {n m k : ℕ} (t : Tallied b n m k) where
  pub tallied_few : m ≤ k
  tallied_few = omega (arith, t.count, tally_few b k)

  pub tallied_end : n ≤ k → m ≡ tally b n
  tallied_end h = t.count ∙ ap (tally b) (le_antisymm t.low h)
