-- Rounds are at most 12 each and at least one where they are evaluated, and a variance rests on no more windows than the band has. Assumes nothing.
use mathlib.Core.Path.{sym, subst}
use mathlib.Core.Bool.{not, ◌&&◌}
use mathlib.Core.List.{List}
use mathlib.Core.Logic.{◌⊎◌, inl, inr}
use Prim.Native.Nat.{ℕ, zero, suc, ◌+◌, ◌≤◌, ◌<◌}
use native.Mathlib.Omega.{arith}
use native.Mathlib.Nat.{lt_irrefl}
use lib.Dec.{ltb, leb}
use Rattle.std.specs.Prelude.{Option, Some, None}
use Rattle.std.specs.declared.ops.ControlFlow.TheVariants.{Break, Continue}
use lib.ListN.{length}
use lib.Ieee.{Float, binary64, mul, lt}
use Rattle.ieee.specs.Order.{larger}
use Rattle.laws.proofs.Choice.{cond_both}
use Rattle.sums.specs.Numbers.{rounding_op_var}
use Rattle.rounds.specs.Numbers.{max_band_ratio}
use Rattle.sums.specs.Start.{start}
use Rattle.rounds.specs.Rounds.{next, near, settled_at, Round, ended, one_round, followed, rounds_from, found_at, max_rounds, start_at, settle, band_total, min_band_samples, judged_band, band_by, band_variance, image_total, image_variance}
use Rattle.sums.specs.declared.Total.{Total}
use Rattle.rounds.specs.declared.Settled.{Settled}
use Rattle.rounds.specs.declared.Found.{Found}
use Rattle.rounds.specs.declared.BandVariance.{BandVariance}
use Rattle.sums.proofs.Sums.{admitted_few}
use Rattle.rounds.proofs.Turns.{max_rounds_is, ended_is, round_both, round_counted}

-- what holds where a round is the last one, and of what follows otherwise
pub rounds_both : (P : Settled → Type 0) (f : Float → Total) (left : ℕ) (s : Settled)
    → P (ended (one_round (f s.var) s)) → P (rounds_from f left (ended (one_round (f s.var) s))) → P (rounds_from f (suc left) s)
rounds_both P f left s x y = go (one_round (f s.var) s) x y
  where
    go : (t : Round) → P (ended t) → P (rounds_from f left (ended t)) → P (followed (rounds_from f left) t)
    go (Break e) x y = x
    go (Continue e) x y = y

module _ (f : Float → Total) where
  rounds_most : (left : ℕ) (s : Settled) → (rounds_from f left s).rounds ≤ s.rounds + left
  rounds_most zero s = omega arith
  rounds_most (suc left) s =
      let one = round_counted (f s.var) s in
      rounds_both (λ (x : Settled). x.rounds ≤ s.rounds + suc left) f left s (omega (arith, one))
      (omega (arith, one, rounds_most left (ended (one_round (f s.var) s))))

  rounds_least : (left : ℕ) (s : Settled) → s.rounds ≤ (rounds_from f left s).rounds
  rounds_least zero s = omega arith
  rounds_least (suc left) s =
      let one = round_counted (f s.var) s in
      rounds_both (λ (x : Settled). s.rounds ≤ x.rounds) f left s (omega (arith, one))
      (omega (arith, one, rounds_least left (ended (one_round (f s.var) s))))

  one_least : (left : ℕ) (s : Settled) → 0 < left → s.rounds + 1 ≤ (rounds_from f left s).rounds
  one_least zero s h = omega arith
  one_least (suc left) s h =
      let one = round_counted (f s.var) s in
      rounds_both (λ (x : Settled). s.rounds + 1 ≤ x.rounds) f left s (omega (arith, one))
      (omega (arith, one, rounds_least left (ended (one_round (f s.var) s))))

  -- at most 12, and at least 1: also where the first admits none
  pub settle_rounds : (var : Float) → (1 ≤ (settle f var).rounds) × ((settle f var).rounds ≤ 12)
  unfolding settle
  settle_rounds var = (omega (arith, one_least max_rounds (start_at var) (omega (arith, max_rounds_is))), omega (arith, rounds_most max_rounds (start_at var), max_rounds_is))

  module _ (B : ℕ) (few : (v : Float) → (f v).n ≤ B) where
    round_few : (s : Settled) → (ended (one_round (f s.var) s)).n ≤ B
    round_few s =
        let k = f s.var in
        let same = ended_is (settled_at k.n (next k) (s.rounds + 1)) (near k.n s.n (next k) s.var) in
        round_both k s (λ (t : Round). (ended t).n ≤ B) (omega arith) (subst (λ (x : Settled). x.n ≤ B) (sym same) (few s.var))

    rounds_count : (left : ℕ) (s : Settled) → (s.n ≤ B) ⊎ (0 < left) → (rounds_from f left s).n ≤ B
    rounds_count zero s (inl h) = h
    rounds_count zero s (inr h) = absurd (lt_irrefl 0 h)
    rounds_count (suc left) s h =
        rounds_both (λ (x : Settled). x.n ≤ B) f left s (round_few s) (rounds_count left (ended (one_round (f s.var) s)) (inl (round_few s)))

    pub settle_count : (var : Float) → (settle f var).n ≤ B
    unfolding settle
    settle_count var = rounds_count max_rounds (start_at var) (inr (omega (arith, max_rounds_is)))

pub image_rounds : (g o : List Float) (starts : List ℕ) → (image_variance g o starts).rounds ≤ 12
unfolding image_variance
image_rounds g o starts = (settle_rounds (image_total g o starts) (start g o)).1

module _ (g o : List Float) (image : Float) where
  -- what holds of a band under 128 windows, and of one with rounds
  variance_both : (P : BandVariance → Type 0) → P (record { found = None; rounds = 0 }) → P (band_by (settle (band_total g o) (start g o)) image) → P (band_variance g o image)
  unfolding band_variance
  variance_both P x y = cond_both P (ltb (length g) min_band_samples) (record { found = None; rounds = 0 }) (band_by (settle (band_total g o) (start g o)) image) x y

  pub variance_rounds : (band_variance g o image).rounds ≤ 12
  variance_rounds = variance_both (λ (v : BandVariance). v.rounds ≤ 12) (omega arith) (settle_rounds (band_total g o) (start g o)).1

  judged_both : (P : Option Found → Type 0) (s : Settled) → P (Some (found_at s.n s.var)) → P None → P (judged_band s image)
  unfolding judged_band
  judged_both P s x y =
      cond_both P (leb min_band_samples s.n && not (lt (mul binary64 max_band_ratio (larger image rounding_op_var)) s.var)) (Some (found_at s.n s.var)) None x y

  -- whatever holds of a variance on no more windows than there are, and of none, holds of the band's
  pub variance_holds : (P : Option Found → Type 0) → P None → ((n : ℕ) (var : Float) → n ≤ length g → P (Some (found_at n var))) → P (band_variance g o image).found
  variance_holds P x y =
      variance_both (λ (v : BandVariance). P v.found) x
      (judged_both P (settle (band_total g o) (start g o))
      (y (settle (band_total g o) (start g o)).n (settle (band_total g o) (start g o)).var (settle_count (band_total g o) (length g) (λ v. admitted_few g o v v) (start g o))) x)
