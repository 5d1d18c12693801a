-- A variance that counts is the mean of what is admitted, over the moment: at most 66,658,304.
use mathlib.Core.Path.{◌≡◌, refl, sym, subst}
use mathlib.Core.Logic.{◌⊎◌, inl, inr}
use mathlib.Core.Bool.{Bool, true, false, cond, not, ◌&&◌}
use mathlib.Core.List.{List}
use Prim.Native.Nat.{ℕ, zero, suc, ◌+◌, ◌*◌, ◌^◌, ◌≤◌, ◌<◌}
use native.Mathlib.Nat.{le_trans, lt_irrefl}
use native.Mathlib.Omega.{arith}
use borrow.Author.Tests.{eqb-false, leb-true}
use lib.Dec.{eqb, ltb, leb, lit≤, lit<}
use lib.ListN.{length}
use lib.IntN.{negsuc}
use lib.Ieee.{Float, fin, binary64, round, of_int, mul, lt}
use lib.Ieee.Exact.{HasValue}
use lib.Ieee.Back.{round_whole}
use Rattle.laws.specs.Lists.{Each}
use Rattle.laws.proofs.Choice.{cond_both}
use Rattle.ieee.specs.Order.{larger}
use Rattle.ieee.specs.Numbers.{f64_of}
use Rattle.ieee.proofs.Bounded.{Bounded}
use Rattle.ieee.proofs.BoundedOperations.{div_bounded}
use Rattle.sums.specs.Numbers.{rounding_op_var}
use Rattle.sums.specs.Admitted.{threshold, cut}
use Rattle.sums.specs.Start.{start}
use Rattle.sums.specs.declared.Total.{Total}
use Rattle.sums.proofs.Sums.{admitted_few}
use Rattle.rounds.specs.Numbers.{max_band_ratio, trunc_second_moment}
use Rattle.rounds.specs.Rounds.{next, near, settled_at, Round, round_of, ended, followed, one_round, rounds_from, max_rounds, start_at, settle, found_at, band_total, min_band_samples, judged_band, band_by, band_variance}
use Rattle.rounds.specs.declared.Settled.{Settled}
use Rattle.std.specs.Prelude.{Some, None}
use Rattle.std.proofs.Common.{Break, Continue}
use Rattle.rounds.specs.declared.BandVariance.{BandVariance}
use Rattle.rounds.proofs.Turns.{max_rounds_is}
use Rattle.rounds.proofs.Bounds.{settle_count}
use Rattle.bounds.proofs.Constants.{OutputBounded, output_most, variance_most, FoundBounded, holds_output, holds_variance}
use Rattle.bounds.proofs.Blocks.{admitted_bounded}

-- ---- the divisors
pub f64_value : (n : ℕ) → n ≤ 2 ^ 30 → HasValue (f64_of n) false n 1
unfolding of_int
f64_value n h = round_whole binary64 false n (omega arith)

moment_is : trunc_second_moment ≡ fin false 0x7FDCE7CD03537 (negsuc 50)
unfolding round
moment_is = refl

moment_value : HasValue trunc_second_moment false 0x7FDCE7CD03537 (2 ^ 51)
moment_value = subst (λ (x : Float). HasValue x false 0x7FDCE7CD03537 (2 ^ 51)) (sym moment_is) (refl, refl)

-- ---- a total whose sum is bounded, and the variance after it
abbrev Summed : Total → Type 0
Summed k = (k.n ≤ 2 ^ 28) × Bounded k.sum false (k.n * output_most)

next_bounded : (k : Total) → Summed k → 0 < k.n → Bounded (next k) false variance_most
unfolding next
next_bounded k h p =
    div_bounded binary64 variance_most holds_variance false false _ trunc_second_moment output_most 0x7FDCE7CD03537 (2 ^ 51) (lit< tt) (lit< tt) (lit≤ tt)
    (div_bounded binary64 output_most (holds_output binary64) false false k.sum (f64_of k.n) (k.n * output_most) k.n 1 p (lit< tt) (mean k.n) h.1 (f64_value k.n (omega (arith, h.0))))
    moment_value
  where
    mean : (n : ℕ) → n * output_most * 1 ≤ output_most * n
    mean n = omega arith

-- ---- the rounds: a variance that rests on windows is bounded
abbrev Rests : Settled → Type 0
Rests s = 0 < s.n → Bounded s.var false variance_most

module _ (f : Float → Total) (fine : (v : Float) → Summed (f v)) where
  round_rests : (s : Settled) → Rests (ended (one_round (f s.var) s))
  unfolding one_round
  round_rests s = go (eqb (f s.var).n 0) refl
    where
      some : (n : ℕ) → (n ≡ 0 → ⊥) → 0 < n
      some n h = omega arith

      either : (t : Settled) (last : Bool) → Rests t → Rests (ended (round_of t last))
      either t true h = h
      either t false h = h

      go : (b : Bool) → eqb (f s.var).n 0 ≡ b
          → Rests (ended (cond b (Break (settled_at 0 s.var (s.rounds + 1)))
          (round_of (settled_at (f s.var).n (next (f s.var)) (s.rounds + 1)) (near (f s.var).n s.n (next (f s.var)) s.var))))
      go true e = λ p. absurd (lt_irrefl 0 p)
      go false e =
          either (settled_at (f s.var).n (next (f s.var)) (s.rounds + 1)) (near (f s.var).n s.n (next (f s.var)) s.var)
          (λ p. next_bounded (f s.var) (fine s.var) (some (f s.var).n (eqb-false (f s.var).n 0 e)))

  -- what follows a round, whatever comes after it
  followed_rests : (more : Settled → Settled) → ((s : Settled) → Rests s → Rests (more s)) → (r : Round) → Rests (ended r) → Rests (followed more r)
  followed_rests more h (Break t) p = p
  followed_rests more h (Continue t) p = h t p

  rounds_rest : (left : ℕ) (s : Settled) → Rests s ⊎ (0 < left) → Rests (rounds_from f left s)
  rounds_rest zero s (inl h) = h
  rounds_rest zero s (inr h) = absurd (lt_irrefl 0 h)
  rounds_rest (suc left) s h =
      followed_rests (rounds_from f left) (λ t p. rounds_rest left t (inl p)) (one_round (f s.var) s) (round_rests s)

  settle_rests : (var : Float) → Rests (settle f var)
  unfolding settle
  settle_rests var = rounds_rest max_rounds (start_at var) (inr (omega (arith, max_rounds_is)))

-- ---- a band
judged_bounded : (s : Settled) (image : Float) (N : ℕ) → s.n ≤ N → Rests s → FoundBounded N (judged_band s image)
unfolding judged_band
judged_bounded s image N few h = go (leb min_band_samples s.n) (not (lt (mul binary64 max_band_ratio (larger image rounding_op_var)) s.var)) refl
  where
    go : (a b : Bool) → leb min_band_samples s.n ≡ a → FoundBounded N (cond (a && b) (Some (found_at s.n s.var)) None)
    go true true e = (few, h (omega (arith, leb-true min_band_samples s.n e)))
    go true false e = tt
    go false b e = tt

module _ (g o : List Float) (image : Float) (h : Each OutputBounded o) (N : ℕ) (few : length g ≤ N) (small : N ≤ 2 ^ 28) where
  band_summed : (v : Float) → Summed (band_total g o v)
  band_summed v = (le_trans (admitted_few g o v v) (le_trans few small), admitted_bounded (threshold v) (cut v) g o h (le_trans few small))

  pub band_bounded : FoundBounded N (band_variance g o image).found
  unfolding band_variance
  band_bounded =
      cond_both (λ (b : BandVariance). FoundBounded N b.found) (ltb (length g) min_band_samples) (record { found = None; rounds = 0 }) (band_by (settle (band_total g o) (start g o)) image)
      tt (judged_bounded (settle (band_total g o) (start g o)) image N (settle_count (band_total g o) N (λ v. le_trans (admitted_few g o v v) few) (start g o)) (settle_rests (band_total g o) band_summed (start g o)))
