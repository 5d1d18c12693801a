-- Sigma is at most 409: the bands that are joined add to at most their windows times the bound of a variance, so the mean variance is
-- at most that bound, its root at most 8,165, and a twentieth of that at most 409. The image's variance, the start, the thresholds and
-- the median only choose what is added.
use mathlib.Core.Path.{◌≡◌, refl, sym, subst}
use mathlib.Core.Bool.{Bool, true, false, cond}
use mathlib.Core.List.{List, [], ◌∷◌}
use Prim.Native.Nat.{ℕ, suc, ◌+◌, ◌-◌, ◌*◌, ◌^◌, ◌≤◌, ◌<◌}
use native.Mathlib.Nat.{le_trans, le_of_eq, le_refl, add-mul, mul-le-mul, mul-le-mul_right}
use native.Mathlib.Omega.{arith}
use borrow.Author.Tests.{ltb-false}
use lib.Dec.{T, eqb, ltb, lit≤, lit<}
use lib.ListN.{length, get_or, drop, length-take, length-drop}
use lib.IntN.{pos}
use lib.Ieee.{Float, fin, binary32, binary64, round, of_int, mul, le, fits}
use lib.Ieee.Exact.{HasValue}
use Rattle.laws.specs.Lists.{Each}
use Rattle.laws.proofs.Choice.{cond_both}
use Rattle.laws.proofs.Each.{each_take, each_drop, each_from}
use Rattle.ieee.specs.Numbers.{f64_of}
use Rattle.ieee.proofs.ConvertFormat.{convert_fits}
use Rattle.ieee.proofs.Bounded.{Bounded, plus_zero_bounded}
use Rattle.ieee.proofs.BoundedOperations.{add_bounded, mul_bounded, div_bounded, sqrt_bounded, convert_bounded, whole_bounded}
use Rattle.sums.specs.Admitted.{no_total}
use Rattle.sums.specs.declared.Total.{Total}
use Rattle.rounds.specs.Rounds.{band, image_variance}
use Rattle.rounds.specs.declared.Settled.{Settled}
use Rattle.std.specs.Prelude.{Option, Some, None, Ok, Err}
use Rattle.numbers.specs.declared.Number.{Number}
use Rattle.numbers.specs.declared.Number.TheVariants.{Few, NoBand, Thin}
use Rattle.rounds.specs.declared.Found.{Found}
use Rattle.joining.specs.Numbers.{operator_gain}
use Rattle.joining.specs.Joining.{variances, median, outlier_limit, with_band, with_found, join_from, joined_bands, min_samples, deviation, sigma_of_total, sigma_of, band_at, founds, noise_under, noise}
use Rattle.joining.specs.declared.Noise.{Noise}
use Rattle.bounds.specs.Sigma.{sigma_most}
use Rattle.bounds.proofs.Constants.{OutputBounded, FoundBounded, variance_most, SigmaBounded, holds_count, holds_joined, holds_variance, holds_root, root_most, holds_sigma}
use Rattle.bounds.proofs.Variances.{f64_value, band_bounded}

-- ---- the bands that are joined: after j of them
pub record Joined (N j : ℕ) (k : Total) : Type 0 where
  pub few : k.n ≤ j * N
  pub sum : Bounded k.sum false (k.n * variance_most)

module _ (N : ℕ) (small : N ≤ 2 ^ 28) (limit : Float) where
  -- up to four bands have no more than 2 ^ 30 windows
  four : (j n : ℕ) → j ≤ 4 → n ≤ j * N → n ≤ 2 ^ 30
  four j n h l = le_trans l (le_trans (mul-le-mul h small) (lit≤ tt))

  with_band_lem : (j : ℕ) (k : Total) (n : ℕ) (var : Float) → suc j ≤ 4 → Joined N j k → n ≤ N → Bounded var false variance_most → Joined N (suc j) (with_band k n var)
  with_band_lem j k n var h J l v =
      let few : k.n + n ≤ suc j * N = omega (arith, J.few) in
      record {
        few = few;
        sum =
            add_bounded binary64 ((k.n + n) * variance_most) (holds_joined (k.n + n) (four (suc j) (k.n + n) h few)) false
            k.sum (mul binary64 (f64_of n) var) (k.n * variance_most) (n * variance_most) (le_of_eq (sym (add-mul k.n n variance_most))) J.sum
            (mul_bounded binary64 (n * variance_most) (holds_joined n (omega arith)) false false (f64_of n) var n variance_most (le_refl (n * variance_most)) (whole_bounded binary64 n (holds_count n (omega arith)) (pos n) (le_refl n)) v);
      }

  with_found_lem : (j : ℕ) (k : Total) (f : Option Found) → suc j ≤ 4 → Joined N j k → FoundBounded N f → Joined N (suc j) (with_found limit k f)
  with_found_lem j k (Some f) h J s = cond_both (Joined N (suc j)) (le f.var limit) (with_band k f.n f.var) k (with_band_lem j k f.n f.var h J s.0 s.1) (record { few = omega (arith, J.few); sum = J.sum })
  with_found_lem j k None h J s = record { few = omega (arith, J.few); sum = J.sum }

  join_from_lem : (j : ℕ) (k : Total) (bands : List (Option Found)) → j + length bands ≤ 4 → Joined N j k → Each (FoundBounded N) bands → Joined N 4 (join_from limit k bands)
  join_from_lem j k [] h J a = record { few = le_trans J.few (mul-le-mul_right N (go j h)); sum = J.sum }
    where
      go : (j : ℕ) → j + 0 ≤ 4 → j ≤ 4
      go j h = omega arith
  join_from_lem j k (f ∷ bands) h J a = join_from_lem (suc j) (with_found limit k f) bands (omega arith) (with_found_lem j k f (omega arith) J a.0) a.1

-- ---- sigma of what is joined
gain_is : operator_gain ≡ fin false 5 (pos 2)
unfolding of_int round
gain_is = refl

gain_value : HasValue operator_gain false 20 1
gain_value = subst (λ (x : Float). HasValue x false 20 1) (sym gain_is) (refl, refl)

module _ (N : ℕ) (small : N ≤ 2 ^ 28) where
  deviation_bounded : (k : Total) → 0 < k.n → Joined N 4 k → Bounded (deviation k) false sigma_most
  unfolding deviation
  deviation_bounded k p J =
      convert_bounded binary32 sigma_most (holds_sigma binary32) false _
      (div_bounded binary64 sigma_most (holds_sigma binary64) false false _ operator_gain root_most 20 1 (lit< tt) (lit< tt) (lit≤ tt)
      (sqrt_bounded binary64 root_most holds_root _ variance_most (lit≤ tt)
      (div_bounded binary64 variance_most holds_variance false false k.sum (f64_of k.n) (k.n * variance_most) k.n 1 p (lit< tt) (mean k.n) J.sum (f64_value k.n (omega (arith, J.few)))))
      gain_value)
    where
      mean : (n : ℕ) → n * variance_most * 1 ≤ variance_most * n
      mean n = omega arith

  deviation_fits : (k : Total) → T (fits binary32 (deviation k))
  unfolding deviation
  deviation_fits k = convert_fits binary32 _

  why_bounded : (why : Number) → SigmaBounded (Err why)
  unfolding fits
  why_bounded why = record { bounded = plus_zero_bounded sigma_most; fits = tt }

  decided_bounded : (k : Total) → Joined N 4 k → SigmaBounded (sigma_of_total k)
  unfolding sigma_of_total
  decided_bounded k J = go (ltb k.n min_samples) refl
    where
      go : (b : Bool) → ltb k.n min_samples ≡ b → SigmaBounded (cond b (Err Thin) (Ok (deviation k)))
      go true e = why_bounded Thin
      go false e = record { bounded = deviation_bounded k (omega (arith, ltb-false k.n min_samples e)) J; fits = deviation_fits k }

  sigma_bounded : (bands : List (Option Found)) → length bands ≤ 4 → Each (FoundBounded N) bands → SigmaBounded (sigma_of bands)
  unfolding sigma_of joined_bands
  sigma_bounded bands h a =
      cond_both SigmaBounded (eqb (length (variances bands)) 0) (Err NoBand) (sigma_of_total (joined_bands bands)) (why_bounded NoBand)
      (decided_bounded (joined_bands bands) (join_from_lem N small (outlier_limit (median (variances bands))) 0 no_total bands (omega arith) (record { few = omega arith; sum = plus_zero_bounded (0 * variance_most) }) a))

-- ---- sigma of a list of gates and one of bounded outputs, wherever the bands start
module _ (g o : List Float) (starts : List ℕ) (small : length g ≤ 2 ^ 28) (h : Each OutputBounded o) where
  band_few : (b : ℕ) → length (band g starts b) ≤ length g
  band_few b = omega (arith, length-take (get_or starts (b + 1) 0 - get_or starts b 0) (drop (get_or starts b 0) g), length-drop (get_or starts b 0) g)

  outputs_in : (b : ℕ) → Each OutputBounded (band o starts b)
  outputs_in b = each_take OutputBounded (get_or starts (b + 1) 0 - get_or starts b 0) (drop (get_or starts b 0) o) (each_drop OutputBounded (get_or starts b 0) o h)

  under_bounded : (image : Settled) → SigmaBounded (noise_under g o starts image).sigma
  unfolding noise_under
  under_bounded image =
      sigma_bounded (length g) small (founds g o starts image.var) (lit≤ tt)
      (each_from (FoundBounded (length g)) (λ (b : ℕ). (band_at g o starts image.var b).found) (λ b. band_bounded (band g starts b) (band o starts b) image.var (outputs_in b) (length g) (band_few b) small) 0 4)

  pub noise_bounded : SigmaBounded (noise g o starts).sigma
  unfolding noise
  noise_bounded =
      cond_both (λ (n : Noise). SigmaBounded n.sigma) (ltb (length g) min_samples) (record { sigma = Err Few; rounds = 0 }) (noise_under g o starts (image_variance g o starts))
      (why_bounded (length g) small Few) (under_bounded (image_variance g o starts))
