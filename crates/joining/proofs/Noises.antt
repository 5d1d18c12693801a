-- What the loop of `noise_sigma` keeps, and the answer from the pass. Assumes nothing.
use mathlib.Core.Path.{◌≡◌, refl, sym, ap, ◌∙◌, subst}
use mathlib.Core.List.{List}
use Prim.Native.Nat.{ℕ, zero, suc, ◌+◌, ◌*◌, ◌≤◌, ◌<◌}
use native.Mathlib.Omega.{arith}
use native.Mathlib.Nat.{le_antisymm}
use native.Mathlib.Numerals.{add-one}
use lib.Dec.{ltb}
use Rattle.std.specs.Prelude.{Option, Result, Err}
use Rattle.numbers.specs.declared.Number.{Number}
use Rattle.numbers.specs.declared.Number.TheVariants.{Few}
use lib.ListN.{length, get_or, set}
use lib.Ieee.{Float}
use borrow.Author.Tests.{lt-ltb, le-ltb}
use Rattle.laws.specs.Lists.{from}
use Rattle.laws.proofs.Choice.{chosen, passed}
use Rattle.laws.proofs.Fill.{Tab, tab_put, tab_end}
use Rattle.rounds.specs.Rounds.{band, image_variance, Bands}
use Rattle.rounds.specs.declared.Settled.{Settled}
use Rattle.rounds.specs.declared.Found.{Found}
use Rattle.rounds.specs.declared.BandVariance.{BandVariance}
use Rattle.rounds.proofs.Bands.{length_part, within}
use Rattle.rounds.proofs.Bounds.{image_rounds, variance_rounds, variance_holds}
use Rattle.joining.specs.Joining.{band_at, founds, band_rounds, noise_under, noise, min_samples, sigma_of}
use Rattle.joining.specs.Windows.{windows_of, windows_in}
use Rattle.joining.specs.declared.Noise.{Noise}

-- ---- rounds and counts fit

pub rounds_few : (g o : List Float) (starts : List ℕ) (image : Float) (b : ℕ) → band_rounds g o starts image b ≤ 12 * b
rounds_few g o starts image zero = omega arith
rounds_few g o starts image (suc b) =
    omega (arith, rounds_few g o starts image b, variance_rounds (band g starts b) (band o starts b) image)

module _ {g o : List Float} {starts : List ℕ} (B : Bands g o starts) (image : Float) where
  -- a band admits no more windows than it has
  band_few : (b : ℕ) → b < 4 → get_or starts b 0 + windows_of (band_at g o starts image b).found ≤ get_or starts (b + 1) 0
  band_few b h =
      variance_holds (band g starts b) (band o starts b) image (λ (f : Option Found). get_or starts b 0 + windows_of f ≤ get_or starts (b + 1) 0)
      (omega (arith, B.rise b h))
      (λ n var l. omega (arith, l, B.rise b h, length_part g (get_or starts b 0) (get_or starts (b + 1) 0) (within B (b + 1) (omega arith))))

  counts_from : (n b : ℕ) → b + n ≡ 4 → get_or starts b 0 + windows_in (from (λ (i : ℕ). (band_at g o starts image i).found) b n) ≤ length g
  counts_from zero b h = omega (arith, within B b (omega arith))
  counts_from (suc n) b h =
      omega (arith, band_few b (omega arith), counts_from n (suc b) (omega arith), ap (λ (k : ℕ). get_or starts k 0) (add-one b))

  pub counts_few : windows_in (founds g o starts image) ≤ length g
  counts_few = omega (arith, counts_from 4 0 refl)

-- ---- b bands are done

pub record Gathered (g o : List Float) (starts : List ℕ) (var : Float) (first : ℕ) (bands : List (Option Found)) (r b : ℕ) : Type 0 where
  pub tab : Tab (λ (i : ℕ). (band_at g o starts var i).found) 4 b bands
  pub count : r ≡ first + band_rounds g o starts var b

module _ {g o : List Float} {starts : List ℕ} (image : Settled) (e : image ≡ image_variance g o starts) {bands : List (Option Found)} {r b : ℕ}
    (G : Gathered g o starts image.var image.rounds bands r b) where
  image_few : image.rounds ≤ 12
  image_few = subst (λ (s : Settled). s.rounds ≤ 12) (sym e) (image_rounds g o starts)

  pub gathered_room : b < 4 → {v : BandVariance} → v ≡ band_at g o starts image.var b → r + v.rounds ≤ 60
  gathered_room h {v} q =
      omega (
        arith,
        G.count,
        image_few,
        rounds_few g o starts image.var b,
        ap (λ (x : BandVariance). x.rounds) q,
        variance_rounds (band g starts b) (band o starts b) image.var,
      )

  pub gathered_more : b < 4 → {v : BandVariance} → v ≡ band_at g o starts image.var b → Gathered g o starts image.var image.rounds (set bands b v.found) (r + v.rounds) (b + 1)
  gathered_more h {v} q =
      record {
        tab = tab_put G.tab h (ap (λ (x : BandVariance). x.found) q);
        count = omega (arith, G.count, ap (λ (x : BandVariance). x.rounds) q, ap (band_rounds g o starts image.var) (add-one b));
      }

  gathered_bands : 4 ≤ b → bands ≡ founds g o starts image.var
  gathered_bands h = tab_end G.tab h

  pub gathered_few : Bands g o starts → 4 ≤ b → windows_in bands ≤ length g
  gathered_few B h = subst (λ (l : List (Option Found)). windows_in l ≤ length g) (sym (gathered_bands h)) (counts_few B image.var)

  pub gathered_end : min_samples ≤ length g → 4 ≤ b → {s : Result Float Number} → s ≡ sigma_of bands → ◌≡◌ {A = Noise} (record { sigma = s; rounds = r }) (noise g o starts)
  unfolding noise noise_under
  gathered_end l h {s} q =
      ap (λ (x : Result Float Number). with_sigma x) (q ∙ ap sigma_of (gathered_bands h))
      ∙ ap (λ (x : ℕ). with_rounds x) (G.count ∙ ap (λ (k : ℕ). image.rounds + band_rounds g o starts image.var k) (le_antisymm G.tab.low h))
      ∙ ap (noise_under g o starts) e
      ∙ passed (ltb (length g) min_samples) (record { sigma = Err Few; rounds = 0 }) (noise_under g o starts (image_variance g o starts)) (le-ltb (length g) min_samples l)
    where
      with_sigma : Result Float Number → Noise
      with_sigma x = record { sigma = x; rounds = r }

      with_rounds : ℕ → Noise
      with_rounds x = record { sigma = sigma_of (founds g o starts image.var); rounds = x }

pub noise_few : (g o : List Float) (starts : List ℕ) → length g < min_samples → ◌≡◌ {A = Noise} (record { sigma = Err Few; rounds = 0 }) (noise g o starts)
unfolding noise
noise_few g o starts h =
    chosen (ltb (length g) min_samples) (record { sigma = Err Few; rounds = 0 }) (noise_under g o starts (image_variance g o starts)) (lt-ltb (length g) min_samples h)
