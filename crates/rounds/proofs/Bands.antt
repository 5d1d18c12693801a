-- A band's variance, and what the bands of the image admit. Assumes nothing.
use mathlib.Core.Path.{◌≡◌, sym, ap, ◌∙◌, subst}
use mathlib.Core.Bool.{Bool, true, false, cond, not, ◌&&◌}
use mathlib.Core.List.{List}
use Prim.Native.Nat.{ℕ, zero, suc, ◌+◌, ◌-◌, ◌≤◌, ◌<◌, min}
use native.Mathlib.Omega.{arith}
use native.Mathlib.Numerals.{add-one}
use lib.Dec.{ltb}
use Rattle.std.specs.Prelude.{Option, Some, None}
use lib.ListN.{length, get_or, drop, length-take, length-drop}
use lib.Ieee.{Float, binary64, add, mul, lt}
use borrow.Author.Tests.{lt-ltb, lt-leb, le-leb}
use Rattle.ieee.specs.Order.{larger}
use Rattle.laws.proofs.Choice.{chosen}
use Rattle.sums.specs.Numbers.{rounding_op_var}
use Rattle.rounds.specs.Numbers.{max_band_ratio}
use Rattle.sums.specs.Start.{start}
use Rattle.rounds.specs.Rounds.{settle, band_total, min_band_samples, found_at, judged_band, band_by, band_variance, part, band, Bands, bands_total}
use Rattle.sums.specs.declared.Total.{Total}
use Rattle.rounds.specs.declared.Settled.{Settled}
use Rattle.rounds.specs.declared.Found.{Found}
use Rattle.rounds.specs.declared.BandVariance.{BandVariance}
use Rattle.sums.proofs.Sums.{admitted_few}

-- ---- whether a variance counts

module _ (s : Settled) (image : Float) where
  abbrev found : Option Found
  found = Some (found_at s.n s.var)

  pub judged_few : s.n < min_band_samples → None ≡ judged_band s image
  unfolding judged_band
  judged_few h =
      sym (ap (λ (x : Bool). cond (x && not (lt (mul binary64 max_band_ratio (larger image rounding_op_var)) s.var)) found None) (lt-leb min_band_samples s.n h))

  module _ (h : min_band_samples ≤ s.n) {m : Float} (e : m ≡ larger image rounding_op_var) where
    pub by_ratio : cond (not (lt (mul binary64 max_band_ratio m) s.var)) found None ≡ judged_band s image
    unfolding judged_band
    by_ratio =
        ap (λ (x : Float). cond (not (lt (mul binary64 max_band_ratio x) s.var)) found None) e
        ∙ sym (ap (λ (x : Bool). cond (x && not (lt (mul binary64 max_band_ratio (larger image rounding_op_var)) s.var)) found None) (le-leb min_band_samples s.n h))

    pub judged_high : lt (mul binary64 max_band_ratio m) s.var ≡ true → None ≡ judged_band s image
    judged_high t = sym (ap (λ (x : Bool). cond (not x) found None) t) ∙ by_ratio

    pub judged_good : lt (mul binary64 max_band_ratio m) s.var ≡ false → found ≡ judged_band s image
    judged_good t = sym (ap (λ (x : Bool). cond (not x) found None) t) ∙ by_ratio

abbrev none : BandVariance
none = record { found = None; rounds = 0 }

module _ (g o : List Float) (image : Float) where
  abbrev by_rounds : BandVariance
  by_rounds = band_by (settle (band_total g o) (start g o)) image

  pub variance_few : length g < min_band_samples → none ≡ band_variance g o image
  unfolding band_variance
  variance_few h = chosen (ltb (length g) min_band_samples) none by_rounds (lt-ltb (length g) min_band_samples h)

-- ---- parts

pub length_part : (l : List Float) (a e : ℕ) → e ≤ length l → length (part l a e) ≡ e - a
length_part l a e h = length-take (e - a) (drop a l) ∙ go (length (drop a l)) (length-drop a l)
  where
    go : (x : ℕ) → x ≡ length l - a → min (e - a) x ≡ e - a
    go x p = omega arith

part_few : (g o : List Float) (a e : ℕ) (var : Float) → e ≤ length g → (band_total (part g a e) (part o a e) var).n ≤ e - a
part_few g o a e var h = omega (arith, admitted_few (part g a e) (part o a e) var var, length_part g a e h)

module _ {g o : List Float} {starts : List ℕ} (B : Bands g o starts) where
  -- each band lies within
  within_from : (d b : ℕ) → b + d ≡ 4 → get_or starts b 0 ≤ length g
  within_from zero b h = subst (λ (k : ℕ). get_or starts k 0 ≤ length g) (last b h) B.last
    where
      last : (b : ℕ) → b + 0 ≡ 4 → 4 ≡ b
      last b h = omega arith
  within_from (suc d) b h = omega (arith, B.rise b (omega arith), within_from d (b + 1) (omega arith))

  pub within : (b : ℕ) → b ≤ 4 → get_or starts b 0 ≤ length g
  within b h = within_from (4 - b) b (omega arith)

  bands_few : (var : Float) (b : ℕ) → b ≤ 4 → (bands_total g o starts var b).n ≤ get_or starts b 0
  bands_few var zero h = omega arith
  bands_few var (suc b) h =
      omega (
        arith,
        bands_few var b (omega arith),
        B.rise b (omega arith),
        ap (λ (k : ℕ). get_or starts k 0) (add-one b),
        part_few g o (get_or starts b 0) (get_or starts (b + 1) 0) var (within (b + 1) (omega arith)),
      )

-- ---- image_admitted: b bands are done

pub record Joined (g o : List Float) (starts : List ℕ) (var : Float) (s : Float) (n b : ℕ) : Type 0 where
  pub low : b ≤ 4
  pub sum : s ≡ (bands_total g o starts var b).sum
  pub count : n ≡ (bands_total g o starts var b).n

module _ {g o : List Float} {starts : List ℕ} {var s : Float} {n b : ℕ} (j : Joined g o starts var s n b) where
  abbrev pub next_band : Total
  next_band = band_total (band g starts b) (band o starts b) var

  pub joined_more : b < 4 → {k : Total} → k ≡ next_band → Joined g o starts var (add binary64 s k.sum) (n + k.n) (b + 1)
  joined_more h {k} e =
      record {
        low = omega arith;
        sum = ap (λ (x : Float). add binary64 x k.sum) j.sum ∙ ap (λ (x : Total). add binary64 (bands_total g o starts var b).sum x.sum) e
            ∙ sym (ap (λ (x : ℕ). (bands_total g o starts var x).sum) (add-one b));
        count = ap (λ (x : ℕ). x + k.n) j.count ∙ ap (λ (x : Total). (bands_total g o starts var b).n + x.n) e
            ∙ sym (ap (λ (x : ℕ). (bands_total g o starts var x).n) (add-one b));
      }

  -- the count fits
  pub joined_few : Bands g o starts → b < 4 → {k : Total} → k ≡ next_band → n + k.n ≤ length g
  joined_few B h {k} e =
      omega (arith, (joined_more h e).count, bands_few B var (b + 1) (omega arith), within B (b + 1) (omega arith))
