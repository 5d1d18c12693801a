-- Counting by band: what is counted and what is still to count make up the whole; the counts add up to all windows. Assumes nothing.
use Rattle.std.proofs.Common.{Option, Some, None}
use mathlib.Core.Path.{◌≡◌, refl, ap, ◌∙◌, subst}
use mathlib.Core.Bool.{Bool, true, false, cond, ◌&&◌}
use mathlib.Core.List.{List, [], ◌∷◌}
use Prim.Native.Nat.{ℕ, zero, suc, ◌+◌, ◌-◌, ◌/◌, ◌≤◌, ◌<◌}
use native.Mathlib.Omega.{arith}
use borrow.Author.Tests.{leb-true, ltb-true, ltb-false}
use lib.Dec.{eqb, leb, ltb}
use mir.Val.{bool_byte}
use lib.ListN.{length, get_or, length-append}
use lib.IntN.{ℤ, pos, negsuc}
use Rattle.laws.specs.Lists.{from, joined}
use Rattle.laws.proofs.Fill.{from_more, from_none, length_from}
use Rattle.window.specs.declared.WindowStats.{WindowStats}
use Rattle.measure.specs.Columns.{figure_in, figures_in}
use Rattle.band.specs.Bands.{rail, band_of, kept_band, of_band, count_of, kept_of, sample_of}
use Rattle.band.specs.declared.Sample.{Sample}

pub count_cons : (b : ℕ) (f : WindowStats) (fs : List WindowStats) → count_of b (f ∷ fs) ≡ bool_byte (eqb (band_of f.sum) b) + count_of b fs
count_cons b f fs = go (eqb (band_of f.sum) b)
  where
    go : (t : Bool) → length (cond t (f ∷ of_band b fs) (of_band b fs)) ≡ bool_byte t + count_of b fs
    go true = omega arith
    go false = omega arith

byte_most : (t : Bool) → bool_byte t ≤ 1
byte_most true = omega arith
byte_most false = omega arith

pub count_most : (b : ℕ) (fs : List WindowStats) → count_of b fs ≤ length fs
count_most b [] = omega arith
count_most b (f ∷ fs) = omega (arith, count_cons b f fs, count_most b fs, byte_most (eqb (band_of f.sum) b))

-- ---- counts and rail make up all windows

pub band_most : (z : ℤ) → band_of z ≤ rail
unfolding band_of
band_most (pos n) = go (leb 192 n) (leb n 3888) refl
  where
    go : (s t : Bool) → leb n 3888 ≡ t → cond (s && t) (n / 1024) rail ≤ rail
    go true true e = omega (arith, leb-true n 3888 e)
    go true false e = omega arith
    go false t e = omega arith
band_most (negsuc n) = omega arith

-- a band that keeps its windows is one of four, and rail is the fifth
module _ (x : ℕ) where
  pub kept_some : (b : ℕ) → kept_band x ≡ Some b → (x ≡ b) × (b < rail)
  kept_some b = go (ltb x rail) refl
    where
      go : (v : Bool) → ltb x rail ≡ v → cond v (Some x) None ≡ Some b → (x ≡ b) × (b < rail)
      go true e q = let p : x ≡ b = cc in (p, subst (λ (n : ℕ). n < rail) p (ltb-true x rail e))
      go false e q = absurd (apart q)
        where
          apart : ◌≡◌ {A = Option ℕ} None (Some b) → ⊥
          apart q = cc

  pub kept_none : kept_band x ≡ None → rail ≤ x
  kept_none = go (ltb x rail) refl
    where
      go : (v : Bool) → ltb x rail ≡ v → cond v (Some x) None ≡ None → rail ≤ x
      go true e q = absurd (apart q)
        where
          apart : ◌≡◌ {A = Option ℕ} (Some x) None → ⊥
          apart q = cc
      go false e q = ltb-false x rail e

once : (n : ℕ) → n ≤ rail → bool_byte (eqb n 0) + bool_byte (eqb n 1) + bool_byte (eqb n 2) + bool_byte (eqb n 3) + bool_byte (eqb n rail) ≡ 1
once zero h = refl
once (suc zero) h = refl
once (suc (suc zero)) h = refl
once (suc (suc (suc zero))) h = refl
once (suc (suc (suc (suc zero)))) h = refl
once (suc (suc (suc (suc (suc n))))) h = absurd (none n h)
  where
    none : (n : ℕ) → suc (suc (suc (suc (suc n)))) ≤ 4 → ⊥
    none n h = omega arith

pub all_counted : (fs : List WindowStats) → count_of 0 fs + count_of 1 fs + count_of 2 fs + count_of 3 fs + count_of rail fs ≡ length fs
all_counted [] = refl
all_counted (f ∷ fs) =
    omega (
      arith,
      all_counted fs,
      once (band_of f.sum) (band_most f.sum),
      count_cons 0 f fs,
      count_cons 1 f fs,
      count_cons 2 f fs,
      count_cons 3 f fs,
      count_cons rail f fs,
    )

pub kept_sum : (fs : List WindowStats) → kept_of fs ≡ count_of 0 fs + count_of 1 fs + count_of 2 fs + count_of 3 fs
kept_sum fs =
    let band : ℕ → List WindowStats = λ b. of_band b fs in
    omega (arith, length-append (band 0) (joined band 1 3), length-append (band 1) (joined band 2 2), length-append (band 2) (joined band 3 1), length-append (band 3) [])

-- so no more are kept than there are
pub kept_most : (fs : List WindowStats) → kept_of fs ≤ length fs
kept_most fs = omega (arith, kept_sum fs, all_counted fs)

-- the fields of a sample that is counted
pub record Counts (s : Sample) (fs : List WindowStats) : Type 0 where
  pub c0 : s.b0 ≡ count_of 0 fs
  pub c1 : s.b1 ≡ count_of 1 fs
  pub c2 : s.b2 ≡ count_of 2 fs
  pub c3 : s.b3 ≡ count_of 3 fs
  pub c4 : s.rail ≡ count_of rail fs

pub counts : (s : Sample) (fs : List WindowStats) → s ≡ sample_of fs → Counts s fs
unfolding sample_of
counts s fs e =
    record {
      c0 = ap (λ (r : Sample). r.b0) e;
      c1 = ap (λ (r : Sample). r.b1) e;
      c2 = ap (λ (r : Sample). r.b2) e;
      c3 = ap (λ (r : Sample). r.b3) e;
      c4 = ap (λ (r : Sample). r.rail) e;
    }

-- ---- the loop that counts: n of band b are found in the first k of t windows

pub record Counted (b t : ℕ) (l : List ℤ) (n k : ℕ) : Type 0 where
  pub left : n + count_of b (from (figure_in t l) k (t - k)) ≡ count_of b (figures_in t l)

next : (b t : ℕ) (l : List ℤ) (k : ℕ) → k < t
    → count_of b (from (figure_in t l) k (t - k)) ≡ bool_byte (eqb (band_of (get_or l k (pos 0))) b) + count_of b (from (figure_in t l) (k + 1) (t - (k + 1)))
next b t l k h = ap (count_of b) (from_more (figure_in t l) k t h) ∙ count_cons b (figure_in t l k) (from (figure_in t l) (k + 1) (t - (k + 1)))

module _ {b t : ℕ} {l : List ℤ} where
  pub count_start : Counted b t l 0 0
  unfolding figures_in
  count_start = record { left = omega (arith, ap (λ (n : ℕ). count_of b (from (figure_in t l) 0 n)) (whole t)) }
    where
      whole : (n : ℕ) → n - 0 ≡ n
      whole n = omega arith

  pub count_turn : {n k : ℕ} (r : ℕ) → Counted b t l n k → k < t → r ≡ bool_byte (eqb (band_of (get_or l k (pos 0))) b) → Counted b t l (n + r) (k + 1)
  count_turn {n} {k} r i h e = record { left = omega (arith, i.left, next b t l k h) }

  pub count_end : {n k : ℕ} → Counted b t l n k → t ≤ k → n ≡ count_of b (figures_in t l)
  count_end {n} {k} i h = omega (arith, i.left, ap (count_of b) (from_none (figure_in t l) k t h))

  -- a count is at most t
  pub count_low : {n k : ℕ} → Counted b t l n k → n ≤ t
  unfolding figures_in
  count_low i = omega (arith, i.left, count_most b (figures_in t l), length_from (figure_in t l) 0 t)
