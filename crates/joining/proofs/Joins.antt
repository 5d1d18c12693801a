-- What the loops over the bands keep, and the answer by its stages. Assumes nothing.
use mathlib.Core.Path.{◌≡◌, sym, ap, ◌∙◌}
use mathlib.Core.Bool.{Bool, true, false, cond}
use mathlib.Core.List.{List, [], ◌∷◌, ◌++◌}
use Prim.Native.Nat.{ℕ, ◌+◌, ◌-◌, ◌/◌, ◌%◌, ◌≤◌, ◌<◌}
use native.Mathlib.Omega.{arith}
use lib.Dec.{eqb}
use Rattle.std.specs.Prelude.{Option, Some, None, Result, Ok, Err}
use Rattle.std.specs.Option.{ok_or}
use Rattle.numbers.specs.declared.Number.{Number}
use Rattle.numbers.specs.declared.Number.TheVariants.{NoBand}
use lib.ListN.{length, get_or, take, drop, replicate, drop_of_length-le}
use lib.Seq.{drop-cons}
use Rattle.std.proofs.Common.{suc, add-one, add-zero, zero-add}
use lib.Ieee.{Float, nan, binary64, add, mul, le}
use borrow.Author.Tests.{eq-eqb, ne_eqb}
use Rattle.laws.proofs.Choice.{chosen, passed, cond_both}
use Rattle.quantile.specs.Rising.{at, inserted, rising}
use Rattle.quantile.proofs.Inserting.{Held, held_start, held_more}
use Rattle.sums.specs.Admitted.{no_total}
use Rattle.sums.specs.declared.Total.{Total}
use Rattle.rounds.specs.declared.Found.{Found}
use Rattle.joining.specs.Numbers.{half}
use Rattle.joining.specs.Joining.{variance_of, variances, median_in, median, outlier_limit, with_band, with_found, join_from, joined_bands, sigma_of_total, sigma_of}
use Rattle.joining.specs.Windows.{windows_of, windows_in}

-- ---- the variances that there are

-- after b bands n of those have a variance, which `least` holds
pub record Collected (bands : List (Option Found)) (least : List Float) (n b : ℕ) : Type 0 where
  pub few : n ≤ b
  pub count : length (variances bands) ≡ n + length (variances (drop b bands))
  pub rest : (i : ℕ) → at (variances bands) (n + i) ≡ at (variances (drop b bands)) i
  pub held : Held 4 (at (variances bands)) (length (variances bands)) n least

pub collected_start : (bands : List (Option Found)) (x : Float) → x ≡ nan → Collected bands (replicate 4 x) 0 0
collected_start bands x e =
    record {
      few = omega arith;
      count = sym (zero-add (length (variances bands)));
      rest = λ i. ap (at (variances bands)) (zero-add i);
      held = held_start 4 (at (variances bands)) (length (variances bands)) x e;
    }

module _ {bands : List (Option Found)} {least : List Float} {n b : ℕ} (C : Collected bands least n b) (h : b < length bands) where
  -- the bands that are left
  left : (f : Option Found) → get_or bands b None ≡ f → variances (drop b bands) ≡ variance_of f ++ variances (drop (b + 1) bands)
  left f e = ap variances (drop-cons bands b None h ∙ ap (λ (x : Option Found). x ∷ drop (suc b) bands) e ∙ sym (ap (λ (k : ℕ). f ∷ drop k bands) (add-one b)))

  pub collected_none : get_or bands b None ≡ None → Collected bands least n (b + 1)
  collected_none e =
      let same = left None e in
      record {
        few = omega (arith, C.few);
        count = C.count ∙ ap (λ (l : List Float). n + length l) same;
        rest = λ i. C.rest i ∙ ap (λ (l : List Float). at l i) same;
        held = C.held;
      }

  pub collected_some : (f : Found) → get_or bands b None ≡ Some f → {least' : List Float} → least' ≡ take 4 (inserted f.var least) → Collected bands least' (n + 1) (b + 1)
  collected_some f e {least'} q =
      let same = left (Some f) e in
      record {
        few = omega (arith, C.few);
        count = C.count ∙ ap (λ (l : List Float). n + length l) same ∙ over n (length (variances (drop (b + 1) bands)));
        rest = λ i. ap (at (variances bands)) (sym (over n i)) ∙ C.rest (suc i) ∙ ap (λ (l : List Float). at l (suc i)) same;
        held = held_more C.held (omega (arith, C.count, ap length same)) (sym (sym (ap (at (variances bands)) (add-zero n)) ∙ C.rest 0 ∙ ap (λ (l : List Float). at l 0) same)) q;
      }
    where
      over : (a c : ℕ) → a + suc c ≡ a + 1 + c
      over a c = omega arith

pub collected_end : {bands : List (Option Found)} {least : List Float} {n b : ℕ} → Collected bands least n b → length bands ≤ b → n ≡ length (variances bands)
collected_end {bands} {least} {n} {b} C h =
    sym (add-zero n) ∙ ap (λ (l : List (Option Found)). n + length (variances l)) (sym (drop_of_length-le bands {i = b} h)) ∙ sym C.count

-- ---- the median

abbrev two : List Float → ℕ → Float
two l n = mul binary64 half (add binary64 (at l (n / 2 - 1)) (at l (n / 2)))

module _ (vars l : List Float) (n : ℕ) (few : n ≤ 4) (all : n ≡ length vars) (held : Held 4 (at vars) (length vars) n l) where
  in_order : median_in (rising (at vars) n) n ≡ median vars
  unfolding median
  in_order = ap (λ (k : ℕ). median_in (rising (at vars) k) k) all

  pub median_odd : n % 2 ≡ 1 → at l (n / 2) ≡ median vars
  median_odd o =
      held.same (n / 2) (omega arith) ∙ chosen (eqb (n % 2) 1) (at (rising (at vars) n) (n / 2)) (two (rising (at vars) n) n) (eq-eqb (n % 2) 1 o) ∙ in_order

  pub median_even : 0 < n → (n % 2 ≡ 1 → ⊥) → two l n ≡ median vars
  median_even z o =
      ap (λ (x : Float). mul binary64 half (add binary64 x (at l (n / 2)))) (held.same (n / 2 - 1) (omega arith))
      ∙ ap (λ (x : Float). mul binary64 half (add binary64 (at (rising (at vars) n) (n / 2 - 1)) x)) (held.same (n / 2) (omega arith))
      ∙ passed (eqb (n % 2) 1) (at (rising (at vars) n) (n / 2)) (two (rising (at vars) n) n) (ne_eqb (n % 2) 1 o) ∙ in_order

-- what `median` answers where there are some
pub median_some : (vars : List Float) {n : ℕ} → n ≡ length vars → 0 < n → {x : Float} → x ≡ median vars
    → Some x ≡ cond (eqb (length vars) 0) None (Some (median vars))
median_some vars e z q = ap Some q ∙ passed (eqb (length vars) 0) None (Some (median vars)) (ne_eqb (length vars) 0 (λ y. omega (arith, e)))

-- ---- the bands that are joined

found_few : (limit : Float) (k : Total) (f : Option Found) → (with_found limit k f).n ≤ k.n + windows_of f
found_few limit k (Some f) = cond_both (λ (x : Total). x.n ≤ k.n + f.n) (le f.var limit) (with_band k f.n f.var) k (omega arith) (omega arith)
found_few limit k None = omega arith

-- no more windows are joined than the bands admit
pub join_few : (limit : Float) (k : Total) (bands : List (Option Found)) → (join_from limit k bands).n ≤ k.n + windows_in bands
join_few limit k [] = omega arith
join_few limit k (f ∷ bands) = omega (arith, found_few limit k f, join_few limit (with_found limit k f) bands)

pub record Joining (limit : Float) (bands : List (Option Found)) (k : Total) (b : ℕ) : Type 0 where
  pub low : b ≤ 4
  pub few : k.n + windows_in (drop b bands) ≤ windows_in bands
  pub left : join_from limit k (drop b bands) ≡ join_from limit no_total bands

-- ---- the answer

module _ (bands : List (Option Found)) where
  -- what `median` answers, and NoBand where it has none
  abbrev pub median_or : Result Float Number
  median_or = ok_or (cond (eqb (length (variances bands)) 0) None (Some (median (variances bands)))) NoBand

  pub sigma_none : {why : Number} → median_or ≡ Err why → Err why ≡ sigma_of bands
  unfolding sigma_of
  sigma_none {why} h = go (eqb (length (variances bands)) 0) h
    where
      go : (none : Bool) → ok_or (cond none None (Some (median (variances bands)))) NoBand ≡ Err why → Err why ≡ cond none (Err NoBand) (sigma_of_total (joined_bands bands))
      go true h = sym h
      go false h = absurd (cc)

  pub sigma_is : {m : Float} → median_or ≡ Ok m → {limit : Float} → limit ≡ outlier_limit m → {k : Total} → k ≡ join_from limit no_total bands
      → {s : Result Float Number} → s ≡ sigma_of_total k → s ≡ sigma_of bands
  unfolding sigma_of joined_bands
  sigma_is {m} h {limit} q {k} r {s} t = t ∙ ap sigma_of_total (r ∙ ap (λ (x : Float). join_from x no_total bands) q) ∙ go (eqb (length (variances bands)) 0) h
    where
      same : (x : Float) → ◌≡◌ {A = Result Float Number} (Ok x) (Ok m) → m ≡ x
      same x e = cc

      go : (none : Bool) → ok_or (cond none None (Some (median (variances bands)))) NoBand ≡ Ok m
          → sigma_of_total (join_from (outlier_limit m) no_total bands) ≡ cond none (Err NoBand) (sigma_of_total (joined_bands bands))
      go true h = absurd (cc)
      go false h = ap (λ (x : Float). sigma_of_total (join_from (outlier_limit x) no_total bands)) (same (median (variances bands)) h)
