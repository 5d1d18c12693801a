-- A NaN in a cell is a NaN in the sum of its squares, so the covariance is refused. Assumes nothing.
use mathlib.Core.Path.{◌≡◌, refl, sym, ap, ◌∙◌, subst}
use mathlib.Core.Bool.{Bool, true, false, not, cond, ◌&&◌, false≢true}
use mathlib.Core.Logic.{◌⊎◌, inl, inr}
use mathlib.Core.List.{List}
use Prim.Native.Nat.{ℕ, zero, suc, ◌+◌, ◌*◌, ◌/◌, ◌%◌, ◌-◌, ◌<◌, ◌≤◌}
use native.Mathlib.Nat.{le_antisymm}
use native.Mathlib.Omega.{arith}
use lib.Dec.{T}
use lib.ListN.{length, get_or}
use lib.Ieee
use lib.Ieee.{Float, nan, inf, fin, binary32, binary64, is_nan}
use Rattle.ieee.specs.Convert.{convert}
use Rattle.ieee.specs.Order.{finite}
use Rattle.ieee.proofs.Naturals.{le_or_lt}
use Rattle.refine.specs.Covariance.{covariance, judged}
use Rattle.std.specs.Prelude.{Result, Ok, Err}
use Rattle.std.proofs.Math.Bool.{and-false}
use Rattle.std.proofs.lemmas.Bool.{or_parts, or_cases}
use Rattle.numbers.specs.declared.Number.{Number}
use Rattle.numbers.specs.declared.Number.TheVariants.{NotFinite}
use Rattle.refine.specs.declared.PositionCovariance.{PositionCovariance}
use Rattle.ieee.specs.Numbers.{plus_zero}
use Rattle.gram.specs.Gram.{product, along, partial, product_sum, gram}
use Rattle.gram.specs.Loops.{any_nan}

-- ---- what the test of the cells tells
nan_is : (x : Float) → is_nan x ≡ true → x ≡ nan
unfolding is_nan
nan_is nan h = refl
nan_is (inf s) h = absurd (false≢true h)
nan_is (fin s m e) h = absurd (false≢true h)

no_nan : (x : Float) → is_nan x ≡ false → T (not (is_nan x))
no_nan x h = subst (λ (b : Bool). T (not b)) (sym h) tt

abbrev pub Numbers : List Float → List Float → ℕ → Type 0
Numbers gx gy i = T (not (is_nan (get_or gx i nan))) × T (not (is_nan (get_or gy i nan)))

pub plain_cells : (gx gy : List Float) (n i : ℕ) → any_nan gx gy n ≡ false → i < n → Numbers gx gy i
plain_cells gx gy zero i h l = absurd (omega (arith, l))
plain_cells gx gy (suc n) i h l = elim (le_or_lt n i) [ inl k ↦ last k | inr k ↦ plain_cells gx gy n i (or_parts (any_nan gx gy n) _ h).0 k ]
  where
    last : n ≤ i → Numbers gx gy i
    last k =
        let q = or_parts (is_nan (get_or gx n nan)) _ (or_parts (any_nan gx gy n) _ h).1 in
        subst (λ (j : ℕ). Numbers gx gy j) (le_antisymm k (omega (arith, l))) (no_nan _ q.0, no_nan _ q.1)

record NanIn (a : List Float) : Type 0 where
  place : ℕ
  inside : place < length a
  there : get_or a place nan ≡ nan

found : (gx gy : List Float) (n : ℕ) → n ≤ length gx → n ≤ length gy → any_nan gx gy n ≡ true → NanIn gx ⊎ NanIn gy
found gx gy zero l m h = absurd (false≢true h)
found gx gy (suc n) l m h =
    elim (or_cases (any_nan gx gy n) _ h)
    [ inl p ↦ found gx gy n (omega (arith, l)) (omega (arith, m)) p | inr p ↦ last (or_cases (is_nan (get_or gx n nan)) _ p) ]
  where
    last : (is_nan (get_or gx n nan) ≡ true) ⊎ (is_nan (get_or gy n nan) ≡ true) → NanIn gx ⊎ NanIn gy
    last (inl q) = inl (record { place = n; inside = omega (arith, l); there = nan_is _ q })
    last (inr q) = inr (record { place = n; inside = omega (arith, m); there = nan_is _ q })

-- ---- a NaN stays
nan_left : {x : Float} (y : Float) → x ≡ nan → Ieee.add binary64 x y ≡ nan
unfolding Ieee.add
nan_left y e = ap (λ (x : Float). Ieee.add binary64 x y) e

nan_second : (x : Float) → Ieee.add binary64 x nan ≡ nan
unfolding Ieee.add
nan_second nan = refl
nan_second (inf s) = refl
nan_second (fin s m e) = refl

nan_right : (x : Float) {y : Float} → y ≡ nan → Ieee.add binary64 x y ≡ nan
nan_right x e = ap (λ (y : Float). Ieee.add binary64 x y) e ∙ nan_second x

nan_square : {x : Float} → x ≡ nan → Ieee.mul binary64 x x ≡ nan
unfolding Ieee.mul
nan_square e = ap (λ (x : Float). Ieee.mul binary64 x x) e

nan_rounded : {x : Float} → x ≡ nan → convert binary32 x ≡ nan
unfolding convert
nan_rounded e = ap (λ (x : Float). convert binary32 x) e

module _ (a : List Float) where
  along_from : (step k n : ℕ) {s : Float} → s ≡ nan → along a a step k s n ≡ nan
  along_from step k zero e = e
  along_from step k (suc n) e = nan_left (product a a (n * step + k)) (along_from step k n e)

  along_met : (step k : ℕ) (s : Float) (n j : ℕ) → j < n → product a a (j * step + k) ≡ nan → along a a step k s n ≡ nan
  along_met step k s zero j l e = absurd (omega (arith, l))
  along_met step k s (suc n) j l e =
      elim (le_or_lt n j) [
        | inl m ↦ nan_right (along a a step k s n) (ap (λ (i : ℕ). product a a (i * step + k)) (le_antisymm m (omega (arith, l))) ∙ e)
        | inr m ↦ nan_left (product a a (n * step + k)) (along_met step k s n j m e)
      ]

  product_sum_nan : NanIn a → product_sum a a ≡ nan
  unfolding product_sum
  product_sum_nan w = elim (le_or_lt (m * 4) i) [ inl h ↦ in_rest (rest h) | inr h ↦ in_fours (i % 4) (omega arith) refl h ]
    where
      i : ℕ
      i = w.place

      m : ℕ
      m = length a / 4

      at : {j : ℕ} → i ≡ j → product a a j ≡ nan
      at e = sym (ap (λ (j : ℕ). product a a j) e) ∙ nan_square w.there

      p0 : Float
      p0 = along a a 1 (m * 4) (partial a a 0 m) (length a % 4)

      rest : m * 4 ≤ i → p0 ≡ nan
      rest h = along_met 1 (m * 4) (partial a a 0 m) (length a % 4) (i - m * 4) (omega (arith, h, w.inside)) (at (omega (arith, h)))

      in_rest : p0 ≡ nan → product_sum a a ≡ nan
      in_rest e = nan_rounded (nan_left _ (nan_left _ e))

      in_partial : (l : ℕ) → i % 4 ≡ l → i < m * 4 → partial a a l m ≡ nan
      in_partial l e h = along_met 4 l plus_zero m (i / 4) (omega (arith, h)) (at (omega (arith, e)))

      in_fours : (l : ℕ) → l < 4 → i % 4 ≡ l → i < m * 4 → product_sum a a ≡ nan
      in_fours zero b e h = in_rest (along_from 1 (m * 4) (length a % 4) (in_partial 0 e h))
      in_fours (suc zero) b e h = nan_rounded (nan_left _ (nan_right _ (in_partial 1 e h)))
      in_fours (suc (suc zero)) b e h = nan_rounded (nan_right _ (nan_left _ (in_partial 2 e h)))
      in_fours (suc (suc (suc zero))) b e h = nan_rounded (nan_right _ (nan_right _ (in_partial 3 e h)))
      in_fours (suc (suc (suc (suc l)))) b e h = absurd (omega (arith, b))

pub refused : (gx gy : List Float) → length gx ≡ length gy → any_nan gx gy (length gx) ≡ true → Err NotFinite ≡ judged (gram gx gy)
unfolding finite
refused gx gy e h = go (found gx gy (length gx) (omega arith) (omega (arith, e)) h)
  where
    go : NanIn gx ⊎ NanIn gy → Err NotFinite ≡ judged (gram gx gy)
    go (inl w) = sym (ap (λ (x : Float). judged (covariance x (product_sum gx gy) (product_sum gy gy))) (product_sum_nan gx w))
    go (inr w) =
        sym
        (ap (λ (x : Float). judged (covariance (product_sum gx gx) (product_sum gx gy) x)) (product_sum_nan gy w)
        ∙ ap (λ (b : Bool). cond {A = Result PositionCovariance Number} b (Ok (covariance (product_sum gx gx) (product_sum gx gy) nan)) (Err NotFinite)) (and-false (finite (product_sum gx gx) && finite (product_sum gx gy))))
