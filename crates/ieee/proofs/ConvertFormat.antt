-- `convert` is IEEE 754-2019's convertFormat (section 5.4.2): a finite number's exact value is rounded by roundTiesToEven (`convert_rounds`), and nothing else is what that asks (`convert_only`).
-- So the value of the format nearest to it, with its sign, and an infinity from 2 ^ emax * (2 - 2 ^ -prec) on; a value that the format holds stays (`convert_same`), as zeros, infinities and NaN do.
use mathlib.Core.Path.{◌≡◌, refl, sym, ap, ◌∙◌, subst}
use mathlib.Core.Logic.{inl, inr}
use mathlib.Core.Bool.{Bool, not}
use Prim.Native.Nat.{ℕ, suc, ◌+◌, ◌-◌, ◌*◌, ◌/◌, ◌%◌, ◌^◌, ◌≤◌, ◌<◌, compare}
use native.Mathlib.Nat.{le_trans, le_of_eq, not-le_of_lt, mul_assoc, mul_comm, mul-pos, div-mul-le_self, div-lt_iff_lt-mul, le-div_iff_mul-le, div-div-eq-div-mul, div-add-mod'}
use native.Mathlib.Omega.{arith}
use lib.Dec.{T}
use lib.IntN.{ℤ, pos}
use lib.Pow.{pow-add, pow_pos}
use lib.Ieee.{Float, nan, inf, fin, Format, prec, emax, low, hid, up, down, size, round, fits, neg, is_nan}
use lib.Ieee.Fits.{down_pos, kept-lt, round_is, round-fits, nan-fits, inf-fits}
use lib.Ieee.Scale.{round_same}
use lib.Ieee.Exact.{HasValue, round_exact}
use Rattle.ieee.specs.Convert.{convert}
use Rattle.ieee.specs.Rounding.{fraction, RoundTiesToEven}
use Rattle.ieee.proofs.Naturals.{trichotomy, compare_lt, compare_eq, compare_gt}
use Rattle.ieee.proofs.Values.{finite_fin, rescale}
use Rattle.ieee.proofs.Units.{Lead, leads, round_plain, round_neg}
use Rattle.ieee.proofs.Grid.{on_grid, same_value, value_small}
use Rattle.ieee.proofs.RoundsToEven.{Half, Cut, rounds, only}

-- ---- how `round` cuts num / den
module _ (f : Format) (num den : ℕ) (D : 0 < den) where
  abbrev n : ℕ
  n = num * 2 ^ low f

  abbrev k : ℕ
  k = size (n / den) - prec f

  abbrev u : ℕ
  u = den * 2 ^ k

  abbrev q : ℕ
  q = n / u

  U : 0 < u
  U = mul-pos D (pow_pos k)

  times : (x : ℕ) → x * 2 ^ k * den ≡ x * u
  times x = mul_assoc x (2 ^ k) den ∙ ap (λ (y : ℕ). x * y) (mul_comm (2 ^ k) den)

  q_leads : Lead f q k
  q_leads = leads f (n / den) q (λ h. (le-div_iff_mul-le U).1 (le_trans (le_of_eq (sym (times (hid f)))) ((le-div_iff_mul-le D).0 h)))

  twice_den : (2 * q + 1) * 2 ^ k * den ≡ (2 * q + 1) * u
  twice_den = times (2 * q + 1)

  twice_num : num * (2 ^ low f * 2) ≡ n * 2
  twice_num = sym (mul_assoc num (2 ^ low f) 2)

  split : n ≡ q * u + n % u
  split = sym (div-add-mod' n u)

  -- the rest against half a unit
  halves : Half (compare (n % u * 2) u) (fraction num den) ((2 * q + 1) * 2 ^ k) (2 ^ low f * 2)
  halves = elim (trichotomy (n % u * 2) u) [
    | inl l ↦ rw (compare_lt (n % u * 2) u l) (λ h. short q u n (n % u) split l (rw (twice_den, twice_num) at h))
    | inr (inl e) ↦ rw (compare_eq (n % u * 2) u e, twice_den, twice_num) (le_of_eq (same q u n (n % u) split e), le_of_eq (sym (same q u n (n % u) split e)))
    | inr (inr g) ↦ rw (compare_gt (n % u * 2) u g) (λ h. long q u n (n % u) split g (rw (twice_den, twice_num) at h))
  ]
    where
      short : (q u n r : ℕ) → n ≡ q * u + r → r * 2 < u → (2 * q + 1) * u ≤ n * 2 → ⊥
      short q u n r e l h = omega arith

      same : (q u n r : ℕ) → n ≡ q * u + r → r * 2 ≡ u → (2 * q + 1) * u ≡ n * 2
      same q u n r e l = omega arith

      long : (q u n r : ℕ) → n ≡ q * u + r → u < r * 2 → n * 2 ≤ (2 * q + 1) * u → ⊥
      long q u n r e l h = omega arith

  round_cut : Cut f (fraction num den) q k (compare (n % u * 2) u)
  round_cut = record {
    few = subst (λ (x : ℕ). x < 2 ^ prec f) (div-div-eq-div-mul n den (2 ^ k)) (kept-lt (prec f) (n / den));
    lead = q_leads;
    lo = le_trans (le_of_eq (times q)) (div-mul-le_self n u);
    hi = λ h. not-le_of_lt ((div-lt_iff_lt-mul U).0 (next q)) (le_trans (le_of_eq (sym (times (suc q)))) h);
    half = halves;
  }
    where
      next : (q : ℕ) → q < suc q
      next q = omega arith

  pub round_rounds : (s : Bool) → RoundTiesToEven f s (fraction num den) (round f s num den)
  round_rounds s = subst (λ (r : Float). RoundTiesToEven f s (fraction num den) r) (sym (round_is f s num den)) (rounds f (fraction num den) D q k (compare (n % u * 2) u) round_cut s)

  pub round_only : (s : Bool) (y : Float) → RoundTiesToEven f s (fraction num den) y → y ≡ round f s num den
  round_only s y A = only f (fraction num den) D q k (compare (n % u * 2) u) round_cut s y A ∙ sym (round_is f s num den)

-- ---- a value that the format holds
pub exact : (f : Format) (s : Bool) (m : ℕ) (e : ℤ) → T (fits f (fin s m e)) → round f s (m * up e) (down e) ≡ fin s m e
exact f s m e F =
    let p = on_grid f (fin s m e) F (finite_fin s m e) in
    let v : m * up e * 2 ^ low f ≡ p.size * down e = p.value.1 in
    let r : HasValue (round f s (m * up e) (down e)) s (m * up e) (down e) =
    round_exact f s (m * up e) (down e) p.grid.0 p.grid.1 (down_pos e) p.grid.2 (subst (λ (x : ℕ). x < 2 ^ (low f + suc (emax f))) p.grid.3 (subst (λ (x : ℕ). p.size < x) (mul_comm (2 ^ suc (emax f)) (2 ^ low f) ∙ sym (pow-add 2 (low f) (suc (emax f)))) (value_small f (fin s m e) s p.size (2 ^ low f) (pow_pos (low f)) F (refl, v)))) (v ∙ ap (λ (x : ℕ). x * down e) p.grid.3) in
    same_value f (round f s (m * up e) (down e)) (fin s m e) s p.size (round-fits f s (m * up e) (down e)) F (rescale (round f s (m * up e) (down e)) s (m * up e) (down e) p.size (2 ^ low f) (down_pos e) (sym v) r) (refl, v)

zero_fits : (f : Format) (s : Bool) → T (fits f (fin s 0 (pos 0)))
unfolding fits
zero_fits f s = tt

-- ---- convertFormat
module _ (f : Format) where
  pub convert_rounds : (s : Bool) (m : ℕ) (e : ℤ) → RoundTiesToEven f s (fraction (m * up e) (down e)) (convert f (fin s m e))
  unfolding convert
  convert_rounds s m e = round_rounds f (m * up e) (down e) (down_pos e) s

  pub convert_only : (s : Bool) (m : ℕ) (e : ℤ) (y : Float) → RoundTiesToEven f s (fraction (m * up e) (down e)) y → y ≡ convert f (fin s m e)
  unfolding convert
  convert_only s m e y A = round_only f (m * up e) (down e) (down_pos e) s y A

  -- what the format holds comes back unchanged
  pub convert_same : (x : Float) → T (fits f x) → convert f x ≡ x
  unfolding convert
  convert_same nan F = refl
  convert_same (inf s) F = refl
  convert_same (fin s m e) F = exact f s m e F

  pub convert_nan : convert f nan ≡ nan
  unfolding convert
  convert_nan = refl

  pub convert_inf : (s : Bool) → convert f (inf s) ≡ inf s
  unfolding convert
  convert_inf s = refl

  pub convert_zero : (s : Bool) → convert f (fin s 0 (pos 0)) ≡ fin s 0 (pos 0)
  convert_zero s = convert_same (fin s 0 (pos 0)) (zero_fits f s)

  -- a value of the format, a NaN only of a NaN, and `-x` turns only the sign
  pub convert_fits : (x : Float) → T (fits f (convert f x))
  unfolding convert
  convert_fits nan = nan-fits f
  convert_fits (inf s) = inf-fits f s
  convert_fits (fin s m e) = round-fits f s (m * up e) (down e)

  pub convert_plain : (x : Float) → T (not (is_nan x)) → T (not (is_nan (convert f x)))
  unfolding convert
  convert_plain nan h = h
  convert_plain (inf s) h = h
  convert_plain (fin s m e) h = round_plain f s (m * up e) (down e)

  pub convert_neg : (x : Float) → convert f (neg x) ≡ neg (convert f x)
  unfolding convert neg
  convert_neg nan = refl
  convert_neg (inf s) = refl
  convert_neg (fin s m e) = round_neg f s (m * up e) (down e)

  -- it depends on the value alone
  pub convert_value : (x : Float) (s : Bool) (n d : ℕ) → 0 < d → HasValue x s n d → convert f x ≡ round f s n d
  unfolding convert
  convert_value nan s n d D v = absurd v
  convert_value (inf t) s n d D v = absurd v
  convert_value (fin t m e) s n d D v = ap (λ (b : Bool). round f b (m * up e) (down e)) v.0 ∙ round_same f s (m * up e) (down e) n d (down_pos e) D v.1
