-- `units f s q k`, q * 2 ^ k of the format's smallest values, which is how `round` and `round_root` end: its sign, that the format holds it, where it is an infinity, and what `-x` makes of it.
use mathlib.Core.Path.{◌≡◌, refl, sym, subst}
use mathlib.Core.Logic.{◌⊎◌, inl, inr}
use mathlib.Core.Bool.{Bool, true, false, not, cond}
use Prim.Native.Nat.{ℕ, zero, suc, ◌+◌, ◌-◌, ◌*◌, ◌^◌, ◌≤◌, ◌<◌}
use native.Mathlib.Nat.{le_refl, le_trans, le_of_eq, lt_of_le_of_lt, lt_of_not-le, eq-zero-or-pos}
use native.Mathlib.Omega.{arith}
use lib.Dec.{T, ltb, ltb→lt}
use lib.Arith.{le→nltb}
use lib.Pow.{pow-add, pow-lt}
use lib.Ieee.{Float, nan, inf, fin, Format, binary32, binary64, prec, emax, low, hid, size, odd, units, round, fits, neg, is_nan}
use lib.Ieee.Digits.{size_reaches}
use lib.Ieee.Fits.{odd-fits, inf-fits, round_is}
use lib.Ieee.Bits.{cond_no}
use Rattle.ieee.specs.Order.{negative, finite}

-- ---- the format
pub units_fits : (f : Format) (s : Bool) (q k : ℕ) → q ≤ 2 ^ prec f → T (fits f (units f s q k))
unfolding units
units_fits f s q k a = go (ltb (q * 2 ^ k) (2 ^ (low f + suc (emax f)))) (ltb→lt (q * 2 ^ k) (2 ^ (low f + suc (emax f))))
  where
    go : (b : Bool) → (T b → q * 2 ^ k < 2 ^ (low f + suc (emax f))) → T (fits f (cond b (odd (suc (prec f)) s q k (low f)) (inf s)))
    go true h = odd-fits f (suc (prec f)) s q k (lt_of_le_of_lt a (pow-lt (le_refl (suc (prec f))))) a (h tt)
    go false h = inf-fits f s

-- ---- the infinity
pub units_over : (f : Format) (s : Bool) (q k : ℕ) → 2 ^ (low f + suc (emax f)) ≤ q * 2 ^ k → units f s q k ≡ inf s
unfolding units
units_over f s q k h = cond_no (ltb (q * 2 ^ k) (2 ^ (low f + suc (emax f)))) (odd (suc (prec f)) s q k (low f)) (inf s) (le→nltb (q * 2 ^ k) (2 ^ (low f + suc (emax f))) h)

not_inf : (x : Float) (s : Bool) → x ≡ inf s → T (finite x) → ⊥
unfolding finite
not_inf x s e F = subst (λ (y : Float). T (finite y)) e F

pub units_small : (f : Format) (s : Bool) (q k : ℕ) → T (finite (units f s q k)) → q * 2 ^ k < 2 ^ (low f + suc (emax f))
units_small f s q k F = lt_of_not-le (λ (h : 2 ^ (low f + suc (emax f)) ≤ q * 2 ^ k). not_inf (units f s q k) s (units_over f s q k h) F)

-- ---- no NaN
odd_plain : (d : ℕ) (s : Bool) (q k l : ℕ) → T (not (is_nan (odd d s q k l)))
unfolding odd is_nan
odd_plain d s zero k l = tt
odd_plain d s (suc q) k l = tt

inf_plain : (s : Bool) → T (not (is_nan (inf s)))
unfolding is_nan
inf_plain s = tt

cond_plain : (b : Bool) (x y : Float) → T (not (is_nan x)) → T (not (is_nan y)) → T (not (is_nan (cond b x y)))
cond_plain true x y h k = h
cond_plain false x y h k = k

pub units_plain : (f : Format) (s : Bool) (q k : ℕ) → T (not (is_nan (units f s q k)))
unfolding units
units_plain f s q k = cond_plain (ltb (q * 2 ^ k) (2 ^ (low f + suc (emax f)))) (odd (suc (prec f)) s q k (low f)) (inf s) (odd_plain (suc (prec f)) s q k (low f)) (inf_plain s)

pub round_plain : (f : Format) (s : Bool) (n d : ℕ) → T (not (is_nan (round f s n d)))
round_plain f s n d = rw (round_is f s n d) (units_plain f s _ _)

-- ---- the sign
odd_negative : (d : ℕ) (s : Bool) (q k l : ℕ) → negative (odd d s q k l) ≡ s
unfolding odd negative
odd_negative d s zero k l = refl
odd_negative d s (suc q) k l = refl

inf_negative : (s : Bool) → negative (inf s) ≡ s
unfolding negative
inf_negative s = refl

cond_negative : (b s : Bool) (x y : Float) → negative x ≡ s → negative y ≡ s → negative (cond b x y) ≡ s
cond_negative true s x y h k = h
cond_negative false s x y h k = k

pub units_negative : (f : Format) (s : Bool) (q k : ℕ) → negative (units f s q k) ≡ s
unfolding units
units_negative f s q k = cond_negative (ltb (q * 2 ^ k) (2 ^ (low f + suc (emax f)))) s _ _ (odd_negative (suc (prec f)) s q k (low f)) (inf_negative s)

-- ---- `-x`
pub odd_neg : (d : ℕ) (s : Bool) (q k l : ℕ) → odd d (not s) q k l ≡ neg (odd d s q k l)
unfolding odd neg
odd_neg d s zero k l = refl
odd_neg d s (suc q) k l = refl

pub inf_neg : (s : Bool) → inf (not s) ≡ neg (inf s)
unfolding neg
inf_neg s = refl

pub cond_neg : (b : Bool) (x y u v : Float) → x ≡ neg u → y ≡ neg v → cond b x y ≡ neg (cond b u v)
cond_neg true x y u v h k = h
cond_neg false x y u v h k = k

units_neg : (f : Format) (s : Bool) (q k : ℕ) → units f (not s) q k ≡ neg (units f s q k)
unfolding units
units_neg f s q k = cond_neg (ltb (q * 2 ^ k) (2 ^ (low f + suc (emax f)))) _ _ _ _ (odd_neg (suc (prec f)) s q k (low f)) (inf_neg s)

pub round_neg : (f : Format) (s : Bool) (n d : ℕ) → round f (not s) n d ≡ neg (round f s n d)
unfolding round
round_neg f s n d = units_neg f s _ _

pub neg_neg : (v : Float) → neg (neg v) ≡ v
unfolding neg
neg_neg nan = refl
neg_neg (inf true) = refl
neg_neg (inf false) = refl
neg_neg (fin true m e) = refl
neg_neg (fin false m e) = refl

pub neg_plain : (v : Float) → T (not (is_nan v)) → T (not (is_nan (neg v)))
unfolding neg is_nan
neg_plain nan h = h
neg_plain (inf s) h = tt
neg_plain (fin s m e) h = tt

-- ---- q has at most prec digits, or is 2 ^ prec; where k is above 0 it has all of them
abbrev pub Lead : Format → ℕ → ℕ → Type 0
Lead f q k = (k ≡ 0) ⊎ (2 ^ prec f ≤ 2 * q)

-- where the digits of w beyond prec are dropped, and q is at least w's leading digit
pub leads : (f : Format) (w q : ℕ) → (hid f * 2 ^ (size w - prec f) ≤ w → hid f ≤ q) → Lead f q (size w - prec f)
leads f w q h = go (eq-zero-or-pos (size w - prec f))
  where
    half : (f : Format) (q : ℕ) → hid f ≤ q → 2 ^ prec f ≤ 2 * q
    half binary32 q h = omega arith
    half binary64 q h = omega arith

    pred : (f : Format) (z : ℕ) → 0 < z - prec f → prec f - 1 + (z - prec f) < z
    pred binary32 z h = omega arith
    pred binary64 z h = omega arith

    go : (size w - prec f ≡ 0) ⊎ (0 < size w - prec f) → Lead f q (size w - prec f)
    go (inl z) = inl z
    go (inr p) = inr (half f q (h (le_trans (le_of_eq (sym (pow-add 2 (prec f - 1) (size w - prec f)))) (size_reaches w (prec f - 1 + (size w - prec f)) (pred f (size w) p)))))
