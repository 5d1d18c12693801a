-- The values of a format, in units of its smallest one: each is sig * 2 ^ j for a sig of at most prec digits (`on_grid`), so from 2 ^ (prec - 1 + k) on each is a multiple
-- of 2 ^ k (`next_up`), and two values of the same sign and size are the same (`same_value`).
use mathlib.Core.Path.{◌≡◌, refl, sym, ap, ◌∙◌, subst}
use mathlib.Core.Logic.{◌⊎◌, inl, inr}
use mathlib.Core.Bool.{Bool, ◌&&◌}
use Prim.Native.Nat.{ℕ, zero, suc, ◌+◌, ◌-◌, ◌*◌, ◌%◌, ◌^◌, ◌≤◌, ◌<◌}
use native.Mathlib.Nat.{le_trans, le_of_eq, le_of_lt, lt_of_le_of_lt, mul_assoc, mul-one, one-mul, mul-le-mul_right, lt_of_mul-lt-mul_right, zero-mul, mul-pos, mul_right_comm, mul-lt-mul_of_pos_right, pow-succ'}
use native.Mathlib.Omega.{arith}
use lib.Dec.{T, ltb, leb, eqb, ltb→lt, leb→le, eqb→eq}
use lib.IntN.{ℤ, pos, negsuc}
use lib.Pow.{pow-add, pow_pos, shl_lt}
use lib.Ieee.{Float, nan, inf, fin, Format, prec, emax, low, up, down, fits, of_bits}
use lib.Ieee.Fits.{and_l, and_r, down_pos}
use lib.Ieee.Bits.{of_bits-to_bits}
use lib.Ieee.Digits.{back}
use lib.Ieee.Exact.{HasValue}
use Rattle.ieee.specs.Order.{finite}
use Rattle.ieee.proofs.Naturals.{pow_lt_back, pow_le_back}
use Rattle.ieee.proofs.Patterns.{to_bits_value}

-- Y has at most p digits, but for zeros behind them
abbrev pub Grid : ℕ → ℕ → Type 0
Grid p Y = (sig : ℕ) × (j : ℕ) × (sig < 2 ^ p) × (Y ≡ sig * 2 ^ j)

pub zero_on_grid : (p : ℕ) → Grid p 0
zero_on_grid p = (0, 0, pow_pos p, refl)

-- ---- what is above q * 2 ^ k is at least (q + 1) * 2 ^ k, where q has all of the p digits or k is 0
module _ (p k Y : ℕ) (G : Grid p Y) where
  multiple : (k ≡ 0) ⊎ (2 ^ (p + k) ≤ 2 * Y) → (y : ℕ) × (Y ≡ y * 2 ^ k)
  multiple (inl z) = (Y, sym (ap (λ (x : ℕ). Y * 2 ^ x) z ∙ mul-one Y))
  multiple (inr h) =
      let sig = G.0 in
      let j = G.1 in
      let l : p + k < suc (p + j) = pow_lt_back (p + k) (suc (p + j)) (lt_of_le_of_lt h (go (2 ^ (p + j)) Y (2 ^ suc (p + j)) (pow-succ' 2 (p + j)) (subst (λ (x : ℕ). x < 2 ^ (p + j)) (sym G.3) (shl_lt p j G.2)))) in
      let e : j ≡ j - k + k = omega arith in
      (sig * 2 ^ (j - k), G.3 ∙ ap (λ (x : ℕ). sig * x) (ap (λ (x : ℕ). 2 ^ x) e ∙ pow-add 2 (j - k) k) ∙ sym (mul_assoc sig (2 ^ (j - k)) (2 ^ k)))
    where
      go : (a b c : ℕ) → c ≡ 2 * a → b < a → 2 * b < c
      go a b c e h = omega arith

  pub next_up : (q : ℕ) → (k ≡ 0) ⊎ (2 ^ p ≤ 2 * q) → q * 2 ^ k < Y → suc q * 2 ^ k ≤ Y
  next_up q lead h = go (multiple (lift lead))
    where
      step : (a b : ℕ) → a ≤ b → 2 * a ≤ 2 * b
      step a b h = omega arith

      lift : (k ≡ 0) ⊎ (2 ^ p ≤ 2 * q) → (k ≡ 0) ⊎ (2 ^ (p + k) ≤ 2 * Y)
      lift (inl z) = inl z
      lift (inr l) = inr (le_trans (le_trans (le_of_eq (pow-add 2 p k)) (mul-le-mul_right (2 ^ k) l)) (le_trans (le_of_eq (mul_assoc 2 q (2 ^ k))) (step (q * 2 ^ k) Y (le_of_lt h))))

      go : (y : ℕ) × (Y ≡ y * 2 ^ k) → suc q * 2 ^ k ≤ Y
      go m = le_trans (mul-le-mul_right (2 ^ k) (lt_of_mul-lt-mul_right (2 ^ k) (subst (λ (x : ℕ). q * 2 ^ k < x) m.1 h))) (le_of_eq (sym m.1))

-- ---- what `fits` says of a finite value
module _ (f : Format) (s : Bool) where
  pub few : (m : ℕ) (e : ℤ) → T (fits f (fin s m e)) → m < 2 ^ prec f
  unfolding fits
  few zero e F = pow_pos (prec f)
  few (suc m) e F =
      let A = eqb (suc m % 2) 1 in
      let B = ltb (suc m) (2 ^ prec f) in
      let C = leb (down e) (2 ^ low f) in
      ltb→lt (suc m) (2 ^ prec f) (and_r A B (and_l (A && B) C (and_l (A && B && C) (ltb (suc m * up e) (2 ^ suc (emax f) * down e)) F)))

  flat : (e : ℤ) → up e * down e ≡ 1 → down e ≤ 2 ^ low f
  flat (pos k) h = pow_pos (low f)
  flat (negsuc k) h = le_trans (le_of_eq (sym (one-mul (2 ^ suc k)) ∙ h)) (pow_pos (low f))

  deep : (m : ℕ) (e : ℤ) → T (fits f (fin s m e)) → down e ≤ 2 ^ low f
  unfolding fits
  deep zero e F = flat e (eqb→eq (up e * down e) 1 F)
  deep (suc m) e F =
      let A = eqb (suc m % 2) 1 in
      let B = ltb (suc m) (2 ^ prec f) in
      let C = leb (down e) (2 ^ low f) in
      leb→le (down e) (2 ^ low f) (and_r (A && B) C (and_l (A && B && C) (ltb (suc m * up e) (2 ^ suc (emax f) * down e)) F))

  in_range : (m : ℕ) (e : ℤ) → T (fits f (fin s m e)) → m * up e < 2 ^ suc (emax f) * down e
  unfolding fits
  in_range zero e F = rw (zero-mul (up e)) (mul-pos (pow_pos (suc (emax f))) (down_pos e))
  in_range (suc m) e F =
      let A = eqb (suc m % 2) 1 in
      let B = ltb (suc m) (2 ^ prec f) in
      let C = leb (down e) (2 ^ low f) in
      let D = ltb (suc m * up e) (2 ^ suc (emax f) * down e) in
      ltb→lt (suc m * up e) (2 ^ suc (emax f) * down e) (and_r (A && B && C) D F)

  placed : (m : ℕ) (e : ℤ) → m < 2 ^ prec f → down e ≤ 2 ^ low f → (Y : ℕ) × HasValue (fin s m e) s Y (2 ^ low f) × Grid (prec f) Y
  placed m (pos a) M d = (m * 2 ^ (a + low f), (refl, raised), (m, a + low f, M, refl))
    where
      raised : m * 2 ^ a * 2 ^ low f ≡ m * 2 ^ (a + low f) * 1
      raised = mul_assoc m (2 ^ a) (2 ^ low f) ∙ ap (λ (x : ℕ). m * x) (sym (pow-add 2 a (low f))) ∙ sym (mul-one (m * 2 ^ (a + low f)))
  placed m (negsuc a) M d = (m * 2 ^ (low f - suc a), (refl, lowered), (m, low f - suc a, M, refl))
    where
      lowered : m * 1 * 2 ^ low f ≡ m * 2 ^ (low f - suc a) * 2 ^ suc a
      lowered =
          ap (λ (x : ℕ). x * 2 ^ low f) (mul-one m)
          ∙ ap (λ (x : ℕ). m * x) (ap (λ (x : ℕ). 2 ^ x) (sym (back (low f) (suc a) (pow_le_back (suc a) (low f) d))) ∙ pow-add 2 (low f - suc a) (suc a))
          ∙ sym (mul_assoc m (2 ^ (low f - suc a)) (2 ^ suc a))

-- ---- a finite value of the format, in units of the smallest
pub record Placed (f : Format) (y : Float) : Type 0 where
  pub sign : Bool
  pub size : ℕ
  pub value : HasValue y sign size (2 ^ low f)
  pub grid : Grid (prec f) size

pub on_grid : (f : Format) (y : Float) → T (fits f y) → T (finite y) → Placed f y
unfolding finite
on_grid f nan F N = absurd N
on_grid f (inf s) F N = absurd N
on_grid f (fin s m e) F N = let p = placed f s m e (few f s m e F) (deep f s m e F) in record { sign = s; size = p.0; value = p.1; grid = p.2 }

pub same_value : (f : Format) (x y : Float) (s : Bool) (a : ℕ) → T (fits f x) → T (fits f y) → HasValue x s a (2 ^ low f) → HasValue y s a (2 ^ low f) → x ≡ y
same_value f x y s a F G v w = sym (of_bits-to_bits f x F) ∙ ap (of_bits f) (to_bits_value f x s a v ∙ sym (to_bits_value f y s a w)) ∙ of_bits-to_bits f y G

-- below 2 ^ (emax + 1)
pub value_small : (f : Format) (x : Float) (s : Bool) (a c : ℕ) → 0 < c → T (fits f x) → HasValue x s a c → a < 2 ^ suc (emax f) * c
value_small f nan s a c C F v = absurd v
value_small f (inf t) s a c C F v = absurd v
value_small f (fin t m e) s a c C F v =
    lt_of_mul-lt-mul_right (down e) (subst (λ (x : ℕ). x < 2 ^ suc (emax f) * c * down e) v.1 (subst (λ (x : ℕ). m * up e * c < x) (mul_right_comm (2 ^ suc (emax f)) (down e) c) (mul-lt-mul_of_pos_right (in_range f t m e F) C)))
