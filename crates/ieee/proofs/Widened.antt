-- An f32 above zero as an f64: of its 53 digits the lower 6 at least are 0, and its exponent is in the narrower range (`Widened`). That is what sqrt32 needs of them.
use mathlib.Core.Path.{◌≡◌, sym, ap, ◌∙◌, subst}
use mathlib.Core.Logic.{◌⊎◌, inl, inr}
use mathlib.Core.Bool.{false}
use Prim.Native.Nat.{ℕ, ◌+◌, ◌-◌, ◌*◌, ◌^◌, ◌≤◌, ◌<◌}
use native.Mathlib.Nat.{le_trans, le_of_eq, lt_of_lt_of_le, lt_of_le_of_lt, mul_assoc, mul-le-mul_right, eq_of_mul-eq-mul_right, eq-zero-or-pos, mul-pos, zero-mul, one-mul, lt_irrefl}
use native.Mathlib.Omega.{arith}
use lib.Dec.{T, lit<}
use lib.Pow.{pow-add, pow_pos, shl_lt}
use lib.Ieee.{Float, binary32, fits}
use lib.Ieee.Exact.{HasValue}
use Rattle.ieee.proofs.Naturals.{pow_lt_back}
use Rattle.ieee.proofs.Values.{value_finite, value_cross}
use Rattle.ieee.proofs.Grid.{on_grid, value_small}

pub record Widened (digits e : ℕ) : Type 0 where
  pub w : ℕ
  pub even : digits ≡ 64 * w
  pub above : 925 ≤ e
  pub below : e < 1202

-- ---- one size, with 53 digits and with 24
module _ (digits e sig c : ℕ) (is : digits * 2 ^ e ≡ sig * 2 ^ c) (lo : 2 ^ 52 ≤ digits) (hi : digits < 2 ^ 53) (small : sig < 2 ^ 24) where
  some : 0 < sig
  some = go (eq-zero-or-pos sig)
    where
      go : (sig ≡ 0) ⊎ (0 < sig) → 0 < sig
      go (inl z) = absurd (lt_irrefl 0 (subst (λ (y : ℕ). 0 < y) (is ∙ ap (λ (y : ℕ). y * 2 ^ c) z ∙ zero-mul (2 ^ c)) (mul-pos (lt_of_lt_of_le (lit< tt) lo) (pow_pos e))))
      go (inr p) = p

  gap : 52 + e < 24 + c
  gap = pow_lt_back (52 + e) (24 + c) (lt_of_le_of_lt (le_trans (le_of_eq (pow-add 2 52 e)) (mul-le-mul_right (2 ^ e) lo)) (rw is (shl_lt 24 c small)))

  near : c < 53 + e
  near = pow_lt_back c (53 + e) (lt_of_le_of_lt (le_trans (le_of_eq (sym (one-mul (2 ^ c)))) (mul-le-mul_right (2 ^ c) some)) (rw (← is) (shl_lt 53 e hi)))

  shifted : digits ≡ 64 * (sig * 2 ^ (c - e - 6))
  shifted = eq_of_mul-eq-mul_right (2 ^ e) (pow_pos e) digits (64 * (sig * 2 ^ (c - e - 6)))
      (is ∙ ap (λ (y : ℕ). sig * y) (ap (λ (y : ℕ). 2 ^ y) join ∙ pow-add 2 (6 + (c - e - 6)) e ∙ ap (λ (y : ℕ). y * 2 ^ e) (pow-add 2 6 (c - e - 6)))
      ∙ regroup sig (2 ^ (c - e - 6)) (2 ^ e))
    where
      join : c ≡ 6 + (c - e - 6) + e
      join = omega (arith, gap)

      regroup : (s x y : ℕ) → s * (64 * x * y) ≡ 64 * (s * x) * y
      regroup s x y = omega arith

pub widened : (x : Float) (digits e : ℕ) → T (fits binary32 x) → 2 ^ 52 ≤ digits → digits < 2 ^ 53 → HasValue x false (digits * 2 ^ e) (2 ^ 1126) → Widened digits e
widened x digits e F lo hi v =
    let p = on_grid binary32 x F (value_finite x false (digits * 2 ^ e) (2 ^ 1126) v) in
    let sig = p.grid.0 in
    let c = p.grid.1 + 977 in
    let u : p.size * 2 ^ 977 ≡ digits * 2 ^ e =
    eq_of_mul-eq-mul_right (2 ^ 149) (pow_pos 149) (p.size * 2 ^ 977) (digits * 2 ^ e) (mul_assoc p.size (2 ^ 977) (2 ^ 149) ∙ value_cross x p.sign false p.size (digits * 2 ^ e) (2 ^ 149) (2 ^ 1126) p.value v) in
    let is : digits * 2 ^ e ≡ sig * 2 ^ c = sym u ∙ ap (λ (y : ℕ). y * 2 ^ 977) p.grid.3 ∙ mul_assoc sig (2 ^ p.grid.1) (2 ^ 977) ∙ ap (λ (y : ℕ). sig * y) (sym (pow-add 2 p.grid.1 977)) in
    let g = gap digits e sig c is lo hi p.grid.2 in
    let n = near digits e sig c is lo hi p.grid.2 in
    let b : 52 + e < 1254 = pow_lt_back (52 + e) 1254 (lt_of_le_of_lt (le_trans (le_of_eq (pow-add 2 52 e)) (mul-le-mul_right (2 ^ e) lo)) (value_small binary32 x false (digits * 2 ^ e) (2 ^ 1126) (pow_pos 1126) F v)) in
    record { w = sig * 2 ^ (c - e - 6); even = shifted digits e sig c is lo hi p.grid.2; above = omega arith; below = omega arith }
