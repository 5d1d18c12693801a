-- 1 is the one float that equals it, and its own root. Assumes nothing.
use mathlib.Core.Path.{◌≡◌, refl, sym, ap, ◌∙◌}
use mathlib.Core.Bool.{Bool, true, false, ◌||◌, beq, false≢true}
use Prim.Native.Nat.{ℕ, ◌*◌, ◌^◌, ◌<◌}
use native.Mathlib.Nat.{mul_comm}
use native.Mathlib.Omega.{arith}
use lib.Dec.{T, eqb}
use lib.IntN.{pos}
use lib.Ieee.{Float, nan, inf, fin, binary32, up, down, eq, fits, units, size}
use lib.Ieee.Fits.{down_pos}
use lib.Ieee.Exact.{HasValue}
use borrow.Author.Tests.{eqb-true}
use Rattle.laws.proofs.Refusing.{and_left, and_right}
use Rattle.ieee.specs.Sqrt.{sqrt}
use Rattle.ieee.proofs.Grid.{same_value}

abbrev one : Float
one = fin false 1 (pos 0)

sqrt_one : one ≡ sqrt binary32 one
unfolding sqrt units size
sqrt_one = refl

-- a float that equals 1 has its sign and size
sized : (x : Float) (d : ℕ) → eq x one ≡ true → HasValue x false d d
unfolding eq
sized nan d h = absurd (false≢true h)
sized (inf s) d h = absurd (false≢true h)
sized (fin s m e) d h =
    let a : ℕ = m * up e * 1 in let b : ℕ = 1 * 1 * down e in
    let size : a ≡ b = eqb-true a b (and_left (eqb a b) (beq s false || eqb a 0) h) in
    (sign s (and_right (eqb a b) (beq s false || eqb a 0) h) size, whole (m * up e) (down e) d size)
  where
    some : (a n : ℕ) → a ≡ 1 * 1 * n → 0 < n → a ≡ 0 → ⊥
    some a n e p z = omega arith

    sign : (s : Bool) → beq s false || eqb (m * up e * 1) 0 ≡ true → m * up e * 1 ≡ 1 * 1 * down e → s ≡ false
    sign false h q = refl
    sign true h q = absurd (some (m * up e * 1) (down e) q (down_pos e) (eqb-true (m * up e * 1) 0 h))

    whole : (a n d : ℕ) → a * 1 ≡ 1 * 1 * n → a * d ≡ d * n
    whole a n d q = ap (λ (k : ℕ). k * d) (same a n q) ∙ mul_comm n d
      where
        same : (a n : ℕ) → a * 1 ≡ 1 * 1 * n → a ≡ n
        same a n q = omega arith

one_alone : (x : Float) → T (fits binary32 x) → eq x one ≡ true → x ≡ one
unfolding eq fits
one_alone x F h = same_value binary32 x one false (2 ^ 149) F tt (sized x (2 ^ 149) h) (sized one (2 ^ 149) refl)

pub own_root : (x : Float) → T (fits binary32 x) → eq x one ≡ true → x ≡ sqrt binary32 x
own_root x F h = let e = one_alone x F h in e ∙ sqrt_one ∙ sym (ap (sqrt binary32) e)
