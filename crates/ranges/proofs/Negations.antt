-- Of two floats that are no NaN, one is at most the other, or above it. Assumes nothing.
use mathlib.Core.Path.{◌≡◌, refl, sym, ap, ◌∙◌}
use mathlib.Core.Logic.{inl, inr}
use mathlib.Core.Bool.{Bool, true, false, not, true≢false}
use Prim.Native.Nat.{ℕ, ◌+◌, ◌*◌}
use native.Mathlib.Nat.{mul_assoc, mul_comm, mul-pos}
use native.Mathlib.Omega.{arith}
use lib.Ieee.{Float, nan, inf, fin, up, down, below, le, lt, eq, is_nan}
use lib.Ieee.Fits.{down_pos}
use borrow.Author.Tests.{lt-ltb, le-ltb, le-leb, lt-leb, eq-eqb, ne_eqb}
use Rattle.ieee.proofs.Naturals.{le_or_lt}
use Rattle.ieee.proofs.Comparing.{le_is, up_to}

-- two sizes with their signs
turned : (s t : Bool) (a b : ℕ) → not (up_to s a t b) ≡ below t b s a
turned false false a b = elim (le_or_lt a b) [
  | inl h ↦ rw (le-leb a b h, le-ltb b a h)
  | inr h ↦ rw (lt-leb a b h, lt-ltb b a h)
]
turned false true a b = elim (le_or_lt a 0) [
  | inl z ↦ elim (le_or_lt b 0) [
    | inl y ↦ rw (eq-eqb a 0 (omega arith), eq-eqb b 0 (omega arith), le-ltb 0 (b + a) (omega arith))
    | inr y ↦ rw (eq-eqb a 0 (omega arith), ne_eqb b 0 (λ (e : b ≡ 0). omega arith), lt-ltb 0 (b + a) (omega arith))
  ]
  | inr z ↦ rw (ne_eqb a 0 (λ (e : a ≡ 0). omega arith), lt-ltb 0 (b + a) (omega arith))
]
turned true false a b = refl
turned true true a b = elim (le_or_lt b a) [
  | inl h ↦ rw (le-leb b a h, le-ltb a b h)
  | inr h ↦ rw (lt-leb b a h, lt-ltb a b h)
]

pub not_le : (x y : Float) → is_nan x ≡ false → is_nan y ≡ false → not (le x y) ≡ lt y x
unfolding le lt eq is_nan
not_le nan y h k = absurd (true≢false h)
not_le (inf s) nan h k = absurd (true≢false k)
not_le (fin s m e) nan h k = absurd (true≢false k)
not_le (inf true) (inf true) h k = refl
not_le (inf true) (inf false) h k = refl
not_le (inf false) (inf true) h k = refl
not_le (inf false) (inf false) h k = refl
not_le (inf true) (fin t n d) h k = refl
not_le (inf false) (fin t n d) h k = refl
not_le (fin s m e) (inf true) h k = refl
not_le (fin s m e) (inf false) h k = refl
not_le (fin s m e) (fin t n d) h k =
    ap not
    (le_is (fin s m e) (fin t n d) s t (m * up e * down d) (n * up d * down e) (down e * down d) (mul-pos (down_pos e) (down_pos d))
    (refl, ap (λ (c : ℕ). m * up e * c) (mul_comm (down e) (down d)) ∙ sym (mul_assoc (m * up e) (down d) (down e)))
    (refl, sym (mul_assoc (n * up d) (down e) (down d))))
    ∙ turned s t (m * up e * down d) (n * up d * down e)
