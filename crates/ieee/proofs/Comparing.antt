-- Two finite floats of the sizes a / d and b / d compare as a and b do, with their signs (`lt_is`, `eq_is`, `le_is`).
use mathlib.Core.Path.{◌≡◌, refl, sym, ap, ◌∙◌}
use mathlib.Core.Logic.{inl, inr}
use mathlib.Core.Bool.{Bool, true, false, ◌&&◌, ◌||◌, beq}
use Prim.Native.Nat.{ℕ, ◌+◌, ◌*◌, ◌<◌}
use native.Mathlib.Nat.{mul_assoc, mul_comm, mul_right_comm, mul-pos, mul-lt-mul_of_pos_right, mul-le-mul_right, eq_of_mul-eq-mul_right, add-mul, zero-mul}
use native.Mathlib.Omega.{arith}
use lib.Dec.{ltb, leb, eqb}
use lib.IntN.{ℤ}
use lib.Ieee.{Float, nan, inf, fin, up, down, below, level, lt, eq, le}
use lib.Ieee.Fits.{down_pos}
use lib.Ieee.Exact.{HasValue}
use borrow.Author.Tests.{lt-ltb, le-ltb, le-leb, lt-leb, eq-eqb, ne_eqb, eqb-true}
use Rattle.ieee.proofs.Naturals.{le_or_lt, trichotomy}

-- ---- a common factor
ltb_scale : (a b c : ℕ) → 0 < c → ltb (a * c) (b * c) ≡ ltb a b
ltb_scale a b c C = elim (le_or_lt b a) [
  | inl h ↦ le-ltb (a * c) (b * c) (mul-le-mul_right c h) ∙ sym (le-ltb a b h)
  | inr h ↦ lt-ltb (a * c) (b * c) (mul-lt-mul_of_pos_right h C) ∙ sym (lt-ltb a b h)
]

eqb_scale : (a b c : ℕ) → 0 < c → eqb (a * c) (b * c) ≡ eqb a b
eqb_scale a b c C = elim (trichotomy a b) [
  | inl l ↦ go (λ (e : a ≡ b). less a b l e)
  | inr (inl e) ↦ eq-eqb (a * c) (b * c) (ap (λ (x : ℕ). x * c) e) ∙ sym (eq-eqb a b e)
  | inr (inr g) ↦ go (λ (e : a ≡ b). less b a g (sym e))
]
  where
    less : (a b : ℕ) → a < b → a ≡ b → ⊥
    less a b l e = omega arith

    go : (a ≡ b → ⊥) → eqb (a * c) (b * c) ≡ eqb a b
    go n = ne_eqb (a * c) (b * c) (λ (e : a * c ≡ b * c). n (eq_of_mul-eq-mul_right c C a b e)) ∙ sym (ne_eqb a b n)

below_scale : (s : Bool) (a : ℕ) (t : Bool) (b c : ℕ) → 0 < c → below s (a * c) t (b * c) ≡ below s a t b
below_scale false a false b c C = ltb_scale a b c C
below_scale false a true b c C = refl
below_scale true a false b c C = ap (λ (x : ℕ). ltb 0 x) (sym (add-mul a b c)) ∙ ap (λ (x : ℕ). ltb x ((a + b) * c)) (sym (zero-mul c)) ∙ ltb_scale 0 (a + b) c C
below_scale true a true b c C = ltb_scale b a c C

level_scale : (s : Bool) (a : ℕ) (t : Bool) (b c : ℕ) → 0 < c → level s (a * c) t (b * c) ≡ level s a t b
level_scale s a t b c C =
    ap (λ (x : Bool). x && (beq s t || eqb (a * c) 0)) (eqb_scale a b c C)
    ∙ ap (λ (x : Bool). eqb a b && (beq s t || x)) (ap (λ (x : ℕ). eqb (a * c) x) (sym (zero-mul c)) ∙ eqb_scale a 0 c C)

-- ---- the cross products that `lt` and `eq` compare
crossed : (x c d a w : ℕ) → x * d ≡ a * c → x * w * d ≡ a * (c * w)
crossed x c d a w h = mul_right_comm x w d ∙ ap (λ (y : ℕ). y * w) h ∙ mul_assoc a c w

module _ (s t : Bool) (a b d : ℕ) (D : 0 < d) where
  both : (m : ℕ) (e : ℤ) (n : ℕ) (g : ℤ) → m * up e * d ≡ a * down e → n * up g * d ≡ b * down g → (F : Bool → ℕ → Bool → ℕ → Bool)
      → ((s : Bool) (a : ℕ) (t : Bool) (b c : ℕ) → 0 < c → F s (a * c) t (b * c) ≡ F s a t b) → F s (m * up e * down g) t (n * up g * down e) ≡ F s a t b
  both m e n g u v F scale =
      sym (scale s (m * up e * down g) t (n * up g * down e) d D)
      ∙ ap (λ (z : ℕ). F s z t (n * up g * down e * d)) (crossed (m * up e) (down e) d a (down g) u)
      ∙ ap (λ (z : ℕ). F s (a * (down e * down g)) t z) (crossed (n * up g) (down g) d b (down e) v ∙ ap (λ (z : ℕ). b * z) (mul_comm (down g) (down e)))
      ∙ scale s a t b (down e * down g) (mul-pos (down_pos e) (down_pos g))

pub lt_is : (x y : Float) (s t : Bool) (a b d : ℕ) → 0 < d → HasValue x s a d → HasValue y t b d → lt x y ≡ below s a t b
unfolding lt
lt_is nan y s t a b d D v w = absurd v
lt_is (inf p) y s t a b d D v w = absurd v
lt_is (fin p m e) nan s t a b d D v w = absurd w
lt_is (fin p m e) (inf r) s t a b d D v w = absurd w
lt_is (fin p m e) (fin r n g) s t a b d D v w = rw (v.0, w.0) (both s t a b d D m e n g v.1 w.1 (λ s a t b. below s a t b) below_scale)

pub eq_is : (x y : Float) (s t : Bool) (a b d : ℕ) → 0 < d → HasValue x s a d → HasValue y t b d → eq x y ≡ level s a t b
unfolding eq
eq_is nan y s t a b d D v w = absurd v
eq_is (inf p) y s t a b d D v w = absurd v
eq_is (fin p m e) nan s t a b d D v w = absurd w
eq_is (fin p m e) (inf r) s t a b d D v w = absurd w
eq_is (fin p m e) (fin r n g) s t a b d D v w = rw (v.0, w.0) (both s t a b d D m e n g v.1 w.1 (λ s a t b. level s a t b) level_scale)

-- ---- ±a ≤ ±b, by the signs
abbrev pub up_to : Bool → ℕ → Bool → ℕ → Bool
up_to false a false b = leb a b
up_to false a true b = eqb a 0 && eqb b 0
up_to true a false b = true
up_to true a true b = leb b a

below_or_level : (s t : Bool) (a b : ℕ) → below s a t b || level s a t b ≡ up_to s a t b
below_or_level false false a b = elim (trichotomy a b) [
  | inl l ↦ rw (lt-ltb a b l, le-leb a b (omega arith))
  | inr (inl e) ↦ rw (le-ltb a b (omega arith), eq-eqb a b e, le-leb a b (omega arith))
  | inr (inr g) ↦ rw (le-ltb a b (omega arith), ne_eqb a b (λ (e : a ≡ b). more a b g e), lt-leb a b g)
]
  where
    more : (a b : ℕ) → b < a → a ≡ b → ⊥
    more a b g e = omega arith
below_or_level true true a b = elim (trichotomy a b) [
  | inl l ↦ rw (le-ltb b a (omega arith), ne_eqb a b (λ (e : a ≡ b). less a b l e), lt-leb b a l)
  | inr (inl e) ↦ rw (le-ltb b a (omega arith), eq-eqb a b e, le-leb b a (omega arith))
  | inr (inr g) ↦ rw (lt-ltb b a g, le-leb b a (omega arith))
]
  where
    less : (a b : ℕ) → a < b → a ≡ b → ⊥
    less a b l e = omega arith
below_or_level true false a b = elim (le_or_lt (a + b) 0) [
  | inl g ↦ rw (le-ltb 0 (a + b) g, eq-eqb a b (omega arith), eq-eqb a 0 (omega arith))
  | inr l ↦ rw (lt-ltb 0 (a + b) l)
]
below_or_level false true a b = go (eqb a 0) refl
  where
    and_false : (t : Bool) → t && false ≡ false
    and_false true = refl
    and_false false = refl

    go : (t : Bool) → eqb a 0 ≡ t → eqb a b && t ≡ t && eqb b 0
    go true h = and_true (eqb a b) ∙ ap (λ (x : ℕ). eqb x b) (eqb-true a 0 h) ∙ swap b
      where
        and_true : (t : Bool) → t && true ≡ t
        and_true true = refl
        and_true false = refl

        swap : (b : ℕ) → eqb 0 b ≡ eqb b 0
        swap b = elim (le_or_lt b 0) [
          | inl z ↦ eq-eqb 0 b (omega arith) ∙ sym (eq-eqb b 0 (omega arith))
          | inr l ↦ ne_eqb 0 b (λ (e : 0 ≡ b). some b l (sym e)) ∙ sym (ne_eqb b 0 (some b l))
        ]
          where
            some : (b : ℕ) → 0 < b → b ≡ 0 → ⊥
            some b l e = omega arith
    go false h = and_false (eqb a b)

pub le_is : (x y : Float) (s t : Bool) (a b d : ℕ) → 0 < d → HasValue x s a d → HasValue y t b d → le x y ≡ up_to s a t b
unfolding le
le_is x y s t a b d D v w = rw (lt_is x y s t a b d D v w, eq_is x y s t a b d D v w) (below_or_level s t a b)
