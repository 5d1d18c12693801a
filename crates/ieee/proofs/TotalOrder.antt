-- `total_less` orders all floats: irreflexive, transitive, and of two different ones of a format exactly one is before the other. It agrees with `<`; -0 is before +0, and NaN after all others.
-- With sizes at one denominator and none above B, each float has a rank, a number: `total_less` compares the ranks (`less_is`).
use mathlib.Core.Path.{◌≡◌, refl, sym, ap, ◌∙◌, subst}
use mathlib.Core.Logic.{◌⊎◌, inl, inr}
use mathlib.Core.Bool.{Bool, true, false, not, ◌&&◌, ◌||◌}
use Prim.Native.Nat.{ℕ, ◌+◌, ◌-◌, ◌*◌, ◌^◌, ◌≤◌, ◌<◌}
use native.Mathlib.Nat.{mul_assoc, mul_comm, mul_left_comm, mul-pos}
use native.Mathlib.Omega.{arith}
use lib.Dec.{T, ltb, eqb}
use lib.IntN.{pos}
use lib.Ieee.{Float, nan, inf, fin, Format, low, up, down, below, level, lt, eq, is_nan, fits}
use lib.Ieee.Positive.{num, den, den_pos}
use lib.Ieee.Exact.{HasValue}
use borrow.Author.Tests.{lt-ltb, le-ltb, ltb-true, eq-eqb}
use Rattle.ieee.specs.Order.{finite, total_less}
use Rattle.ieee.proofs.Naturals.{le_or_lt, trichotomy}
use Rattle.ieee.proofs.Tests.{left_plain, right_plain}
use Rattle.ieee.proofs.Comparing.{lt_is, eq_is}
use Rattle.ieee.proofs.Values.{finite_fin, value_cross, rescale}
use Rattle.ieee.proofs.Grid.{on_grid, same_value}

-- ---- ranks
abbrev rank : ℕ → Bool → ℕ → ℕ
rank B true a = 1 + (B - a)
rank B false a = B + 2 + a

abbrev Ranked : ℕ → ℕ → Float → ℕ → Type 0
Ranked D B nan n = n ≡ 2 * B + 4
Ranked D B (inf true) n = n ≡ 0
Ranked D B (inf false) n = n ≡ 2 * B + 3
Ranked D B (fin s m e) n = (a : ℕ) × HasValue (fin s m e) s a D × (a ≤ B) × (n ≡ rank B s a)

-- two sizes with signs, as `total_less` compares them
and_false : (t : Bool) → t && false ≡ false
and_false true = refl
and_false false = refl

before : (B : ℕ) (s t : Bool) (a b : ℕ) → a ≤ B → b ≤ B → below s a t b || (level s a t b && (s && not t)) ≡ ltb (rank B s a) (rank B t b)
before B false false a b h k = elim (le_or_lt b a) [
  | inl g ↦ rw (le-ltb a b g, le-ltb (B + 2 + a) (B + 2 + b) (omega arith)) (and_false (eqb a b && true))
  | inr l ↦ rw (lt-ltb a b l, lt-ltb (B + 2 + a) (B + 2 + b) (omega arith))
]
before B false true a b h k = rw (le-ltb (B + 2 + a) (1 + (B - b)) (omega arith)) (and_false (eqb a b && eqb a 0))
before B true false a b h k = elim (le_or_lt (a + b) 0) [
  | inl g ↦ rw (le-ltb 0 (a + b) g, eq-eqb a b (omega arith), eq-eqb a 0 (omega arith), lt-ltb (1 + (B - a)) (B + 2 + b) (omega arith))
  | inr l ↦ rw (lt-ltb 0 (a + b) l, lt-ltb (1 + (B - a)) (B + 2 + b) (omega arith))
]
before B true true a b h k = elim (le_or_lt a b) [
  | inl g ↦ rw (le-ltb b a g, le-ltb (1 + (B - a)) (1 + (B - b)) (omega arith)) (and_false (eqb a b && true))
  | inr l ↦ rw (lt-ltb b a l, lt-ltb (1 + (B - a)) (1 + (B - b)) (omega arith))
]

rank_in : (B : ℕ) (s : Bool) (a : ℕ) → a ≤ B → (0 < rank B s a) × (rank B s a < 2 * B + 3)
rank_in B true a h = (omega arith, omega arith)
rank_in B false a h = (omega arith, omega arith)

module _ (D B : ℕ) (P : 0 < D) where
  less_is : (x y : Float) (n k : ℕ) → Ranked D B x n → Ranked D B y k → total_less x y ≡ ltb n k
  unfolding total_less
  less_is nan nan n k h i = rw (h, i) (sym (le-ltb (2 * B + 4) (2 * B + 4) (omega arith)))
  less_is nan (inf true) n k h i = sym (le-ltb n k (omega arith))
  less_is nan (inf false) n k h i = sym (le-ltb n k (omega arith))
  less_is nan (fin t b g) n k h i = sym (le-ltb n k (omega (arith, rank_in B t i.0 i.2, i.3)))
  less_is (inf true) nan n k h i = sym (lt-ltb n k (omega arith))
  less_is (inf false) nan n k h i = sym (lt-ltb n k (omega arith))
  less_is (inf true) (inf true) n k h i = sym (le-ltb n k (omega arith))
  less_is (inf true) (inf false) n k h i = sym (lt-ltb n k (omega arith))
  less_is (inf false) (inf true) n k h i = sym (le-ltb n k (omega arith))
  less_is (inf false) (inf false) n k h i = sym (le-ltb n k (omega arith))
  less_is (inf true) (fin t b g) n k h i = sym (lt-ltb n k (omega (arith, rank_in B t i.0 i.2, i.3)))
  less_is (inf false) (fin t b g) n k h i = sym (le-ltb n k (omega (arith, rank_in B t i.0 i.2, i.3)))
  less_is (fin s a e) nan n k h i = sym (lt-ltb n k (omega (arith, rank_in B s h.0 h.2, h.3)))
  less_is (fin s a e) (inf true) n k h i = sym (le-ltb n k (omega (arith, rank_in B s h.0 h.2, h.3)))
  less_is (fin s a e) (inf false) n k h i = sym (lt-ltb n k (omega (arith, rank_in B s h.0 h.2, h.3)))
  less_is (fin s a e) (fin t b g) n k h i =
      ap (λ (z : Bool). z || (eq (fin s a e) (fin t b g) && (s && not t))) (lt_is (fin s a e) (fin t b g) s t h.0 i.0 D P h.1 i.1)
      ∙ ap (λ (z : Bool). below s h.0 t i.0 || (z && (s && not t))) (eq_is (fin s a e) (fin t b g) s t h.0 i.0 D P h.1 i.1)
      ∙ before B s t h.0 i.0 h.2 i.2
      ∙ ap (λ (z : ℕ). ltb z (rank B t i.0)) (sym h.3)
      ∙ ap (λ (z : ℕ). ltb n z) (sym i.3)

-- ---- a rank of x, where its denominator times w is D
ranked : (D B w : ℕ) (x : Float) → den x * w ≡ D → num x * w ≤ B → (n : ℕ) × Ranked D B x n
ranked D B w nan e h = (2 * B + 4, refl)
ranked D B w (inf true) e h = (0, refl)
ranked D B w (inf false) e h = (2 * B + 3, refl)
ranked D B w (fin s m g) e h = (rank B s (m * up g * w), (m * up g * w, (refl, ap (λ (z : ℕ). m * up g * z) (sym e ∙ mul_comm (down g) w) ∙ sym (mul_assoc (m * up g) w (down g))), h, refl))

module _ (x y z : Float) where
  abbrev D : ℕ
  D = den x * (den y * den z)

  abbrev B : ℕ
  B = num x * (den y * den z) + num y * (den x * den z) + num z * (den x * den y)

  D-pos : 0 < D
  D-pos = mul-pos (den_pos x) (mul-pos (den_pos y) (den_pos z))

  rank_x : (n : ℕ) × Ranked D B x n
  rank_x = ranked D B (den y * den z) x refl (omega arith)

  rank_y : (n : ℕ) × Ranked D B y n
  rank_y = ranked D B (den x * den z) y (mul_left_comm (den y) (den x) (den z)) (omega arith)

  rank_z : (n : ℕ) × Ranked D B z n
  rank_z = ranked D B (den x * den y) z (turn (den x) (den y) (den z)) (omega arith)
    where
      turn : (a b c : ℕ) → c * (a * b) ≡ a * (b * c)
      turn a b c = simp (mul_comm, mul_left_comm)

  xy_is : total_less x y ≡ ltb rank_x.0 rank_y.0
  xy_is = less_is D B D-pos x y rank_x.0 rank_y.0 rank_x.1 rank_y.1

  yz_is : total_less y z ≡ ltb rank_y.0 rank_z.0
  yz_is = less_is D B D-pos y z rank_y.0 rank_z.0 rank_y.1 rank_z.1

  xz_is : total_less x z ≡ ltb rank_x.0 rank_z.0
  xz_is = less_is D B D-pos x z rank_x.0 rank_z.0 rank_x.1 rank_z.1

  pub transitive : total_less x y ≡ true → total_less y z ≡ true → total_less x z ≡ true
  transitive h k =
      let a : rank_x.0 < rank_y.0 = ltb-true rank_x.0 rank_y.0 (sym xy_is ∙ h) in
      let b : rank_y.0 < rank_z.0 = ltb-true rank_y.0 rank_z.0 (sym yz_is ∙ k) in
      xz_is ∙ lt-ltb rank_x.0 rank_z.0 (omega arith)

pub irreflexive : (x : Float) → total_less x x ≡ false
irreflexive x = less_is (D x x x) (B x x x) (D-pos x x x) x x (rank_x x x x).0 (rank_x x x x).0 (rank_x x x x).1 (rank_x x x x).1 ∙ le-ltb (rank_x x x x).0 (rank_x x x x).0 (omega arith)

-- ---- of two different ones of a format one is before the other
same_size : (f : Format) (x y : Float) (s : Bool) (a D : ℕ) → 0 < D → T (fits f x) → T (fits f y) → T (finite x) → HasValue x s a D → HasValue y s a D → x ≡ y
same_size f x y s a D P F G N v w =
    let p = on_grid f x F N in
    let u = value_cross x p.sign s p.size a (2 ^ low f) D p.value v in
    same_value f x y s p.size F G (rescale x s a D p.size (2 ^ low f) P u v) (rescale y s a D p.size (2 ^ low f) P u w)

rank_signs : (B : ℕ) (s t : Bool) (a b : ℕ) → a ≤ B → b ≤ B → rank B s a ≡ rank B t b → (s ≡ t) × (a ≡ b)
rank_signs B true true a b h k e = (refl, omega arith)
rank_signs B true false a b h k e = absurd (no B a b e)
  where
    no : (B a b : ℕ) → 1 + (B - a) ≡ B + 2 + b → ⊥
    no B a b e = omega arith
rank_signs B false true a b h k e = absurd (no B a b e)
  where
    no : (B a b : ℕ) → B + 2 + a ≡ 1 + (B - b) → ⊥
    no B a b e = omega arith
rank_signs B false false a b h k e = (refl, omega arith)

module _ (f : Format) (D B : ℕ) (P : 0 < D) where
  no_rank : (s : Bool) (a n : ℕ) → a ≤ B → n ≡ rank B s a → (n ≡ 0) ⊎ (2 * B + 3 ≤ n) → ⊥
  no_rank s a n h e (inl z) = omega (arith, rank_in B s a h)
  no_rank s a n h e (inr l) = omega (arith, rank_in B s a h)

  apart : (n a b : ℕ) → n ≡ a → n ≡ b → a < b → ⊥
  apart n a b h i l = omega arith

  same_rank : (x y : Float) (n : ℕ) → T (fits f x) → T (fits f y) → Ranked D B x n → Ranked D B y n → x ≡ y
  same_rank nan nan n F G h i = refl
  same_rank nan (inf true) n F G h i = absurd (apart n 0 (2 * B + 4) i h (omega arith))
  same_rank nan (inf false) n F G h i = absurd (apart n (2 * B + 3) (2 * B + 4) i h (omega arith))
  same_rank nan (fin t b g) n F G h i = absurd (no_rank t i.0 n i.2 i.3 (inr (omega arith)))
  same_rank (inf true) nan n F G h i = absurd (apart n 0 (2 * B + 4) h i (omega arith))
  same_rank (inf false) nan n F G h i = absurd (apart n (2 * B + 3) (2 * B + 4) h i (omega arith))
  same_rank (inf true) (inf true) n F G h i = refl
  same_rank (inf true) (inf false) n F G h i = absurd (apart n 0 (2 * B + 3) h i (omega arith))
  same_rank (inf false) (inf true) n F G h i = absurd (apart n 0 (2 * B + 3) i h (omega arith))
  same_rank (inf false) (inf false) n F G h i = refl
  same_rank (inf true) (fin t b g) n F G h i = absurd (no_rank t i.0 n i.2 i.3 (inl h))
  same_rank (inf false) (fin t b g) n F G h i = absurd (no_rank t i.0 n i.2 i.3 (inr (omega arith)))
  same_rank (fin s a e) nan n F G h i = absurd (no_rank s h.0 n h.2 h.3 (inr (omega arith)))
  same_rank (fin s a e) (inf true) n F G h i = absurd (no_rank s h.0 n h.2 h.3 (inl i))
  same_rank (fin s a e) (inf false) n F G h i = absurd (no_rank s h.0 n h.2 h.3 (inr (omega arith)))
  same_rank (fin s a e) (fin t b g) n F G h i =
      let j = rank_signs B s t h.0 i.0 h.2 i.2 (sym h.3 ∙ i.3) in
      same_size f (fin s a e) (fin t b g) s h.0 D P F G (finite_fin s a e) h.1
      (subst (λ (c : ℕ). HasValue (fin t b g) s c D) (sym j.1) (subst (λ (c : Bool). HasValue (fin t b g) c i.0 D) (sym j.0) i.1))

  not_ltb : (a b : ℕ) → (a ≡ b → ⊥) → ltb a b ≡ not (ltb b a)
  not_ltb a b n = elim (trichotomy a b) [
    | inl l ↦ rw (lt-ltb a b l, le-ltb b a (omega arith))
    | inr (inl e) ↦ absurd (n e)
    | inr (inr g) ↦ rw (le-ltb a b (omega arith), lt-ltb b a g)
  ]

pub one_before : (f : Format) (x y : Float) → T (fits f x) → T (fits f y) → (x ≡ y → ⊥) → total_less x y ≡ not (total_less y x)
one_before f x y F G n =
    let d = D x y y in
    let b = B x y y in
    let p = D-pos x y y in
    let i = rank_x x y y in
    let j = rank_y x y y in
    less_is d b p x y i.0 j.0 i.1 j.1
    ∙ not_ltb f d b p i.0 j.0 (λ (e : i.0 ≡ j.0). n (same_rank f d b p x y j.0 F G (subst (λ (m : ℕ). Ranked d b x m) e i.1) j.1))
    ∙ ap not (sym (less_is d b p y x j.0 i.0 j.1 i.1))

-- ---- what IEEE 754-2019, section 5.10, says of numbers, and where a NaN stands
module _ (x y : Float) where
  -- x < y
  pub as_less : lt x y ≡ true → total_less x y ≡ true
  unfolding total_less
  as_less h = rw (left_plain x y h, right_plain x y h, h)

  -- two numbers that are not equal: as `<` has it
  pub as_unequal : is_nan x ≡ false → is_nan y ≡ false → eq x y ≡ false → total_less x y ≡ lt x y
  unfolding total_less
  as_unequal a b e = rw (a, b, e) (or_false (lt x y))
    where
      or_false : (t : Bool) → t || false ≡ t
      or_false true = refl
      or_false false = refl

pub minus_zero_first : total_less (fin true 0 (pos 0)) (fin false 0 (pos 0)) ≡ true
unfolding total_less
minus_zero_first = refl

pub plus_zero_second : total_less (fin false 0 (pos 0)) (fin true 0 (pos 0)) ≡ false
unfolding total_less
plus_zero_second = refl

pub nan_last : (x : Float) → is_nan x ≡ false → total_less x nan ≡ true
unfolding total_less
nan_last x h = rw h

pub nan_before_none : (y : Float) → total_less nan y ≡ false
unfolding total_less
nan_before_none y = refl
