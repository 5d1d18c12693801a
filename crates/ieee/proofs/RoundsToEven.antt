-- `units f s (nearest q o) k` is the exact size X rounded as roundTiesToEven asks, where q * 2 ^ k is the whole part of X in units, with all of the format's digits, and o says how X compares
-- with q * 2 ^ k + 2 ^ k / 2 (`Cut`, `rounds`). No other float is (`only`).
use mathlib.Core.Path.{◌≡◌, refl, sym, ap, ◌∙◌, subst}
use mathlib.Core.Logic.{◌⊎◌, inl, inr}
use mathlib.Core.Bool.{Bool, true, false, cond, beq, false≢true}
use Prim.Native.Nat.{ℕ, zero, suc, ◌+◌, ◌-◌, ◌*◌, ◌%◌, ◌^◌, ◌≤◌, ◌<◌, Ordering}
use native.Mathlib.Nat.{le_trans, le_of_eq, le_of_lt, le_of_suc-le-suc, le_antisymm, lt_of_lt_of_le, lt_of_le_of_lt, lt_of_not-le, not-le_of_lt, lt_irrefl, mul_assoc, mul-le-mul, mul-le-mul_left, mul-le-mul_right, le_of_mul-le-mul_right, mul-pos, zero-mul, eq_of_mul-eq-mul_right, eq-zero-or-pos, pow-succ'}
use native.Mathlib.Omega.{arith}
use lib.Dec.{T, lit<}
use lib.Pow.{pow_pos, pow_mono}
use lib.Ieee.{Float, nan, inf, fin, Format, binary32, binary64, prec, emax, low, hid, top, nearest, units, fits, to_bits}
use lib.Ieee.Fits.{nearest-le}
use lib.Ieee.Nearest.{nearest-ge}
use lib.Ieee.Exact.{HasValue, units_val}
use Rattle.ieee.specs.Order.{finite}
use Rattle.ieee.specs.Rounding.{Exact, AtLeast, AtMost, AsNear, Overflows, RoundTiesToEven}
use Rattle.ieee.proofs.Naturals.{trichotomy}
use Rattle.ieee.proofs.Values.{value_finite, value_negative, value_unique, finite_fin}
use Rattle.ieee.proofs.Units.{Lead, units_fits, units_over, units_small, units_negative}
use Rattle.ieee.proofs.Patterns.{value_bits, edge}
use Rattle.ieee.proofs.ExactSizes.{Proper, least_down, most_up, meet, least?, not_least, not_most, least_scale, least_unscale}
use Rattle.ieee.proofs.Grid.{Grid, zero_on_grid, next_up, Placed, on_grid, same_value}
use Rattle.ieee.proofs.Distance.{Middle, as_near, middle_same, middle_other}

-- ---- where X is cut
abbrev pub Half : Ordering → Exact → ℕ → ℕ → Type 0
Half Ordering.lt X n d = AtLeast X n d → ⊥
Half Ordering.eq X n d = AtLeast X n d × AtMost X n d
Half Ordering.gt X n d = AtMost X n d → ⊥

pub record Cut (f : Format) (X : Exact) (q k : ℕ) (o : Ordering) : Type 0 where
  pub few : q < 2 ^ prec f
  pub lead : Lead f q k
  pub lo : AtLeast X (q * 2 ^ k) (2 ^ low f)
  pub hi : AtLeast X (suc q * 2 ^ k) (2 ^ low f) → ⊥
  pub half : Half o X ((2 * q + 1) * 2 ^ k) (2 ^ low f * 2)

-- ---- the least size that overflows, in halves of a unit: 2 ^ (prec + 1) - 1 of 2 ^ edge
abbrev last : Format → ℕ
last f = 2 ^ suc (prec f) - 1

edge_is : (f : Format) → 2 ^ (low f + suc (emax f)) ≡ 2 ^ prec f * 2 ^ edge f
edge_is binary32 = refl
edge_is binary64 = refl

-- the factor from 1 / 2 ^ prec to half a unit
abbrev gap : Format → ℕ
gap f = 2 ^ (suc (low f) - prec f)

gap_den : (f : Format) → 2 ^ prec f * gap f ≡ 2 ^ low f * 2
gap_den binary32 = refl
gap_den binary64 = refl

gap_num : (f : Format) → 2 ^ emax f * last f * gap f ≡ last f * 2 ^ edge f
gap_num binary32 = refl
gap_num binary64 = refl

module _ (f : Format) (X : Exact) where
  to_halves : Overflows f X → AtLeast X (last f * 2 ^ edge f) (2 ^ low f * 2)
  to_halves h =
      subst (λ (d : ℕ). AtLeast X (last f * 2 ^ edge f) d) (gap_den f)
      (subst (λ (n : ℕ). AtLeast X n (2 ^ prec f * gap f)) (gap_num f) (least_scale (2 ^ emax f * last f) (2 ^ prec f) (gap f) X h))

  from_halves : AtLeast X (last f * 2 ^ edge f) (2 ^ low f * 2) → Overflows f X
  from_halves h =
      least_unscale (2 ^ emax f * last f) (2 ^ prec f) (gap f) (pow_pos (suc (low f) - prec f)) X
      (subst (λ (d : ℕ). AtLeast X (2 ^ emax f * last f * gap f) d) (sym (gap_den f)) (subst (λ (n : ℕ). AtLeast X n (2 ^ low f * 2)) (sym (gap_num f)) h))

-- ---- X, cut
module _ (f : Format) (X : Exact) (P : Proper X) (q k : ℕ) (o : Ordering) (C : Cut f X q k o) where
  abbrev K : ℕ
  K = 2 ^ k

  abbrev L : ℕ
  L = 2 ^ low f

  abbrev r : ℕ
  r = nearest q o

  abbrev H : ℕ
  H = (2 * q + 1) * K

  lo2 : AtLeast X (2 * q * K) (L * 2)
  lo2 = subst (λ (n : ℕ). AtLeast X n (L * 2)) (go q K) (least_scale (q * K) L 2 X C.lo)
    where
      go : (q K : ℕ) → q * K * 2 ≡ 2 * q * K
      go q K = omega arith

  hi2 : AtLeast X (2 * suc q * K) (L * 2) → ⊥
  hi2 h = C.hi (least_unscale (suc q * K) L 2 (lit< tt) X (subst (λ (n : ℕ). AtLeast X n (L * 2)) (go q K) h))
    where
      go : (q K : ℕ) → 2 * suc q * K ≡ suc q * K * 2
      go q K = omega arith

  -- r is q where X is at most the half, and q + 1 where X is at least that
  abbrev Side : Type 0
  Side = ((r ≡ q) × AtMost X H (L * 2)) ⊎ ((r ≡ suc q) × AtLeast X H (L * 2))

  side : Side
  side = go o C.half
    where
      tie : (w : ℕ) → q % 2 ≡ w → AtLeast X H (L * 2) × AtMost X H (L * 2) → ((q + q % 2 ≡ q) × AtMost X H (L * 2)) ⊎ ((q + q % 2 ≡ suc q) × AtLeast X H (L * 2))
      tie zero z h = inl (omega arith, h.1)
      tie (suc w) z h = inr (omega arith, h.0)

      go : (o : Ordering) → Half o X H (L * 2) → ((nearest q o ≡ q) × AtMost X H (L * 2)) ⊎ ((nearest q o ≡ suc q) × AtLeast X H (L * 2))
      go Ordering.lt h = inl (refl, not_least X H (L * 2) h)
      go Ordering.eq h = tie (q % 2) refl h
      go Ordering.gt h = inr (refl, not_most X H (L * 2) h)

  -- ---- none is nearer
  module _ (Y : ℕ) (G : Grid (prec f) Y) where
    next : q * K < Y → suc q * K ≤ Y
    next = next_up (prec f) k Y G q C.lead

    below : Y < suc q * K → Y ≤ q * K
    below g = le_of_suc-le-suc (lt_of_not-le (λ (h : suc (q * K) ≤ Y). not-le_of_lt g (next h)))

    over_q : suc q * K ≤ Y → H ≤ q * K + Y
    over_q g = go q K Y g
      where
        go : (q K Y : ℕ) → suc q * K ≤ Y → (2 * q + 1) * K ≤ q * K + Y
        go q K Y g = omega arith

    under_q : Y < q * K → q * K + Y < 2 * q * K
    under_q g = go q K Y g
      where
        go : (q K Y : ℕ) → Y < q * K → q * K + Y < 2 * q * K
        go q K Y g = omega arith

    over_suc : suc q * K < Y → 2 * suc q * K ≤ suc q * K + Y
    over_suc g = go q K Y g
      where
        go : (q K Y : ℕ) → suc q * K < Y → 2 * suc q * K ≤ suc q * K + Y
        go q K Y g = omega arith

    under_suc : Y ≤ q * K → suc q * K + Y ≤ H
    under_suc g = go q K Y g
      where
        go : (q K Y : ℕ) → Y ≤ q * K → suc q * K + Y ≤ (2 * q + 1) * K
        go q K Y g = omega arith

    pub middle : Middle X L (r * K) Y
    middle = go r side
      where
        go : (r : ℕ) → ((r ≡ q) × AtMost X H (L * 2)) ⊎ ((r ≡ suc q) × AtLeast X H (L * 2)) → Middle X L (r * K) Y
        go r (inl s) = rw s.0 (λ h. most_up X (L * 2) (over_q (next h)) s.1, λ h. least_down X (L * 2) (le_of_lt (under_q h)) lo2)
        go r (inr s) = rw s.0 (λ h. most_up X (L * 2) (over_suc h) (not_least X (2 * suc q * K) (L * 2) hi2), λ h. least_down X (L * 2) (under_suc (below h)) s.1)

    -- ---- where another is as near, X is the half and r is even
    turn : (a b : ℕ) → a + b ≡ b + a
    turn a b = omega arith

    tied : (Y ≡ r * K → ⊥) → Middle X L Y (r * K) → (r % 2 ≡ 0) × AtLeast X H (L * 2) × AtMost X H (L * 2)
    tied = go o C.half
      where
        even : (q : ℕ) → (q + q % 2) % 2 ≡ 0
        even q = omega arith

        none : (o : Ordering) → (Y < nearest q o * K → ⊥) → (nearest q o * K < Y → ⊥) → (Y ≡ nearest q o * K → ⊥) → ⊥
        none o a b n = elim (trichotomy Y (nearest q o * K)) [ inl l ↦ a l | inr (inl e) ↦ n e | inr (inr g) ↦ b g ]

        go : (o : Ordering) → Half o X H (L * 2) → (Y ≡ nearest q o * K → ⊥) → Middle X L Y (nearest q o * K) → (nearest q o % 2 ≡ 0) × AtLeast X H (L * 2) × AtMost X H (L * 2)
        go Ordering.lt h n M = absurd
            (none Ordering.lt
            (λ l. lt_irrefl (q * K + Y) (lt_of_lt_of_le (under_q l) (meet X (L * 2) P lo2 (subst (λ (x : ℕ). AtMost X x (L * 2)) (turn Y (q * K)) (M.0 l)))))
            (λ l. h (least_down X (L * 2) (over_q (next l)) (subst (λ (x : ℕ). AtLeast X x (L * 2)) (turn Y (q * K)) (M.1 l))))
            n)
        go Ordering.eq h n M = (even q, h.0, h.1)
        go Ordering.gt h n M = absurd
            (none Ordering.gt
            (λ l. h (most_up X (L * 2) (under_suc (below l)) (subst (λ (x : ℕ). AtMost X x (L * 2)) (turn Y (suc q * K)) (M.0 l))))
            (λ l. hi2 (least_down X (L * 2) (over_suc l) (subst (λ (x : ℕ). AtLeast X x (L * 2)) (turn Y (suc q * K)) (M.1 l))))
            n)

    -- the other one is r's neighbour, which is odd
    across : (Y ≡ r * K → ⊥) → Middle X L Y (r * K) → Y + r * K ≡ H
    across n M =
        let t = tied n M in
        elim (trichotomy Y (r * K)) [
          | inl l ↦ le_antisymm (meet X (L * 2) P (subst (λ (x : ℕ). AtLeast X x (L * 2)) (turn (r * K) Y) (middle.1 l)) t.2) (meet X (L * 2) P t.1 (M.0 l))
          | inr (inl e) ↦ absurd (n e)
          | inr (inr g) ↦ le_antisymm (meet X (L * 2) P (M.1 g) t.2) (meet X (L * 2) P t.1 (subst (λ (x : ℕ). AtMost X x (L * 2)) (turn (r * K) Y) (middle.0 g)))
        ]

    neighbour : (Y ≡ r * K → ⊥) → Middle X L Y (r * K) → (n : ℕ) × (Y ≡ n * K) × (q ≤ n) × (n ≤ suc q) × (n % 2 ≡ 1)
    neighbour n M =
        let e = (tied n M).0 in
        let l = nearest-ge q o in
        let h = nearest-le q o in
        (2 * q + 1 - r, place (2 * q + 1 - r) r q K Y (sum q r h) (across n M), low_end q r h, high_end q r l, last_digit q r h e)
      where
        sum : (q r : ℕ) → r ≤ suc q → 2 * q + 1 - r + r ≡ 2 * q + 1
        sum q r h = omega arith

        low_end : (q r : ℕ) → r ≤ suc q → q ≤ 2 * q + 1 - r
        low_end q r h = omega arith

        high_end : (q r : ℕ) → q ≤ r → 2 * q + 1 - r ≤ suc q
        high_end q r h = omega arith

        last_digit : (q r : ℕ) → r ≤ suc q → r % 2 ≡ 0 → (2 * q + 1 - r) % 2 ≡ 1
        last_digit q r h e = omega arith

        place : (n r q K Y : ℕ) → n + r ≡ 2 * q + 1 → Y + r * K ≡ (2 * q + 1) * K → Y ≡ n * K
        place n r q K Y e h =
            let p : (n + r) * K ≡ (2 * q + 1) * K = ap (λ (x : ℕ). x * K) e in
            omega arith

  -- ---- the infinity
  abbrev a : ℕ
  a = 2 ^ prec f

  abbrev E : ℕ
  E = 2 ^ edge f

  twice : last f + 1 ≡ 2 * a
  twice = go f
    where
      go : (f : Format) → 2 ^ suc (prec f) - 1 + 1 ≡ 2 * 2 ^ prec f
      go binary32 = refl
      go binary64 = refl

  r_le : r ≤ a
  r_le = le_trans (nearest-le q o) C.few

  -- k digits are dropped: fewer than at the edge, or more
  fewer : k < edge f → 2 * K ≤ E
  fewer h = le_trans (le_of_eq (sym (pow-succ' 2 k))) (pow_mono h)

  more : edge f < k → 2 * E ≤ K
  more h = le_trans (le_of_eq (sym (pow-succ' 2 (edge f)))) (pow_mono h)

  long : edge f < k → a ≤ 2 * q
  long h = elim C.lead [ inl z ↦ absurd (none (edge f) k h z) | inr l ↦ l ]
    where
      none : (e k : ℕ) → e < k → k ≡ 0 → ⊥
      none e k h z = omega arith

  large : edge f < k → a * E ≤ q * K
  large h = go a E q K (mul-le-mul (long h) (more h))
    where
      go : (a E q K : ℕ) → a * (2 * E) ≤ 2 * q * K → a * E ≤ q * K
      go a E q K h = omega arith

  -- at the edge, an X from the last half on: q has all digits 1
  ones_only : AtLeast X (last f * K) (L * 2) → q + 1 ≡ a
  ones_only h = elim (trichotomy (q + 1) a) [
    | inl l ↦ absurd (hi2 (least_down X (L * 2) (mul-le-mul_right K (short q a (last f) twice l)) h))
    | inr (inl e) ↦ e
    | inr (inr g) ↦ absurd (lt_irrefl a (lt_of_lt_of_le g (subst (λ (x : ℕ). x ≤ a) (next q) C.few)))
  ]
    where
      short : (q a l : ℕ) → l + 1 ≡ 2 * a → q + 1 < a → 2 * suc q ≤ l
      short q a l e h = omega arith

      next : (q : ℕ) → suc q ≡ q + 1
      next q = omega arith

  half_is : q + 1 ≡ a → H ≡ last f * K
  half_is e = ap (λ (x : ℕ). x * K) (go q a (last f) twice e)
    where
      go : (q a l : ℕ) → l + 1 ≡ 2 * a → q + 1 ≡ a → 2 * q + 1 ≡ l
      go q a l t e = omega arith

  up_there : q + 1 ≡ a → AtLeast X H (L * 2) → r ≡ a
  up_there e h = go o C.half
    where
      even : (f : Format) (q : ℕ) → q + 1 ≡ 2 ^ prec f → q + q % 2 ≡ 2 ^ prec f
      even binary32 q e = omega arith
      even binary64 q e = omega arith

      go : (o : Ordering) → Half o X H (L * 2) → nearest q o ≡ a
      go Ordering.lt n = absurd (n h)
      go Ordering.eq n = even f q e
      go Ordering.gt n = omega arith

  over : AtLeast X (last f * E) (L * 2) → 2 ^ (low f + suc (emax f)) ≤ r * K
  over h = rw (edge_is f) (elim (trichotomy k (edge f)) [
    | inl l ↦ absurd (hi2 (least_down X (L * 2) (small q a (last f) K E twice C.few (mul-le-mul C.few (fewer l)) (mul-le-mul_right E (half a (last f) (pow_pos (prec f)) twice))) h))
    | inr (inl e) ↦
        let h' : AtLeast X (last f * K) (L * 2) = subst (λ (x : ℕ). AtLeast X (last f * 2 ^ x) (L * 2)) (sym e) h in
        let w = ones_only h' in
        le_of_eq (sym (ap (λ (x : ℕ). x * K) (up_there w (subst (λ (x : ℕ). AtLeast X x (L * 2)) (sym (half_is w)) h')) ∙ ap (λ (x : ℕ). a * 2 ^ x) e))
    | inr (inr g) ↦ le_trans (large g) (mul-le-mul_right K (nearest-ge q o))
  ])
    where
      half : (a l : ℕ) → 0 < a → l + 1 ≡ 2 * a → a ≤ l
      half a l p e = omega arith

      small : (q a l K E : ℕ) → l + 1 ≡ 2 * a → suc q ≤ a → suc q * (2 * K) ≤ a * E → a * E ≤ l * E → 2 * suc q * K ≤ l * E
      small q a l K E t f g h = omega arith

  under : (AtLeast X (last f * E) (L * 2) → ⊥) → r * K < 2 ^ (low f + suc (emax f))
  under n = rw (edge_is f) (lt_of_not-le (λ (h : a * E ≤ r * K). elim (trichotomy k (edge f)) [
    | inl l ↦ short a r K E (pow_pos k) (mul-le-mul_left a (fewer l)) (pow_pos (prec f)) (mul-le-mul_right K r_le) h (mul-pos (pow_pos (prec f)) (pow_pos k))
    | inr (inl e) ↦
        let g : a ≤ r = le_of_mul-le-mul_right (subst (λ (x : ℕ). a * 2 ^ x ≤ r * K) (sym e) h) (pow_pos k) in
        n (subst (λ (x : ℕ). AtLeast X (last f * 2 ^ x) (L * 2)) e (at_edge g side))
    | inr (inr g) ↦ n (least_down X (L * 2) (most a E (last f) (q * K) twice (large g)) (subst (λ (x : ℕ). AtLeast X x (L * 2)) (mul_assoc 2 q K) lo2))
  ]))
    where
      short : (a r K E : ℕ) → 0 < K → a * (2 * K) ≤ a * E → 0 < a → r * K ≤ a * K → a * E ≤ r * K → 0 < a * K → ⊥
      short a r K E p h q g i j = omega arith

      most : (a E l x : ℕ) → l + 1 ≡ 2 * a → a * E ≤ x → l * E ≤ 2 * x
      most a E l x e h = le_trans (mul-le-mul_right E (go a l e)) (le_trans (le_of_eq (mul_assoc 2 a E)) (mul-le-mul_left 2 h))
        where
          go : (a l : ℕ) → l + 1 ≡ 2 * a → l ≤ 2 * a
          go a l e = omega arith

      at_edge : a ≤ r → Side → AtLeast X (last f * K) (L * 2)
      at_edge g (inl s) = absurd (lt_irrefl a (lt_of_le_of_lt g (subst (λ (x : ℕ). x < a) (sym s.0) C.few)))
      at_edge g (inr s) = subst (λ (x : ℕ). AtLeast X x (L * 2)) (half_is (full q r a s.0 g C.few)) s.1
        where
          full : (q r a : ℕ) → r ≡ suc q → a ≤ r → q < a → q + 1 ≡ a
          full q r a e g h = omega arith

  -- ---- the last digit of a value's pattern is that of its significand
  parity : (n : ℕ) → q ≤ n → n ≤ a → (y : Float) (s : Bool) → HasValue y s (n * K) L → to_bits f y % 2 ≡ n % 2
  parity n lo hi y s v = ap (λ (x : ℕ). x % 2) (value_bits f n k hi lead y s v) ∙ go f s k n
    where
      lead : Lead f n k
      lead = elim C.lead [ inl z ↦ inl z | inr l ↦ inr (le_trans l (mul-le-mul_left 2 lo)) ]

      go : (f : Format) (s : Bool) (k r : ℕ) → (cond s (top f) 0 + (k * hid f + r)) % 2 ≡ r % 2
      go binary32 true k r = omega arith
      go binary32 false k r = omega arith
      go binary64 true k r = omega arith
      go binary64 false k r = omega arith

  module _ (s : Bool) where
    abbrev u : Float
    u = units f s r k

    value : T (finite u) → HasValue u s (r * K) L
    value F = units_val f s r k (units_small f s r k F)

    nearest_is : T (finite u) → (y : Float) → T (fits f y) → AsNear s X u y
    nearest_is F nan G = λ t d D n. absurd n
    nearest_is F (inf b) G = λ t d D n. absurd n
    nearest_is F (fin b m e) G =
        let p = on_grid f (fin b m e) G (finite_fin b m e) in
        as_near s X P L (pow_pos (low f)) u (fin b m e) (r * K) p.size (value F) p.sign p.value (middle p.size p.grid) (middle 0 (zero_on_grid (prec f)))

    even_is : T (finite u) → (y : Float) → T (fits f y) → T (finite y) → (y ≡ u → ⊥) → AsNear s X y u → to_bits f u % 2 ≡ 0
    even_is F y G N n A = parity r (nearest-ge q o) r_le u s (value F) ∙ go (beq s p.sign) refl
      where
        p : Placed f y
        p = on_grid f y G N

        v : HasValue u s (r * K) L
        v = value F

        signs : (b c : Bool) → beq b c ≡ true → c ≡ b
        signs true true h = refl
        signs true false h = absurd (false≢true h)
        signs false true h = absurd (false≢true h)
        signs false false h = refl

        same : HasValue y s p.size L → r % 2 ≡ 0
        same w = (tied p.size p.grid (λ (e : p.size ≡ r * K). n (same_value f y u s (r * K) G (units_fits f s r k r_le) (subst (λ (x : ℕ). HasValue y s x L) e w) v)) (middle_same s X P L (pow_pos (low f)) u y (r * K) p.size v A w)).0

        zero_even : 0 ≡ r * K → r % 2 ≡ 0
        zero_even z = ap (λ (x : ℕ). x % 2) (eq_of_mul-eq-mul_right K (pow_pos k) r 0 (sym z ∙ sym (zero-mul K)))

        other : beq s p.sign ≡ false → r % 2 ≡ 0
        other h =
            let M : Middle X L 0 (r * K) = middle_other s X P L (pow_pos (low f)) u y (r * K) p.size v A p.sign h p.value in
            elim (eq-zero-or-pos (r * K)) [
              | inl z ↦ zero_even (sym z)
              | inr l ↦ (tied 0 (zero_on_grid (prec f)) (λ (e : 0 ≡ r * K). lt_irrefl 0 (subst (λ (x : ℕ). 0 < x) (sym e) l)) M).0
            ]

        go : (b : Bool) → beq s p.sign ≡ b → r % 2 ≡ 0
        go true h = same (subst (λ (b : Bool). HasValue y b p.size L) (signs s p.sign h) p.value)
        go false h = other h

    pub rounds : RoundTiesToEven f s X u
    rounds = record {
      held = units_fits f s r k r_le;
      sign = units_negative f s r k;
      over = λ h. units_over f s r k (over (to_halves f X h));
      under = λ h. value_finite u s (r * K) L (units_val f s r k (under (λ g. h (from_halves f X g))));
      nearest = nearest_is;
      even = even_is;
    }

    -- ---- and nothing else is
    module _ (y : Float) (A : RoundTiesToEven f s X y) where
      inside : (Overflows f X → ⊥) → y ≡ u
      inside n = go (decide Y (r * K))
        where
          F : T (finite y)
          F = A.under n

          G : T (finite u)
          G = rounds.under n

          p : Placed f y
          p = on_grid f y A.held F

          Y : ℕ
          Y = p.size

          w : HasValue y s Y L
          w = subst (λ (b : Bool). HasValue y b Y L) (sym (value_negative y p.sign Y L p.value) ∙ A.sign) p.value

          decide : (a b : ℕ) → (a ≡ b) ⊎ (a ≡ b → ⊥)
          decide a b = elim (trichotomy a b) [ inl l ↦ inr (λ (e : a ≡ b). lt_irrefl b (subst (λ (x : ℕ). x < b) e l)) | inr (inl e) ↦ inl e | inr (inr g) ↦ inr (λ (e : a ≡ b). lt_irrefl b (subst (λ (x : ℕ). b < x) e g)) ]

          go : (Y ≡ r * K) ⊎ (Y ≡ r * K → ⊥) → y ≡ u
          go (inl e) = same_value f y u s (r * K) A.held (units_fits f s r k r_le) (subst (λ (x : ℕ). HasValue y s x L) e w) (value G)
          go (inr d) =
              let t = neighbour Y p.grid d (middle_same s X P L (pow_pos (low f)) u y (r * K) Y (value G) (A.nearest F u rounds.held) w) in
              let even : to_bits f y % 2 ≡ 0 = A.even F u rounds.held G (λ (e : u ≡ y). d (value_unique y s Y (r * K) L w (subst (λ (x : Float). HasValue x s (r * K) L) e (value G)))) (rounds.nearest G y A.held) in
              let odd : to_bits f y % 2 ≡ 1 = parity t.0 t.2 (le_trans t.3 C.few) y s (subst (λ (x : ℕ). HasValue y s x L) t.1 w) ∙ t.4 in
              absurd (no (to_bits f y % 2) even odd)
            where
              no : (x : ℕ) → x ≡ 0 → x ≡ 1 → ⊥
              no x a b = omega arith

      pub only : y ≡ u
      only = elim (least? X (2 ^ emax f * (2 ^ suc (prec f) - 1)) (2 ^ prec f)) [ inl h ↦ A.over h ∙ sym (rounds.over h) | inr n ↦ inside n ]
