-- The step is the least: it reaches the pixels and no smaller one does; and only one number is such. Assumes nothing.
use mathlib.Core.Path.{◌≡◌, refl, sym, ap, ◌∙◌}
use mathlib.Core.Bool.{Bool, true, false}
use mathlib.Core.Logic.{⊎_elim}
use Prim.Native.Nat.{ℕ, zero, suc, ◌+◌, ◌-◌, ◌*◌, ◌/◌, ◌≤◌, ◌<◌}
use native.Mathlib.Nat.{eq-or-lt_of_le, le_antisymm, mul-le-mul, mul-le-mul_left, le-div_iff_mul-le, div-lt_iff_lt-mul}
use native.Mathlib.Omega.{arith}
use borrow.Author.Tests.{leb-true, leb-false}
use lib.Dec.{leb}
use Rattle.grid.specs.Step.{IsStep, first_from, step_of}
use Rattle.grid.specs.Grid.{Sides}

-- ---- the first number that passes a test

pub record IsFirst (p : ℕ → Bool) (k n r : ℕ) : Type 0 where
  pub low : k ≤ r
  pub most : r ≤ k + n
  pub before : (t : ℕ) → k ≤ t → t < r → p t ≡ false
  pub passes : r < k + n → p r ≡ true

pub first_is : (p : ℕ → Bool) (k n : ℕ) → IsFirst p k n (first_from p k n)
first_is p k zero = record { low = omega arith; most = omega arith; before = λ t a b. absurd (never k t a b); passes = λ h. absurd (none k h) }
  where
    never : (k t : ℕ) → k ≤ t → t < k → ⊥
    never k t a b = omega arith

    none : (k : ℕ) → k < k + zero → ⊥
    none k h = omega arith
first_is p k (suc n) = go (first_is p (suc k) n) (p k) refl
  where
    never : (k t : ℕ) → k ≤ t → t < k → ⊥
    never k t a b = omega arith

    go : IsFirst p (suc k) n (first_from p (suc k) n) → (b : Bool) → p k ≡ b → IsFirst p k (suc n) (elim b [ true ↦ k | false ↦ first_from p (suc k) n ])
    go next true e = record { low = omega arith; most = omega arith; before = λ t a b. absurd (never k t a b); passes = λ h. e }
    go next false e =
        record {
          low = omega arith;
          most = omega arith;
          before = λ t a b. ⊎_elim (λ q. ap p (sym q) ∙ e) (λ q. next.before t (omega arith) b) (eq-or-lt_of_le a);
          passes = λ h. next.passes (omega arith);
        }

-- ---- the step

ample : (s windows : ℕ) → 1 ≤ s → 1 ≤ windows → s ≤ s * s * windows
ample s m h g = omega (arith, mul-le-mul_left s h, mul-le-mul_left (s * s) g)

pub step_is : (pixels windows : ℕ) → 1 ≤ windows → IsStep pixels windows (step_of pixels windows)
unfolding step_of
step_is pixels windows h =
    let s = step_of pixels windows in
    let f : IsFirst (λ s. leb pixels (s * s * windows)) 1 pixels s = first_is (λ s. leb pixels (s * s * windows)) 1 pixels in
    record {
      some = f.low;
      reaches = ⊎_elim (λ e. omega (arith, ample s windows f.low h)) (λ l. leb-true pixels (s * s * windows) (f.passes l)) (eq-or-lt_of_le f.most);
      least = λ t a b. leb-false pixels (t * t * windows) (f.before t a b);
    }

below : {pixels windows s t : ℕ} → IsStep pixels windows s → IsStep pixels windows t → s ≤ t
below {pixels} {windows} {s} {t} a b =
    let not : t < s → ⊥ = λ h. low (a.least t b.some h) b.reaches in
    omega arith
  where
    low : {m n : ℕ} → m < n → n ≤ m → ⊥
    low h g = omega arith

pub step_unique : {pixels windows s t : ℕ} → IsStep pixels windows s → IsStep pixels windows t → s ≡ t
step_unique a b = le_antisymm (below a b) (below b a)

-- one more than the last whose square falls short
pub root_is : {pixels windows : ℕ} (r : ℕ) → 1 ≤ pixels → 1 ≤ windows
    → r * r ≤ (pixels - 1) / windows → (pixels - 1) / windows < (r + 1) * (r + 1) → r + 1 ≡ step_of pixels windows
root_is {pixels} {windows} r g h low high =
    step_unique
    (record {
      some = omega arith;
      reaches = omega (arith, g, (div-lt_iff_lt-mul {k = windows} {x = pixels - 1} {y = (r + 1) * (r + 1)} h).0 high);
      least = λ t a b.
          let t_most : t ≤ r = omega arith in
          let root : t * t ≤ (pixels - 1) / windows = omega (arith, low, mul-le-mul t_most t_most) in
          omega (arith, g, (le-div_iff_mul-le {k = windows} {x = t * t} {y = pixels - 1} h).0 root);
    })
    (step_is pixels windows h)

-- few pixels: the first step reaches them
pub one_is : {pixels windows : ℕ} → 1 ≤ windows → pixels ≤ windows → 1 ≡ step_of pixels windows
one_is {pixels} {windows} h e =
    step_unique
    (record { some = omega arith; reaches = omega (arith, e); least = λ t a b. absurd (none t a b) })
    (step_is pixels windows h)
  where
    none : (t : ℕ) → 1 ≤ t → t < 1 → ⊥
    none t a b = omega arith

-- ---- of the sides that a pass takes

pub few : (w h : ℕ) → Sides w h → w * h ≤ 268435456
few w h s = omega (arith, mul-le-mul s.w_most s.h_most)

pub step_most : (w h windows : ℕ) → Sides w h → 1 ≤ windows → step_of (w * h) windows ≤ 16384
step_most w h windows s g =
    let e = step_is (w * h) windows g in
    let t = step_of (w * h) windows - 1 in
    let room : 16384 ≤ t → ⊥ =
    λ k. omega (arith, mul-le-mul k k, mul-le-mul_left (t * t) g, few w h s, e.least t (omega arith) (omega arith)) in
    omega (arith, e.some, room)
