-- Square roots of whole numbers: `root n` is the whole part of n's root (`root_is`, `root_unique`), and the step of the loop that works one out.
use mathlib.Core.Path.{◌≡◌, sym, ap, ◌∙◌, subst}
use mathlib.Core.Logic.{inl, inr}
use mathlib.Core.Bool.{Bool, true, false, not, cond}
use Prim.Native.Nat.{ℕ, zero, suc, ◌+◌, ◌-◌, ◌*◌, ◌/◌, ◌%◌, ◌^◌, ◌≤◌, ◌<◌}
use native.Mathlib.Nat.{le_trans, lt_of_lt_of_le, lt_of_not-le, le_antisymm, le_of_suc-le-suc, lt_irrefl, mul-le-mul, pow-suc, pow-le-pow_left}
use native.Mathlib.Numerals.{add-one}
use native.Mathlib.Omega.{arith}
use lib.Dec.{T, leb, leb→le, nleb→lt, lit≤, lit<}
use lib.Ieee.{size, nearest}
use lib.Ieee.Digits.{size-lt}
use Rattle.ieee.specs.Sqrt.{root_to, root, halfway, nearest_root}
use Rattle.ieee.proofs.Naturals.{le_or_lt, compare_lt, compare_gt}

-- r is the whole part of n's root
abbrev pub IsRoot : ℕ → ℕ → Type 0
IsRoot n r = (r * r ≤ n) × (n < suc r * suc r)

pub root_unique : (n q r : ℕ) → IsRoot n q → IsRoot n r → q ≡ r
root_unique n q r a b = le_antisymm (go q r a b) (go r q b a)
  where
    go : (q r : ℕ) → IsRoot n q → IsRoot n r → q ≤ r
    go q r a b = le_of_suc-le-suc (lt_of_not-le (λ (g : suc r ≤ q). lt_irrefl n (lt_of_lt_of_le b.1 (le_trans (mul-le-mul g g) a.0))))

four : (m i : ℕ) → m * 4 ^ (i + 1) ≡ 4 * (m * 4 ^ i)
four m i = rw (add-one i, pow-suc 4 i) (omega arith)

two : (i : ℕ) → 2 ^ (i + 1) ≡ 2 * 2 ^ i
two i = rw (add-one i, pow-suc 2 i) (omega arith)

-- ---- `root`
digit : (d n : ℕ) → n < 4 ^ suc d → n / 4 < 4 ^ d
digit d n h = omega (arith, pow-suc 4 d)

root_step : (n r : ℕ) (b : Bool) → (T b → suc (2 * r) * suc (2 * r) ≤ n) → (T (not b) → n < suc (2 * r) * suc (2 * r)) → IsRoot (n / 4) r → IsRoot n (cond b (suc (2 * r)) (2 * r))
root_step n r true h k s = (h tt, next s.1)
  where
    next : n / 4 < suc r * suc r → n < suc (suc (2 * r)) * suc (suc (2 * r))
    next g = omega arith
root_step n r false h k s = (same s.0, k tt)
  where
    same : r * r ≤ n / 4 → 2 * r * (2 * r) ≤ n
    same g = omega arith

root_to_lem : (d n : ℕ) → n < 4 ^ d → IsRoot n (root_to d n)
unfolding root_to
root_to_lem zero n h = (omega arith, omega arith)
root_to_lem (suc d) n h =
    let r = root_to d (n / 4) in
    root_step n r (leb (suc (2 * r) * suc (2 * r)) n) (leb→le (suc (2 * r) * suc (2 * r)) n) (nleb→lt (suc (2 * r) * suc (2 * r)) n) (root_to_lem d (n / 4) (digit d n h))

pub root_is : (n : ℕ) → IsRoot n (root n)
unfolding root
root_is n = root_to_lem (size n) n (lt_of_lt_of_le (size-lt n) (pow-le-pow_left (lit≤ tt) (size n)))

-- ---- a root q of n, with n = q * q + over: rounded, by how `over` compares with q
pub rounded : (q over : ℕ) → over ≤ 2 * q → (q < over → nearest_root (q * q + over) ≡ suc q) × (over ≤ q → nearest_root (q * q + over) ≡ q)
unfolding nearest_root
rounded q over h =
    let n = q * q + over in
    let e : root n ≡ q = root_unique n (root n) q (root_is n) (omega arith, omega arith) in (
      λ g. ap (halfway n 1) e ∙ ap (nearest q) (compare_gt (4 * n) ((2 * q + 1) * (2 * q + 1) * 1) (omega arith)),
      λ g. ap (halfway n 1) e ∙ ap (nearest q) (compare_lt (4 * n) ((2 * q + 1) * (2 * q + 1) * 1) (omega arith)),
    )

-- ---- the loop: after i of the steps the i leading digits of the root are known
pub record Digits (m n rest q over i : ℕ) : Type 0 where
  pub count : i ≤ n
  pub few : rest < 2 ^ 54
  pub slack : over ≤ 2 * q
  pub long : q < 2 ^ i
  pub sum : m * 4 ^ i ≡ (q * q + over) * 2 ^ 54 + rest

pub first : (m n : ℕ) → m < 2 ^ 54 → Digits m n m 0 0 0
first m n h = record { count = omega arith; few = h; slack = omega arith; long = lit< tt; sum = omega arith }

module _ {m n rest q over i : ℕ} (D : Digits m n rest q over i) (l : i < n) where
  abbrev d : ℕ
  d = over * 4 + rest / 2 ^ 52

  pub one : q * 4 < d → Digits m n (rest % 2 ^ 52 * 4) (q * 2 + 1) (d - q * 4 - 1) (i + 1)
  one g = record {
    count = omega arith;
    few = omega arith;
    slack = omega arith;
    long = omega (arith, two i);
    sum = omega (arith, four m i);
  }

  pub nought : d ≤ q * 4 → Digits m n (rest % 2 ^ 52 * 4) (q * 2) d (i + 1)
  nought g = record {
    count = omega arith;
    few = omega arith;
    slack = omega arith;
    long = omega (arith, two i);
    sum = omega (arith, four m i);
  }

-- at the end
pub last : (m n rest q over : ℕ) → Digits m n rest q over n → m * 4 ^ n % 2 ^ 54 ≡ 0 → m * 4 ^ n / 2 ^ 54 ≡ q * q + over
last m n rest q over D e = omega arith

pub finish : {m n rest q over i : ℕ} → Digits m n rest q over i → n ≤ i → m * 4 ^ n % 2 ^ 54 ≡ 0
    → (q < over → q + 1 ≡ nearest_root (m * 4 ^ n / 2 ^ 54)) × (over ≤ q → q ≡ nearest_root (m * 4 ^ n / 2 ^ 54))
finish {m} {n} {rest} {q} {over} {i} D l e =
    let at : i ≡ n = omega arith in
    let is : m * 4 ^ n / 2 ^ 54 ≡ q * q + over = last m n rest q over (subst (λ (j : ℕ). Digits m n rest q over j) at D) e in
    let r = rounded q over D.slack in
    (λ g. add-one q ∙ sym (ap nearest_root is ∙ r.0 g), λ g. sym (ap nearest_root is ∙ r.1 g))

-- q is the whole number nearest to n's root where (q - 1 / 2)² < n < (q + 1 / 2)²: in whole numbers, where q² - q < n ≤ q² + q
pub tested : (q n : ℕ) → 0 < q → q * q - q < n → n ≤ q * q + q → nearest_root n ≡ q
tested zero n Q lo hi = absurd (lt_irrefl 0 Q)
tested (suc p) n Q lo hi = elim (le_or_lt (suc p * suc p) n) [
  | inl g ↦
      let is : n ≡ suc p * suc p + (n - suc p * suc p) = omega arith in
      ap nearest_root is ∙ (rounded (suc p) (n - suc p * suc p) (omega arith)).1 (omega arith)
  | inr l ↦
      let is : n ≡ p * p + (n - p * p) = omega arith in
      ap nearest_root is ∙ (rounded p (n - p * p) (omega arith)).0 (omega arith)
]
