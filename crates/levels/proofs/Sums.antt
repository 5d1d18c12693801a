-- f32 sums of whole numbers up to 2 ^ 24 are exact, in any order and grouping: the original's four lanes and one sum from the first to the last are the same. So are the largest and the smallest of whole numbers, by `larger` and `smaller`.
use mathlib.Core.Path.{◌≡◌, refl, sym, ap, ◌∙◌, subst}
use mathlib.Core.Bool.{Bool, true, false, cond, true≢false}
use mathlib.Core.List.{List, [], ◌∷◌, map, foldl}
use Prim.Native.Nat.{ℕ, ◌+◌, ◌-◌, ◌*◌, ◌^◌, ◌≤◌, ◌<◌, min, max}
use native.Mathlib.Nat.{mul-pos, mul_comm, mul-le-mul_right, mul-lt-mul_of_pos_right}
use native.Mathlib.Omega.{arith}
use borrow.Author.Tests.{ltb-true, ltb-false, lt-ltb, le-ltb}
use lib.Dec.{T, ltb}
use lib.IntN.{pos}
use lib.Ieee.{Float, nan, inf, fin, binary32, up, down, add, lt, is_nan, of_int, round, sum}
use lib.Ieee.Exact.{HasValue}
use lib.Ieee.Fits.{down_pos}
use Rattle.ieee.specs.Order.{larger, smaller}
use Rattle.ieee.specs.Numbers.{f32_of}
use Rattle.levels.specs.Clear.{clear}
use Rattle.levels.specs.Levels.{summed}
use Rattle.levels.specs.Adding.{Adding, one, both, exactly, in_floats}
use Rattle.levels.proofs.Wholes.{whole_value, add_whole}

pub sum_exact : (a : Adding) → exactly a ≤ 2 ^ 24 → in_floats a ≡ f32_of (exactly a)
sum_exact (one n) h = refl
sum_exact (both a b) h =
    let p = sum_exact a (omega arith) in
    let q = sum_exact b (omega arith) in
    rw (p, q) (add_whole binary32 (exactly a) (exactly b) (omega arith) (omega arith))

pub any_order : (a b : Adding) → exactly a ≡ exactly b → exactly a ≤ 2 ^ 24 → in_floats a ≡ in_floats b
any_order a b e h = sum_exact a h ∙ ap f32_of e ∙ sym (sum_exact b (subst (λ (n : ℕ). n ≤ 2 ^ 24) e h))

-- from the first to the last
abbrev in_turn : Adding → List ℕ → Adding
in_turn a [] = a
in_turn a (n ∷ l) = in_turn (both a (one n)) l

in_turn_lem : (a : Adding) (l : List ℕ) → foldl (add binary32) (in_floats a) (map f32_of l) ≡ in_floats (in_turn a l)
in_turn_lem a [] = refl
in_turn_lem a (n ∷ l) = in_turn_lem (both a (one n)) l

abbrev pub add_up : List ℕ → ℕ
add_up [] = 0
add_up (n ∷ l) = n + add_up l

exactly_turn : (a : Adding) (l : List ℕ) → exactly (in_turn a l) ≡ exactly a + add_up l
exactly_turn a [] = omega arith
exactly_turn a (n ∷ l) = exactly_turn (both a (one n)) l ∙ go (exactly a) n (add_up l)
  where
    go : (a n k : ℕ) → a + n + k ≡ a + (n + k)
    go a n k = omega arith

pub summed_exact : (l : List ℕ) → add_up l ≤ 2 ^ 24 → summed (map f32_of l) ≡ f32_of (add_up l)
summed_exact l h = in_turn_lem (one 0) l ∙ sum_exact (in_turn (one 0) l) (omega (arith, exactly_turn (one 0) l)) ∙ ap f32_of (exactly_turn (one 0) l ∙ go (add_up l))
  where
    go : (n : ℕ) → 0 + n ≡ n
    go n = omega arith

pub summed_any_order : (l : List ℕ) (a : Adding) → exactly a ≡ add_up l → add_up l ≤ 2 ^ 24 → in_floats a ≡ summed (map f32_of l)
summed_any_order l a e h = sum_exact a (omega arith) ∙ ap f32_of e ∙ sym (summed_exact l h)

-- ---- the order of whole numbers is that of their floats

less_at : (x y : Float) (a b : ℕ) → HasValue x false a 1 → HasValue y false b 1 → lt x y ≡ ltb a b
unfolding lt
less_at nan y a b g h = absurd g
less_at (inf s) y a b g h = absurd g
less_at (fin true m e) y a b g h = absurd (true≢false g.0)
less_at (fin false m e) nan a b g h = absurd h
less_at (fin false m e) (inf t) a b g h = absurd h
less_at (fin false m e) (fin true n d) a b g h = absurd (true≢false h.0)
less_at (fin false m e) (fin false n d) a b g h =
    ap (λ (k : ℕ). ltb k (n * up d * down e)) (over (m * up e) a (down e) (down d) g.1)
    ∙ ap (λ (k : ℕ). ltb (a * (down e * down d)) k) (over (n * up d) b (down d) (down e) h.1 ∙ ap (λ (k : ℕ). b * k) (mul_comm (down d) (down e)))
    ∙ scaled a b (down e * down d) (mul-pos (down_pos e) (down_pos d))
  where
    over : (m a p q : ℕ) → m * 1 ≡ a * p → m * q ≡ a * (p * q)
    over m a p q g = rw (one m a p g) (omega arith)
      where
        one : (m a p : ℕ) → m * 1 ≡ a * p → m ≡ a * p
        one m a p g = omega arith

    scaled : (a b c : ℕ) → 0 < c → ltb (a * c) (b * c) ≡ ltb a b
    scaled a b c C = go (ltb a b) refl
      where
        go : (t : Bool) → ltb a b ≡ t → ltb (a * c) (b * c) ≡ t
        go true t = lt-ltb (a * c) (b * c) (mul-lt-mul_of_pos_right (ltb-true a b t) C)
        go false t = le-ltb (a * c) (b * c) (mul-le-mul_right c (ltb-false a b t))

pub less_whole : (a b : ℕ) → a ≤ 2 ^ 24 → b ≤ 2 ^ 24 → lt (f32_of a) (f32_of b) ≡ ltb a b
less_whole a b p q = less_at (f32_of a) (f32_of b) a b (whole_value binary32 a p) (whole_value binary32 b q)

number : (x : Float) (a : ℕ) → HasValue x false a 1 → is_nan x ≡ false
unfolding is_nan
number nan a g = absurd g
number (inf s) a g = absurd g
number (fin s m e) a g = refl

pub larger_whole : (a b : ℕ) → a ≤ 2 ^ 24 → b ≤ 2 ^ 24 → larger (f32_of a) (f32_of b) ≡ f32_of (max a b)
unfolding larger
larger_whole a b p q =
    ap (λ (t : Bool). cond t (f32_of b) (cond (lt (f32_of a) (f32_of b)) (f32_of b) (f32_of a))) (number (f32_of a) a (whole_value binary32 a p))
    ∙ ap (λ (t : Bool). cond t (f32_of b) (f32_of a)) (less_whole a b p q) ∙ go (ltb a b) refl
  where
    go : (t : Bool) → ltb a b ≡ t → cond t (f32_of b) (f32_of a) ≡ f32_of (max a b)
    go true t = ap f32_of (most a b (ltb-true a b t))
      where
        most : (a b : ℕ) → a < b → b ≡ max a b
        most a b h = omega arith
    go false t = ap f32_of (most a b (ltb-false a b t))
      where
        most : (a b : ℕ) → b ≤ a → a ≡ max a b
        most a b h = omega arith

pub smaller_whole : (a b : ℕ) → a ≤ 2 ^ 24 → b ≤ 2 ^ 24 → smaller (f32_of a) (f32_of b) ≡ f32_of (min a b)
unfolding smaller
smaller_whole a b p q =
    ap (λ (t : Bool). cond t (f32_of b) (cond (lt (f32_of b) (f32_of a)) (f32_of b) (f32_of a))) (number (f32_of a) a (whole_value binary32 a p))
    ∙ ap (λ (t : Bool). cond t (f32_of b) (f32_of a)) (less_whole b a q p) ∙ go (ltb b a) refl
  where
    go : (t : Bool) → ltb b a ≡ t → cond t (f32_of b) (f32_of a) ≡ f32_of (min a b)
    go true t = ap f32_of (least a b (ltb-true b a t))
      where
        least : (a b : ℕ) → b < a → b ≡ min a b
        least a b h = omega arith
    go false t = ap f32_of (least a b (ltb-false b a t))
      where
        least : (a b : ℕ) → a ≤ b → a ≡ min a b
        least a b h = omega arith

-- ---- a sum of clear numbers may start at minus zero, as the original's does: the first number added leaves no trace of it

pub from_minus_zero : (x : Float) → T (clear x) → add binary32 (fin true 0 (pos 0)) x ≡ add binary32 (f32_of 0) x
unfolding add sum of_int
from_minus_zero nan p = absurd p
from_minus_zero (inf true) p = absurd p
from_minus_zero (inf false) p = refl
from_minus_zero (fin true m e) p = absurd p
from_minus_zero (fin false m e) p = go (0 * down e) (m * up e * 1) (1 * down e) (omega arith) (ltb (0 * down e) (m * up e * 1)) refl
  where
    go : (a b c : ℕ) → a ≡ 0 → (t : Bool) → ltb a b ≡ t → cond t (round binary32 false (b - a) c) (round binary32 (ltb b a) (a - b) c) ≡ round binary32 false (a + b) c
    go a b c z true t = ap (λ (n : ℕ). round binary32 false n c) (same a b z)
      where
        same : (a b : ℕ) → a ≡ 0 → b - a ≡ a + b
        same a b z = omega arith
    go a b c z false t =
        ap (λ (s : Bool). round binary32 s (a - b) c) (le-ltb b a (omega arith)) ∙ ap (λ (n : ℕ). round binary32 false n c) (same a b z (ltb-false a b t))
      where
        same : (a b : ℕ) → a ≡ 0 → b ≤ a → a - b ≡ a + b
        same a b z h = omega arith
