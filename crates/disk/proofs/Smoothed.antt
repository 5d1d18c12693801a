-- A smoothed tile of bytes: whole numbers below 2 ^ 16, exact, and squared gradients that are numbers with the sign clear.
use mathlib.Core.Path.{◌≡◌, refl, sym, ap, ◌∙◌, subst}
use mathlib.Core.Bool.{Bool, true, false, not, cond}
use mathlib.Core.List.{List, [], ◌∷◌, map}
use Prim.Native.Nat.{ℕ, suc, ◌+◌, ◌-◌, ◌*◌, ◌/◌, ◌%◌, ◌^◌, ◌≤◌, ◌<◌}
use native.Mathlib.Nat.{mul-le-mul_right}
use native.Mathlib.Omega.{arith}
use lib.Dec.{T}
use lib.ListN.{length, get_or, length-map}
use lib.Ieee.{Float, nan, binary32, add, sub, mul, is_nan}
use lib.Ieee.Exact.{HasValue}
use Rattle.ieee.specs.Numbers.{f32_of}
use Rattle.levels.specs.Whole.{Upto, AllUpto}
use Rattle.levels.specs.Clear.{clear, AllClear}
use Rattle.levels.specs.Filtered.{filtered}
use Rattle.levels.specs.Levels.{summed}
use Rattle.levels.proofs.Folds.{get_d_map}
use Rattle.levels.proofs.Sums.{add_up, summed_exact}
use Rattle.levels.proofs.Clears.{all_clear}
use Rattle.levels.proofs.Wholes.{whole_value, add_whole, mul_whole, sub_plain, square_clear, add_clear}
use Rattle.disk.specs.Smoothing.{binomial, down, smoothed}
use Rattle.disk.specs.Disk.{disk}
use Rattle.disk.specs.Gradients.{values, squared_at, gradients}
use Rattle.disk.proofs.Rows.{five}
use Rattle.disk.proofs.Places.{disk_long, place_inner}

pub binomial_upto : (n : ℕ) {a b c d e : Float} → 16 * n ≤ 2 ^ 24 → Upto n a → Upto n b → Upto n c → Upto n d → Upto n e → Upto (16 * n) (binomial a b c d e)
binomial_upto n {a} {b} {c} {d} {e} h p q r s t = record {
  number = p.number + t.number + 4 * (q.number + s.number) + 6 * r.number;
  is = five p.is q.is r.is s.is t.is ∙ exact p.number q.number r.number s.number t.number n h p.small q.small r.small s.small t.small;
  small = bound p.number q.number r.number s.number t.number n p.small q.small r.small s.small t.small;
}
  where
    bound : (a b c d e n : ℕ) → a ≤ n → b ≤ n → c ≤ n → d ≤ n → e ≤ n → a + e + 4 * (b + d) + 6 * c ≤ 16 * n
    bound a b c d e n p q r s t = omega arith

    exact : (a b c d e n : ℕ) → 16 * n ≤ 2 ^ 24 → a ≤ n → b ≤ n → c ≤ n → d ≤ n → e ≤ n
        → binomial (f32_of a) (f32_of b) (f32_of c) (f32_of d) (f32_of e) ≡ f32_of (a + e + 4 * (b + d) + 6 * c)
    exact a b c d e n h p q r s t =
        ap (λ (x : Float). add binary32 (add binary32 x (mul binary32 (f32_of 4) (add binary32 (f32_of b) (f32_of d)))) (mul binary32 (f32_of 6) (f32_of c))) (add_whole binary32 a e (omega arith) (omega arith))
        ∙ ap (λ (x : Float). add binary32 (add binary32 (f32_of (a + e)) (mul binary32 (f32_of 4) x)) (mul binary32 (f32_of 6) (f32_of c))) (add_whole binary32 b d (omega arith) (omega arith))
        ∙ ap (λ (x : Float). add binary32 (add binary32 (f32_of (a + e)) x) (mul binary32 (f32_of 6) (f32_of c))) (mul_whole binary32 4 (b + d) (omega arith) (omega arith))
        ∙ ap (λ (x : Float). add binary32 x (mul binary32 (f32_of 6) (f32_of c))) (add_whole binary32 (a + e) (4 * (b + d)) (omega arith) (omega arith))
        ∙ ap (λ (x : Float). add binary32 (f32_of (a + e + 4 * (b + d))) x) (mul_whole binary32 6 c (omega arith) (omega arith))
        ∙ add_whole binary32 (a + e + 4 * (b + d)) (6 * c) (omega arith) (omega arith)

pub smooth_upto : (t : ℕ → ℕ → Float) → ((y x : ℕ) → y ≤ 16 → x ≤ 16 → Upto 255 (t y x)) → (y x : ℕ) → y ≤ 12 → x ≤ 12 → Upto 65280 (smoothed t y x)
smooth_upto t h y x a b =
    binomial_upto 4080 (omega arith) (at x (omega arith)) (at (x + 1) (omega arith)) (at (x + 2) (omega arith)) (at (x + 3) (omega arith)) (at (x + 4) (omega arith))
  where
    at : (c : ℕ) → c ≤ 16 → Upto 4080 (down t y c)
    at c g = binomial_upto 255 (omega arith) (h y c (omega arith) g) (h (y + 1) c (omega arith) g) (h (y + 2) c (omega arith) g) (h (y + 3) c (omega arith) g) (h (y + 4) c (omega arith) g)

difference : {x y : Float} → Upto 65280 x → Upto 65280 y → T (not (is_nan (sub binary32 x y)))
difference {x} {y} p q = sub_plain binary32 x y p.number q.number (value p) (value q)
  where
    value : {x : Float} (p : Upto 65280 x) → HasValue x false p.number 1
    value {x} p = subst (λ (z : Float). HasValue z false p.number 1) (sym p.is) (whole_value binary32 p.number (omega (arith, p.small)))

pub gradients_clear : (s : ℕ → ℕ → Float) → ((y x : ℕ) → y ≤ 12 → x ≤ 12 → Upto 65280 (s y x)) → AllClear (gradients s)
gradients_clear s h = all_clear (gradients s) (λ m l. at m (omega (arith, l, length-map disk (λ k. squared_at s (k / 17) (k % 17)), disk_long)))
  where
    at : (m : ℕ) → m < 81 → T (clear (get_or (gradients s) m nan))
    at m l =
        let k = get_or disk m 0 in
        let p = place_inner m l in
        let y = k / 17 in
        let x = k % 17 in
        subst (λ (z : Float). T (clear z)) (sym (get_d_map (λ i. squared_at s (i / 17) (i % 17)) 0 nan disk m (omega (arith, disk_long))))
        (add_clear binary32 _ _ (square_clear binary32 _ (difference (h y (x + 1) (omega arith) (omega arith)) (h y (x - 1) (omega arith) (omega arith))))
        (square_clear binary32 _ (difference (h (y + 1) x (omega arith) (omega arith)) (h (y - 1) x (omega arith) (omega arith)))))

-- ---- the values that a level is the mean of add up to less than 2 ^ 24, so their f32 sum is exact in any order

pub record Numbers (l : List Float) : Type 0 where
  pub numbers : List ℕ
  pub are : l ≡ map f32_of numbers
  pub few : add_up numbers ≤ length l * 65280

as_numbers : (p : Float → Bool) (l : List Float) → ((k : ℕ) → k < length l → Upto 65280 (get_or l k nan)) → Numbers (filtered p l)
as_numbers p [] h = record { numbers = []; are = refl; few = omega arith }
as_numbers p (x ∷ l) h = go (p x) (as_numbers p l (λ k g. h (suc k) (omega arith))) (h 0 (omega arith))
  where
    go : (t : Bool) → Numbers (filtered p l) → Upto 65280 x → Numbers (cond t (x ∷ filtered p l) (filtered p l))
    go true s u = record { numbers = u.number ∷ s.numbers; are = λ i. u.is i ∷ s.are i; few = omega (arith, u.small, s.few) }
    go false s u = s

filtered_few : (p : Float → Bool) (l : List Float) → length (filtered p l) ≤ length l
filtered_few p [] = omega arith
filtered_few p (x ∷ l) = go (p x) (filtered_few p l)
  where
    go : (t : Bool) → length (filtered p l) ≤ length l → length (cond t (x ∷ filtered p l) (filtered p l)) ≤ suc (length l)
    go true h = omega arith
    go false h = omega arith

pub values_upto : (s : ℕ → ℕ → Float) → ((y x : ℕ) → y ≤ 12 → x ≤ 12 → Upto 65280 (s y x)) → AllUpto 65280 (values s)
values_upto s h = record { each = at; long = length-map disk (λ k. s (k / 17) (k % 17)) ∙ disk_long }
  where
    at : (m : ℕ) → m < 81 → Upto 65280 (get_or (values s) m nan)
    at m l =
        let q = place_inner m l in
        subst (λ (z : Float). Upto 65280 z) (sym (get_d_map (λ k. s (k / 17) (k % 17)) 0 nan disk m (omega (arith, disk_long)))) (h (get_or disk m 0 / 17) (get_or disk m 0 % 17) (omega arith) (omega arith))

pub sums_exact : (s : ℕ → ℕ → Float) → ((y x : ℕ) → y ≤ 12 → x ≤ 12 → Upto 65280 (s y x)) → (p : Float → Bool)
    → (numbers : List ℕ) × (filtered p (values s) ≡ map f32_of numbers) × (add_up numbers ≤ 2 ^ 24) × (summed (filtered p (values s)) ≡ f32_of (add_up numbers))
sums_exact s h p =
    let v = values_upto s h in
    let r = as_numbers p (values s) (λ k g. v.each k (omega (arith, g, v.long))) in
    let few : add_up r.numbers ≤ 2 ^ 24 = omega (arith, r.few, mul-le-mul_right 65280 (filtered_few p (values s)), v.long) in
    (r.numbers, r.are, few, ap summed r.are ∙ summed_exact r.numbers few)
