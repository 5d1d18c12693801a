-- A loop over a list that folds it from the left, with k elements taken in; and lists that a loop makes or reads by their indices.
use mathlib.Core.Path.{◌≡◌, refl, sym, ap, ◌∙◌}
use mathlib.Core.Bool.{Bool, true, false, cond}
use mathlib.Core.List.{List, [], ◌∷◌, map, foldl}
use Prim.Native.Nat.{ℕ, zero, suc, ◌+◌, ◌≤◌, ◌<◌}
use native.Mathlib.Numerals.{add-one}
use native.Mathlib.Omega.{arith}
use lib.ListN.{length, get_or, drop, drop_of_length-le}
use lib.Seq.{drop-cons}
use Rattle.laws.specs.Lists.{from}
use Rattle.laws.proofs.Fill.{from_get}
use Rattle.levels.specs.Filtered.{filtered}

pub record Folding {A B : Type 0} (step : B → A → B) (l : List A) (start now : B) (k : ℕ) : Type 0 where
  pub low : k ≤ length l
  pub same : foldl step now (drop k l) ≡ foldl step start l

module _ {A B : Type 0} {step : B → A → B} {l : List A} {start : B} where
  pub fold_start : Folding step l start start 0
  fold_start = record { low = omega arith; same = refl }

  pub fold_put : {now next : B} {k : ℕ} (d : A) → Folding step l start now k → k < length l → next ≡ step now (get_or l k d) → Folding step l start next (k + 1)
  fold_put {now} {next} {k} d f h e = record {
    low = omega arith;
    same = ap (λ (b : B). foldl step b (drop (k + 1) l)) e ∙ ap (λ (m : List A). foldl step now m) (sym next_is) ∙ f.same;
  }
    where
      next_is : drop k l ≡ get_or l k d ∷ drop (k + 1) l
      next_is = rw (add-one k) (drop-cons l k d h)

  pub fold_end : {now : B} {k : ℕ} → Folding step l start now k → length l ≤ k → now ≡ foldl step start l
  fold_end {now} {k} f h = ap (λ (m : List A). foldl step now m) (sym (drop_of_length-le l {i = k} h)) ∙ f.same

-- ---- folds of mapped and of kept elements

module _ {A B C : Type 0} where
  pub foldl_map : (step : B → C → B) (f : A → C) (b : B) (l : List A) → foldl step b (map f l) ≡ foldl (λ a x. step a (f x)) b l
  foldl_map step f b [] = refl
  foldl_map step f b (x ∷ l) = foldl_map step f (step b (f x)) l

module _ {A B : Type 0} where
  pub foldl_filtered : (step : B → A → B) (p : A → Bool) (b : B) (l : List A) → foldl (λ a x. cond (p x) (step a x) a) b l ≡ foldl step b (filtered p l)
  foldl_filtered step p b [] = refl
  foldl_filtered step p b (x ∷ l) = go (p x) (foldl_filtered step p (step b x) l) (foldl_filtered step p b l)
    where
      go : (t : Bool) → foldl (λ a y. cond (p y) (step a y) a) (step b x) l ≡ foldl step (step b x) (filtered p l) → foldl (λ a y. cond (p y) (step a y) a) b l ≡ foldl step b (filtered p l)
          → foldl (λ a y. cond (p y) (step a y) a) (cond t (step b x) b) l ≡ foldl step b (cond t (x ∷ filtered p l) (filtered p l))
      go true h g = h
      go false h g = g

-- counting by one is the length
pub foldl_count : {A : Type 0} (n : ℕ) (l : List A) → foldl (λ a x. a + 1) n l ≡ n + length l
foldl_count n [] = omega arith
foldl_count n (x ∷ l) = foldl_count (n + 1) l ∙ go n (length l)
  where
    go : (n k : ℕ) → n + 1 + k ≡ n + suc k
    go n k = omega arith

-- the kept elements are as many as a count of those that pass
pub count_filtered : {A : Type 0} (p : A → Bool) (l : List A) → foldl (λ a x. cond (p x) (a + 1) a) 0 l ≡ length (filtered p l)
count_filtered p l = foldl_filtered (λ a x. a + 1) p 0 l ∙ foldl_count 0 (filtered p l) ∙ go (length (filtered p l))
  where
    go : (n : ℕ) → 0 + n ≡ n
    go n = omega arith

-- ---- maps by index

module _ {A B : Type 0} where
  map_from : (f : A → B) (g : ℕ → A) (k n : ℕ) → map f (from g k n) ≡ from (λ i. f (g i)) k n
  map_from f g k zero = refl
  map_from f g k (suc n) = ap (λ (l : List B). f (g k) ∷ l) (map_from f g (suc k) n)

  pub from_map : (f : A → B) (d : A) (l : List A) (n : ℕ) → length l ≡ n → from (λ i. f (get_or l i d)) 0 n ≡ map f l
  from_map f d l n e =
      sym (map_from f (λ i. get_or l i d) 0 n) ∙ ap (λ (m : ℕ). map f (from (λ i. get_or l i d) 0 m)) (sym e) ∙ ap (map f) (from_get d l)

  pub map_same : (f g : A → B) (d : A) (l : List A) → ((i : ℕ) → i < length l → f (get_or l i d) ≡ g (get_or l i d)) → map f l ≡ map g l
  map_same f g d [] h = refl
  map_same f g d (x ∷ l) h = λ i. h 0 (omega arith) i ∷ map_same f g d l (λ k p. h (suc k) (omega arith)) i

  pub get_d_map : (f : A → B) (a : A) (b : B) (l : List A) (i : ℕ) → i < length l → get_or (map f l) i b ≡ f (get_or l i a)
  get_d_map f a b [] i h = absurd (none i h)
    where
      none : (i : ℕ) → i < 0 → ⊥
      none i h = omega arith
  get_d_map f a b (x ∷ l) zero h = refl
  get_d_map f a b (x ∷ l) (suc i) h = get_d_map f a b l i (omega arith)
