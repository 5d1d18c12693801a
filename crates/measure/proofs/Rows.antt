-- Lists of rows: element by element, and as one list of places mapped. Assumes nothing.
use Rattle.std.proofs.lemmas.List.{map-append}
use mathlib.Core.Path.{◌≡◌, refl, sym, ap, ◌∙◌}
use mathlib.Core.List.{List, ◌∷◌, ◌++◌, map}
use Prim.Native.Nat.{ℕ, zero, suc, ◌+◌, ◌≤◌, ◌<◌}
use native.Mathlib.Omega.{arith}
use Rattle.laws.specs.Lists.{from, joined}

module _ {A : Type 0} where
  -- what stands from k on in f stands from j on in g
  pub from_alike : (f g : ℕ → A) (k j n : ℕ) → ((i : ℕ) → i < n → f (k + i) ≡ g (j + i)) → from f k n ≡ from g j n
  from_alike f g k j zero e = refl
  from_alike f g k j (suc n) e =
      ap (λ (x : A). x ∷ from f (suc k) n) (ap f (first k) ∙ e 0 (omega arith) ∙ ap g (sym (first j)))
      ∙ ap (λ (l : List A). g j ∷ l)
      (from_alike f g (suc k) (suc j) n (λ i h. ap f (over k i) ∙ e (suc i) (omega arith) ∙ ap g (sym (over j i))))
    where
      first : (a : ℕ) → a ≡ a + 0
      first a = omega arith

      over : (a b : ℕ) → suc a + b ≡ a + suc b
      over a b = omega arith

  pub from_same : (f g : ℕ → A) (k n : ℕ) → ((i : ℕ) → k ≤ i → i < k + n → f i ≡ g i) → from f k n ≡ from g k n
  from_same f g k n e = from_alike f g k k n (λ i h. e (k + i) (omega arith) (omega arith))

  -- the first a of them, then b more
  pub from_split : (f : ℕ → A) (k a b : ℕ) → from f k (a + b) ≡ from f k a ++ from f (k + a) b
  from_split f k zero b = ap (λ (n : ℕ). from f k n) (left b) ∙ ap (λ (j : ℕ). from f j b) (right k)
    where
      left : (a : ℕ) → zero + a ≡ a
      left a = omega arith

      right : (a : ℕ) → a ≡ a + zero
      right a = omega arith
  from_split f k (suc a) b =
      ap (λ (n : ℕ). from f k n) (more a b)
      ∙ ap (λ (l : List A). f k ∷ l) (from_split f (suc k) a b ∙ ap (λ (j : ℕ). from f (suc k) a ++ from f j b) (over k a))
    where
      more : (a b : ℕ) → suc a + b ≡ suc (a + b)
      more a b = omega arith

      over : (k a : ℕ) → suc k + a ≡ k + suc a
      over k a = omega arith

  pub joined_same : (f g : ℕ → List A) (k n : ℕ) → ((i : ℕ) → k ≤ i → i < k + n → f i ≡ g i) → joined f k n ≡ joined g k n
  joined_same f g k zero e = refl
  joined_same f g k (suc n) e =
      ap (λ (x : List A). x ++ joined f (suc k) n) (e k (omega arith) (omega arith))
      ∙ ap (λ (l : List A). g k ++ l) (joined_same f g (suc k) n (λ i p q. e i (omega arith) (omega arith)))

module _ {A B : Type 0} (g : A → B) where
  map_from : (f : ℕ → A) (k n : ℕ) → from (λ i. g (f i)) k n ≡ map g (from f k n)
  map_from f k zero = refl
  map_from f k (suc n) = ap (λ (l : List B). g (f k) ∷ l) (map_from f (suc k) n)

  -- rows of mapped elements are the rows mapped
  pub map_rows : (f : ℕ → ℕ → A) (n : ℕ → ℕ) (k m : ℕ)
      → joined (λ j. from (λ i. g (f j i)) 0 (n j)) k m ≡ map g (joined (λ j. from (f j) 0 (n j)) k m)
  map_rows f n k zero = refl
  map_rows f n k (suc m) =
      ap (λ (l : List B). l ++ joined (λ j. from (λ i. g (f j i)) 0 (n j)) (suc k) m) (map_from (f k) 0 (n k))
      ∙ ap (λ (l : List B). map g (from (f k) 0 (n k)) ++ l) (map_rows f n (suc k) m)
      ∙ sym (map-append g (from (f k) 0 (n k)) (joined (λ j. from (f j) 0 (n j)) (suc k) m))
