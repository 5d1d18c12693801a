-- What holds of each element of a list holds of each element of its parts, and of what is made of them. Assumes nothing.
use mathlib.Core.Path.{◌≡◌, refl}
use mathlib.Core.Logic.{◌⊎◌, inl, inr}
use mathlib.Core.List.{List, [], ◌∷◌, ◌++◌, map}
use Prim.Native.Nat.{ℕ, zero, suc}
use lib.ListN.{get_or, take, drop}
use Rattle.laws.specs.Lists.{from, joined, Each, Each²}

module _ {A : Type 0} (Q : A → Type 0) where
  -- at a place; past the end stands d
  pub each_at : (d : A) → Q d → (l : List A) → Each Q l → (k : ℕ) → Q (get_or l k d)
  each_at d q [] e k = q
  each_at d q (x ∷ l) e zero = e.0
  each_at d q (x ∷ l) e (suc k) = each_at d q l e.1 k

  pub each_or : (d : A) (l : List A) → Each Q l → (k : ℕ) → (get_or l k d ≡ d) ⊎ Q (get_or l k d)
  each_or d [] e k = inl refl
  each_or d (x ∷ l) e zero = inr e.0
  each_or d (x ∷ l) e (suc k) = each_or d l e.1 k

  pub each²_at : (d : A) → Q d → (m : List (List A)) → Each² Q m → (y x : ℕ) → Q (get_or (get_or m y []) x d)
  each²_at d q [] e y x = q
  each²_at d q (l ∷ m) e zero x = each_at d q l e.0 x
  each²_at d q (l ∷ m) e (suc y) x = each²_at d q m e.1 y x

  -- parts
  pub each_take : (n : ℕ) (l : List A) → Each Q l → Each Q (take n l)
  each_take zero l e = tt
  each_take (suc n) [] e = tt
  each_take (suc n) (x ∷ l) e = (e.0, each_take n l e.1)

  pub each_drop : (n : ℕ) (l : List A) → Each Q l → Each Q (drop n l)
  each_drop zero l e = e
  each_drop (suc n) [] e = tt
  each_drop (suc n) (x ∷ l) e = each_drop n l e.1

  -- lists of them
  each_append : (l m : List A) → Each Q l → Each Q m → Each Q (l ++ m)
  each_append [] m e f = f
  each_append (x ∷ l) m e f = (e.0, each_append l m e.1 f)

  pub each_joined : (rows : ℕ → List A) → ((k : ℕ) → Each Q (rows k)) → (k n : ℕ) → Each Q (joined rows k n)
  each_joined rows h k zero = tt
  each_joined rows h k (suc n) = each_append (rows k) (joined rows (suc k) n) (h k) (each_joined rows h (suc k) n)

  pub each_from : (f : ℕ → A) → ((k : ℕ) → Q (f k)) → (k n : ℕ) → Each Q (from f k n)
  each_from f h k zero = tt
  each_from f h k (suc n) = (h k, each_from f h (suc k) n)

  pub each_of : {B : Type 0} (f : B → A) → ((x : B) → Q (f x)) → (l : List B) → Each Q (map f l)
  each_of f h [] = tt
  each_of f h (x ∷ l) = (h x, each_of f h l)

-- what is made of elements that have the property P has the property Q
pub each_map : {A B : Type 0} (P : A → Type 0) (Q : B → Type 0) (f : A → B) → ((x : A) → P x → Q (f x)) → (l : List A) → Each P l → Each Q (map f l)
each_map P Q f h [] e = tt
each_map P Q f h (x ∷ l) e = (h x e.0, each_map P Q f h l e.1)
