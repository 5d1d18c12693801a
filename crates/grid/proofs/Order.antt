-- The places of a pass stand in sampling order: x rises along a row, and y from row to row. Assumes nothing.
use mathlib.Core.Path.{◌≡◌, refl, sym, ap, subst}
use mathlib.Core.List.Memᴰ
use mathlib.Core.List.{List, [], ◌∷◌, ◌++◌, Memᴰ}
use mathlib.Core.Logic.{inl, inr, ⊎_elim}
use Prim.Native.Nat.{ℕ, zero, suc, ◌+◌, ◌*◌, ◌≤◌, ◌<◌}
use native.Mathlib.Nat.{mul-le-mul_right}
use native.Mathlib.Omega.{arith}
use Rattle.laws.specs.Lists.{from, joined}
use Rattle.grid.specs.Step.{step_of}
use Rattle.grid.specs.Grid.{Place, Before, InOrder, first_x, row_count, row_of, rows_of, places_of}
use Rattle.grid.proofs.Steps.{step_is}
use Rattle.grid.proofs.Places.{among, among_rows}

-- of two stretches in order, one before the other
two : (a b : List Place) → InOrder a → InOrder b → ((p q : Place) → Memᴰ p a → Memᴰ q b → Before p q) → InOrder (a ++ b)
two [] b o r e = r
two (p ∷ a) b o r e = (
  λ q m. ⊎_elim (λ i. o.0 q i) (λ i. e p q (Memᴰ.head refl) i) (Memᴰ.append_cases a m),
  two a b o.1 r (λ u v i k. e u v (Memᴰ.tail i) k),
)

-- of places by their index
stretch : (f : ℕ → Place) → ((i k : ℕ) → i < k → Before (f i) (f k)) → (k n : ℕ) → InOrder (from f k n)
stretch f e k zero = tt
stretch f e k (suc n) = (
  λ q m. let a = among q f (suc k) n m in subst (Before (f k)) (sym a.is) (e k a.index (omega (arith, a.low))),
  stretch f e (suc k) n,
)

module _ (w s : ℕ) (some : 1 ≤ s) where
  row : (j : ℕ) → InOrder (row_of w s j)
  row j =
      stretch (λ k. record { x = first_x j s + k * s; y = j * s })
      (λ i k h. inr (refl, omega (arith, some, mul-le-mul_right s (next h)))) _ (row_count w s j)
    where
      next : {i k : ℕ} → i < k → i + 1 ≤ k
      next h = omega arith

  -- the y of a row's places
  at_row : (j : ℕ) (p : Place) → Memᴰ p (row_of w s j) → p.y ≡ j * s
  at_row j p m =
      ap (λ (q : Place). q.y) (among p (λ k. record { x = first_x j s + k * s; y = j * s }) _ (row_count w s j) m).is

  all_rows : (j n : ℕ) → InOrder (joined (row_of w s) j n)
  all_rows j zero = tt
  all_rows j (suc n) =
      two (row_of w s j) (joined (row_of w s) (suc j) n) (row j) (all_rows (suc j) n)
      (λ p q i k.
      let r = among_rows q (row_of w s) (suc j) n k in
      inl (omega (arith, some, at_row j p i, at_row r.row q r.is, mul-le-mul_right s r.low)))

pub in_order : (w h windows : ℕ) → 1 ≤ windows → InOrder (places_of w h windows)
unfolding places_of
in_order w h windows g =
    let s = step_of (w * h) windows in
    all_rows w s (step_is (w * h) windows g).some 0 (rows_of h s)
