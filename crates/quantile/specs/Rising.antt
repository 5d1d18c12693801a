-- Rising order: by `total_less`, the order of Rust's total_cmp.
use Rattle.std.specs.Prelude.{◌≡◌, false, cond, List, [], ◌∷◌, ℕ, zero, suc, get_or, Float}
use Rattle.std.specs.Float.{nan}
use Rattle.ieee.specs.Order.{total_less}

-- the number at place k, from 0; no number past the end
abbrev pub at : List Float → ℕ → Float
at l k = get_or l k nan

-- v put into a list, before the first number above it
abbrev pub inserted : Float → List Float → List Float
inserted v [] = v ∷ []
inserted v (x ∷ l) = cond (total_less v x) (v ∷ x ∷ l) (x ∷ inserted v l)

-- the numbers f 0, f 1, .. , n of them, in rising order
abbrev pub rising : (ℕ → Float) → ℕ → List Float
rising f zero = []
rising f (suc n) = inserted (f n) (rising f n)

-- no number stands before one that is below it
abbrev pub Rises : List Float → Type 0
Rises l = (i : ℕ) → total_less (at l (suc i)) (at l i) ≡ false
