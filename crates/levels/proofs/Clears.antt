-- Clear numbers by their places.
use mathlib.Core.List.{List, [], ◌∷◌}
use Prim.Native.Nat.{ℕ, zero, suc, ◌<◌}
use native.Mathlib.Omega.{arith}
use lib.Dec.{T}
use lib.ListN.{length, get_or}
use lib.Ieee.{Float, nan}
use Rattle.levels.specs.Clear.{clear, AllClear}

pub clear_at : (l : List Float) → AllClear l → (k : ℕ) → k < length l → T (clear (get_or l k nan))
clear_at [] c k h = absurd (none k h)
  where
    none : (k : ℕ) → k < 0 → ⊥
    none k h = omega arith
clear_at (x ∷ l) c zero h = c.0
clear_at (x ∷ l) c (suc k) h = clear_at l c.1 k (omega arith)

pub all_clear : (l : List Float) → ((k : ℕ) → k < length l → T (clear (get_or l k nan))) → AllClear l
all_clear [] h = tt
all_clear (x ∷ l) h = (h 0 (omega arith), all_clear l (λ k g. h (suc k) (omega arith)))
