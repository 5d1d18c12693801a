-- A rule of a table, proved at all of its entries by one test that antt computes, one entry after the other.
use mathlib.Core.Bool.{Bool, true, ◌&&◌}
use mathlib.Core.List.{List, [], ◌∷◌}
use Prim.Native.Nat.{ℕ, zero, suc, ◌<◌}
use native.Mathlib.Nat.{le_of_suc-le-suc, not-suc-le-zero}
use lib.Dec.{T}
use lib.Ieee.Fits.{and_l, and_r}
use lib.ListN.{length, get_or}

-- the test passes at each entry
abbrev pub every : (ℕ → Bool) → List ℕ → Bool
every p [] = true
every p (x ∷ l) = p x && every p l

pub each : (p : ℕ → Bool) (l : List ℕ) → T (every p l) → (k : ℕ) → k < length l → T (p (get_or l k 0))
each p [] t k h = absurd (not-suc-le-zero h)
each p (x ∷ l) t zero h = and_l (p x) (every p l) t
each p (x ∷ l) t (suc k) h = each p l (and_r (p x) (every p l) t) k (le_of_suc-le-suc h)
