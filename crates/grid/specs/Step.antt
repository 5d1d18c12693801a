-- The step of a pass.
use Rattle.std.specs.Prelude.{Bool, true, false, ℕ, zero, suc, ◌*◌, ◌≤◌, ◌<◌, leb}

-- document 01: the least whole s ≥ 1 with s × s × W ≥ w × h
pub record IsStep (pixels windows s : ℕ) : Type 0 where
  pub some : 1 ≤ s
  pub reaches : pixels ≤ s * s * windows
  pub least : (t : ℕ) → 1 ≤ t → t < s → t * t * windows < pixels

-- the first of k, k + 1, .. , k + n - 1 that passes a test; k + n if none does
abbrev pub first_from : (ℕ → Bool) → ℕ → ℕ → ℕ
first_from p k zero = k
first_from p k (suc n) = elim (p k) [ true ↦ k | false ↦ first_from p (suc k) n ]

-- it is looked for among 1, 2, .. , pixels, W being 1 or more; of no pixels it is 1
unfoldable pub step_of : ℕ → ℕ → ℕ
step_of pixels windows = first_from (λ s. leb pixels (s * s * windows)) 1 pixels
