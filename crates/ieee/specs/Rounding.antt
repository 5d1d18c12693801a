-- What IEEE 754-2019 asks of a rounded result: section 4.3.1, roundTiesToEven. The operation gives the value of the format that is
-- nearest to its exact result.
use Rattle.std.specs.Prelude.{ℕ, suc, ◌+◌, ◌-◌, ◌*◌, ◌%◌, ◌^◌, ◌≤◌, ◌<◌, ◌≡◌, Bool, true, false, T, Float}
use Rattle.std.specs.Bool.{beq}
use Rattle.std.specs.Float.{nan, inf, fin, Format}
use Rattle.std.specs.Float.Ieee.{prec, emax, up, down, fits, to_bits}
use Rattle.ieee.specs.Order.{negative, finite}

-- The size of an exact result: num / den, or the square root of num / den.
pub data Exact : Type 0 where
  fraction : ℕ → ℕ → Exact
  root_of : ℕ → ℕ → Exact

-- the exact size is at least n / d
abbrev pub AtLeast : Exact → ℕ → ℕ → Type 0
AtLeast (fraction num den) n d = n * den ≤ num * d
AtLeast (root_of num den) n d = n * n * den ≤ num * (d * d)

-- the exact size is at most n / d
abbrev pub AtMost : Exact → ℕ → ℕ → Type 0
AtMost (fraction num den) n d = num * d ≤ n * den
AtMost (root_of num den) n d = num * (d * d) ≤ n * n * den

-- A number of the size n / d is at most t / d away from the exact result: where the two have the same sign, and where not.
abbrev pub Within : Bool → Exact → ℕ → ℕ → ℕ → Type 0
Within true X n t d = AtLeast X (n - t) d × AtMost X (n + t) d
Within false X n t d = (n ≤ t) × AtMost X (t - n) d

-- The float is at most t / d away from the exact result with the sign s.
abbrev pub Near : Bool → Exact → Float → ℕ → ℕ → Type 0
Near s X nan t d = ⊥
Near s X (inf u) t d = ⊥
Near s X (fin u m e) t d = Within (beq s u) X (m * up e * d) (t * down e) (down e * d)

-- r is no farther from the exact result than y is: what bounds y's distance bounds r's.
abbrev pub AsNear : Bool → Exact → Float → Float → Type 0
AsNear s X r y = (t d : ℕ) → 0 < d → Near s X y t d → Near s X r t d

-- The exact size is 2 ^ emax * (2 - 2 ^ -prec) or more.
abbrev pub Overflows : Format → Exact → Type 0
Overflows f X = AtLeast X (2 ^ emax f * (2 ^ suc (prec f) - 1)) (2 ^ prec f)

-- r is what the exact result X with the sign s is rounded to
pub record RoundTiesToEven (f : Format) (s : Bool) (X : Exact) (r : Float) : Type 0 where
  -- a value of the format, with no change in sign
  pub held : T (fits f r)
  pub sign : negative r ≡ s
  -- an infinity exactly where the size overflows
  pub over : Overflows f X → r ≡ inf s
  pub under : (Overflows f X → ⊥) → T (finite r)
  -- none is nearer
  pub nearest : T (finite r) → (y : Float) → T (fits f y) → AsNear s X r y
  -- if another is equally near, r is the one whose last digit is even: the pattern's last digit is the significand's
  pub even : T (finite r) → (y : Float) → T (fits f y) → T (finite y) → (y ≡ r → ⊥) → AsNear s X y r → to_bits f r % 2 ≡ 0
