-- The disk's values and squared gradients, place by place.
use Rattle.std.specs.Prelude.{ℕ, ◌+◌, ◌-◌, ◌/◌, ◌%◌, List, map, Float}
use Rattle.std.specs.Float.{binary32}
use Rattle.std.specs.Float.Ieee.{add, sub, mul}
use Rattle.disk.specs.Disk.{disk}

abbrev pub values : (ℕ → ℕ → Float) → List Float
values s = map (λ k. s (k / 17) (k % 17)) disk

-- two products and a sum, each rounded
abbrev pub squares : Float → Float → Float
squares x y = add binary32 (mul binary32 x x) (mul binary32 y y)

-- the central difference without the half: from the left to the right neighbour, and from the one above to the one below
abbrev pub squared_at : (ℕ → ℕ → Float) → ℕ → ℕ → Float
squared_at s y x = squares (sub binary32 (s y (x + 1)) (s y (x - 1))) (sub binary32 (s (y + 1) x) (s (y - 1) x))

abbrev pub gradients : (ℕ → ℕ → Float) → List Float
gradients s = map (λ k. squared_at s (k / 17) (k % 17)) disk
