-- The windows made from a window, by what they have at (x, y): document 01, "Window".
use Rattle.std.specs.Prelude.{cond, ℕ, ◌-◌, ◌%◌, eqb, ℤ, pos, ◌+ℤ◌, ◌-ℤ◌}
use Rattle.window.specs.Window.{Window, minus}
use Rattle.window.specs.Surface.{Surface, value}

-- the old pixel of (3 - x, y), mirrored across
abbrev pub across : {A : Type 0} → (ℕ → ℕ → A) → ℕ → ℕ → A
across p x y = p (3 - x) y

-- the old pixel of (x, 3 - y), mirrored down
abbrev pub down : {A : Type 0} → (ℕ → ℕ → A) → ℕ → ℕ → A
down p x y = p x (3 - y)

-- the old pixel of (y, 3 - x), turned by a quarter
abbrev pub turned : {A : Type 0} → (ℕ → ℕ → A) → ℕ → ℕ → A
turned p x y = p y (3 - x)

-- the old pixel of (3 - y, x), turned by a quarter the other way
abbrev pub turned_back : {A : Type 0} → (ℕ → ℕ → A) → ℕ → ℕ → A
turned_back p x y = p (3 - y) x

-- the negative of the pixel
abbrev pub negative : Window → Window
negative p x y = pos 255 -ℤ p x y

-- the pixel and the surface's value there
abbrev pub added : Surface → Window → Window
added s p x y = p x y +ℤ value s x y

-- what mirroring does to a component of this degree along the mirrored axis
abbrev pub sign : ℕ → ℤ
sign i = cond (eqb (i % 2) 0) (pos 1) (minus 1)
