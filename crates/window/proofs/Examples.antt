-- Worked examples that tell the definitions from their likely twins: x for y, another row of weights, a coefficient more or less.
-- Assumes nothing.
use mathlib.Core.Path.{◌≡◌, refl}
use mathlib.Core.List.{[], ◌∷◌}
use lib.IntN.{pos}
use Rattle.laws.specs.Lists.{from}
use Rattle.window.specs.Window.{Window, minus, component, gate, stats_of, of_rows, pixels_at}
use Rattle.window.specs.Surface.{Surface, value, missed}

-- sixteen pixels of which no two are alike
abbrev pub uneven : Window
uneven =
    of_rows
    ((pos 3 ∷ pos 14 ∷ pos 159 ∷ pos 26 ∷ [])
    ∷ (pos 53 ∷ pos 58 ∷ pos 97 ∷ pos 93 ∷ [])
    ∷ (pos 238 ∷ pos 46 ∷ pos 27 ∷ pos 43 ∷ [])
    ∷ (pos 38 ∷ pos 32 ∷ pos 79 ∷ pos 50 ∷ [])
    ∷ [])

-- its components (0, 0) to (0, 3), (1, 0) to (1, 3), ..
pub components : from (λ i. from (component uneven i) 0 4) 0 4
    ≡ ((pos 1056 ∷ pos 44 ∷ minus 254 ∷ pos 162 ∷ [])
    ∷ (minus 148 ∷ minus 1156 ∷ pos 742 ∷ minus 2158 ∷ [])
    ∷ (pos 32 ∷ pos 580 ∷ minus 366 ∷ pos 530 ∷ [])
    ∷ (pos 756 ∷ minus 788 ∷ pos 326 ∷ pos 466 ∷ []) ∷ [])
components = refl

pub figures : stats_of uneven ≡ record { sum = pos 1056; gate = pos 17986408; op = pos 466 }
unfolding stats_of gate
figures = refl

-- the pixel at (3, 2) of the window that begins at place 7 of an image of width 10
pub pixel : pixels_at (from (λ n. n) 0 100) 10 7 3 2 ≡ pos 30
pixel = refl

-- each coefficient seen by itself: 1 + 10·2 + 100·3 + 1,000·6 + 10,000·4 + 100,000·9 - 1,000,000·3
abbrev pub digits : Surface
digits = record { a = pos 1; b = pos 10; c = pos 100; d = pos 1000; e = pos 10000; f = pos 100000; m = pos 1000000 }

pub value_there : value digits 2 3 ≡ minus 2053679
value_there = refl

-- at D = 2 the level surface 10 misses each pixel of 6 by 2
pub misses : missed (λ x y. pos 6) 2 (record { a = pos 10; b = pos 0; c = pos 0; d = pos 0; e = pos 0; f = pos 0; m = pos 0 }) ≡ pos 64
unfolding missed
misses = refl
