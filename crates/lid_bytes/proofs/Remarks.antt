-- The first two bytes decide.
use mathlib.Core.Path.{◌≡◌, refl}
use mathlib.Core.List.{List}
use Prim.Native.Nat.{ℕ, ◌<◌}
use native.Mathlib.Omega.{arith}
use lib.Seq.{get_or-take}
use lib.ListN.{take}
use Rattle.lid_bytes.specs.Remark.{begins_p5, pgm_of, remark_of}

pub by_front : (input : List ℕ) (m n : ℕ) → 1 < m → remark_of (take m input) n ≡ remark_of input n
unfolding remark_of pgm_of begins_p5
by_front input m n h = rw (get_or-take m input 0 0 (omega arith), get_or-take m input 1 0 h) refl
