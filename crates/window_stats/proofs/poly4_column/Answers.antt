-- `window_stats::poly4_column` meets its contract: what a read hands on is the element itself, and so as small.
use mathlib.Core.Path.{sym, subst}
use mathlib.Core.List.{List}
use Prim.Native.Nat.{ℕ, ◌<◌}
use lib.Dec.{lit≤}
use lib.IntN.{ℤ, pos, negsuc}
use native.Mathlib.Omega.{arith}
use lib.Signed.{mag}
use Rattle.laws.specs.Lists.{Each²}
use Rattle.laws.proofs.Each.{each²_at}
use Rattle.laws.proofs.Machine.{held, held_of}
use Rattle.window.specs.Window.{of_rows}
use Rattle.window_stats.specs.Passes.{Small}
use Rattle.window.proofs.Places.{◌and◌}
use Rattle.window_stats.proofs.poly4_column.Goals as goal

in_range : (z : ℤ) → Small 4080 z → mag z < 2147483648
in_range (pos n) s = omega (arith, s.small)
in_range (negsuc n) s = omega (arith, s.small)

still : {z : ℤ} → Small 4080 z → Small 4080 (held z)
still {z} s = subst (Small 4080) (sym (held_of (in_range z s))) s

low : (m : List (List ℤ)) → Each² (Small 4080) m → (y x : ℕ) → Small 4080 (of_rows m x y)
low m s y x = each²_at (Small 4080) (pos 0) (record { small = lit≤ tt }) m s y x

pub poly4-requires : goal.poly4-requires
poly4-requires c =
    let l = low c.args.m c.requires.1 in
    let x = c.args.x in
    still (l 0 x) and still (l 1 x) and still (l 2 x) and still (l 3 x) and tt
