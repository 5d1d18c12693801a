use mathlib.Core.Path.{◌≡◌, ap, ◌∙◌}
use mathlib.Core.List.{[], ◌∷◌}
use Prim.Native.Nat.{ℕ, ◌≤◌, ◌<◌}
use native.Mathlib.Omega.{arith}
use lib.IntN.{ℤ, pos, nat_abs, ◌+ℤ◌, ◌-ℤ◌}
use mir.Facts.{to_z-of_z}
use Rattle.laws.proofs.Fill.{tab_put, tab_end}
use Rattle.laws.proofs.Ring.{v, k as lit, ◌⊕◌, ◌⊖◌}
use Rattle.laws.proofs.Machine.{held, held_small, under}
use Rattle.imageview.specs.Sample.{clamped}
use Rattle.tile.proofs.Loading.{places_held, size_held}
use Rattle.tile.proofs.nearby.Goals as goal

-- what the machine holds of a place near c is that place
moved : (r c : ℤ) (i : ℕ) → r ≡ c +ℤ (pos i -ℤ pos 8) → nat_abs c ≤ 1000000 → i < 17 → held r ≡ c +ℤ (pos i -ℤ pos 8)
moved r c i e h g =
    ap held e ∙ held_small (c +ℤ (pos i -ℤ pos 8)) 1000025 (under (c ∷ pos i ∷ []) (1000000 ∷ 17 ∷ []) (h, (omega arith, tt)) (v 0 ⊕ (v 1 ⊖ lit (pos 8))) 1000025 tt) tt

pub loop-i-preserved : goal.loop-i-preserved
loop-i-preserved c =
    tab_put c.loop-i.invariant c.loop-i-test.true
    (c.place.ensures ∙ ap (λ (z : ℤ). clamped (z +ℤ held c.args.o) c.args.most)
    (moved c.near.result (held c.args.c) c.loop-i.i c.near.ensures (size_held c.args.c (to_z-of_z c.ranges.c) c.requires) c.loop-i-test.true))

pub returns : goal.returns
returns c =
    tab_end c.loop-i.invariant c.loop-i-test.false ∙ places_held c.args.most c.args.c c.args.o (to_z-of_z c.ranges.c) (to_z-of_z c.ranges.o)
