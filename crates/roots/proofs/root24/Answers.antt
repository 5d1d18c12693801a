-- The test finds the whole number nearest to the root (`tested`).
use native.Mathlib.Omega.{arith}
use Prim.Native.Nat.{◌*◌, ◌/◌, ◌^◌}
use mathlib.Core.Path.{◌≡◌, sym, ap, ◌∙◌}
use Rattle.ieee.specs.Sqrt.{nearest_root}
use Rattle.ieee.proofs.Roots.{tested}
use Rattle.roots.proofs.root24.Goals as goal

pub returns-then-n-s : goal.returns-then-n-s
returns-then-n-s c =
    let m = c.args.m in
    let e : m * 4 ^ 24 / 2 ^ 54 ≡ m / 64 = omega (arith, c.requires.1) in
    sym (ap nearest_root e ∙ tested c.args.q (m / 64) (omega arith) c.if-s-q.true c.if-n-s.true)
