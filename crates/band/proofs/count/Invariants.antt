-- `band::count` meets its contract: five counts in one pass.
use mathlib.Core.List.{List}
use Prim.Native.Nat.{ℕ}
use lib.IntN.{ℤ}
use Rattle.band.specs.Bands.{rail}
use Rattle.band.proofs.Counting.{Counted}
use Rattle.band.proofs.count.Given as goal

pub record Inv (t : ℕ) (l : List ℤ) (b0 b1 b2 b3 r k : ℕ) : Type 0 where
  pub c0 : Counted 0 t l b0 k
  pub c1 : Counted 1 t l b1 k
  pub c2 : Counted 2 t l b2 k
  pub c3 : Counted 3 t l b3 k
  pub cr : Counted rail t l r k

abbrev pub invariant-loop-sum : goal.invariant-loop-sum
invariant-loop-sum l = Inv l.t l.ints l.b0 l.b1 l.b2 l.b3 l.rail l.sum-index
