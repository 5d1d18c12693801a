-- The loop's invariant: after i turns q is the whole part of the root of m * 4 ^ i / 2 ^ 54, which is q * q + over and the rest.
use Rattle.ieee.proofs.Roots.{Digits}
use Rattle.roots.proofs.root.Given as goal

abbrev pub invariant-loop-i : goal.invariant-loop-i
invariant-loop-i l = Digits l.m l.n l.rest l.q l.over l._i
