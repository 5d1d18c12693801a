use native.Mathlib.Omega.{arith}
use Prim.Native.Nat.{ℕ, ◌^◌, ◌<◌, ◌≤◌}
use native.Mathlib.Nat.{lt_of_lt_of_le}
use lib.Pow.{pow_mono}
use Rattle.ieee.proofs.Roots.{Digits, one, nought, finish}
use Rattle.roots.proofs.root.Goals.{then-d-q, else-d-q}
use Rattle.roots.proofs.root.Goals as goal

-- the root has at most 53 digits
short : {m n rest q over i : ℕ} → Digits m n rest q over i → i ≤ 53 → q < 2 ^ 53
short D h = lt_of_lt_of_le D.long (pow_mono {j = 53} h)

pub overflow_mul-d : goal.overflow_mul-d
overflow_mul-d c = omega (arith, short c.loop-i.invariant (omega arith))

pub overflow_add-d : goal.overflow_add-d
overflow_add-d c = omega (arith, short c.loop-i.invariant (omega arith))

pub overflow_mul-q : goal.overflow_mul-q
overflow_mul-q c = omega (arith, short c.loop-i.invariant (omega arith))

pub overflow_mul-over : goal.overflow_mul-over
overflow_mul-over c = omega (arith, short c.loop-i.invariant (omega arith))

pub loop-i-preserved : goal.loop-i-preserved
loop-i-preserved c =
    let D = c.loop-i.invariant in
    let l = c.loop-i-test.true in
    elim c.if-d-q.branch [ then-d-q w ↦ rw (w.q-is, w.over-is) (one D l w.if-d-q.true) | else-d-q w ↦ rw (w.q-is, w.over-is) (nought D l w.if-d-q.false) ]

pub returns-then-over-q : goal.returns-then-over-q
returns-then-over-q c = (finish c.loop-i.invariant c.loop-i-test.false c.requires.2).0 c.if-over-q.true

pub returns-else-over-q : goal.returns-else-over-q
returns-else-over-q c = (finish c.loop-i.invariant c.loop-i-test.false c.requires.2).1 c.if-over-q.false
