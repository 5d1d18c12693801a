-- `judge` meets its contract, cause by cause.
use Rattle.std.proofs.Common.{◌≡◌, ◌∙◌, rules, Err}
use mathlib.Core.Logic.{inl, inr}
use native.Mathlib.Omega.{arith}
use Rattle.noise.proofs.Causes.{verdict_image, verdict_side, needed_few, verdict_short, verdict_none}
use Rattle.noise.proofs.judge.Goals.{then-ints-m-via-then-ints-m, then-ints-m-via-else-ints-m+then-floats-m}
use Rattle.noise.proofs.judge.Goals as goal

pub returns-in_err-judge : goal.returns-in_err-judge
returns-in_err-judge c =
    let a = c.args in
    let why = c.in_err-judge.field-0.0 in
    let told : c.from_residual.result ≡ Err why = search rules in
    told ∙ verdict_image a.pixels a.w a.h a.ints a.floats why c.in_err-judge.ensures

pub returns-then-too_small : goal.returns-then-too_small
returns-then-too_small c =
    let a = c.args in
    verdict_side a.pixels a.w a.h a.ints a.floats c.in_ok-judge.ensures c.if-too_small.ensures

pub overflow_mul-m : goal.overflow_mul-m
overflow_mul-m c =
    let a = c.args in
    omega (arith, needed_few a.pixels a.w a.h a.ints a.floats c.in_ok-judge.ensures c.if-too_small.ensures c.needed-m.result c.needed-m.ensures)

pub returns-then-ints-m : goal.returns-then-ints-m
returns-then-ints-m c =
    let a = c.args in
    let short = verdict_short a.pixels a.w a.h a.ints a.floats c.in_ok-judge.ensures c.if-too_small.ensures c.needed-m.result c.needed-m.ensures in
    elim c.then-ints-m.branch [
      | then-ints-m-via-then-ints-m w ↦ short (inl w.if-ints-m.true)
      | then-ints-m-via-else-ints-m+then-floats-m w ↦ short (inr (w.if-ints-m.false, w.if-floats-m.true))
    ]

pub returns : goal.returns
returns c =
    let a = c.args in
    verdict_none a.pixels a.w a.h a.ints a.floats c.in_ok-judge.ensures c.if-too_small.ensures c.needed-m.result c.needed-m.ensures
    c.if-ints-m.false c.if-floats-m.false
