-- Refused, too short an answer slice, or measured and written.
use mathlib.Core.Path.{refl}
use Rattle.std.proofs.lemmas.Result.{err_from_is_err_and}
use Rattle.noise.proofs.Leaving.{ready}
use Rattle.vuzgari.proofs.Calls.{refused_all, too_short, written}
use Rattle.vuzgari.proofs.measure.Goals as goal

pub returns-in_err-m : goal.returns-in_err-m
returns-in_err-m c =
    let a = c.args in
    let p = err_from_is_err_and c.from_residual.result c.from_residual.ensures.1 in
    rw (p.1, p.2) (refused_all a.pixels.now a.w a.h a.ints.now a.floats.now a.out.now _ c.in_err-m.ensures _ refl)

pub returns-then-out-lt40 : goal.returns-then-out-lt40
returns-then-out-lt40 c =
    let a = c.args in
    too_short a.pixels.now a.w a.h a.ints.now a.floats.now a.out.now _ c.in_ok-m.ensures c.in_ok-m.m refl c.if-out-lt40.true

pub measure-a-requires : goal.measure-a-requires
measure-a-requires c =
    let a = c.args in
    ready a.pixels.now a.w a.h a.ints.now a.floats.now _ c.in_ok-m.ensures c.in_ok-m.m refl

pub returns : goal.returns
returns c =
    let a = c.args in
    let d = c.measure-a in
    written a.pixels.now a.w a.h a.ints.now a.floats.now a.out.now _ c.in_ok-m.ensures c.in_ok-m.m refl c.if-out-lt40.false
    d.result d.ensures.0 d.ensures.1 d.ensures.2 c.put.ensures
