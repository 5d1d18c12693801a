-- `estimate_noise_sigma_u8` meets its contract: refused, it leaves all as it was; else the passes answer.
use mathlib.Core.Path.{ap, ◌∙◌}
use Rattle.noise.specs.Call.{refused}
use Rattle.noise.proofs.Leaving.{ready, leaves_all, clears}
use Rattle.noise.proofs.estimate_noise_sigma_u8.Goals as goal

pub measure-requires : goal.measure-requires
measure-requires c =
    let a = c.args in
    ready a.img.now a.w a.h a.ints.now a.floats.now c.judge.result c.judge.ensures c.in-Ok.m c.in-Ok.is

pub returns-in-Ok : goal.returns-in-Ok
returns-in-Ok c =
    let a = c.args in
    let d = c.measure in
    clears a.img.now a.w a.h a.ints.now a.floats.now c.judge.result c.judge.ensures c.in-Ok.m c.in-Ok.is
    d.result d.new.ints d.new.floats d.ensures.0 d.ensures.1 d.ensures.2

pub returns-in-Err : goal.returns-in-Err
returns-in-Err c =
    let a = c.args in
    leaves_all a.img.now a.w a.h a.ints.now a.floats.now c.judge.result c.judge.ensures c.in-Err.why c.in-Err.is c.refuse.result (c.refuse.ensures ∙ ap refused c.from.ensures)
