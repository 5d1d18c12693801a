-- The loop's pairs are the sizes and the fields at the index of the turn.
use native.Mathlib.Omega.{arith}
use mathlib.Core.Path.{◌∙◌}
use mathlib.Core.List.{append-nil}
use Rattle.std.proofs.lemmas.List.{length_push}
use Rattle.std.proofs.lemmas.Slice.Zip.{zip_turn, zip_end}
use Rattle.record.specs.Records.{form_nf, fields_of, bytes_as}
use Rattle.record.proofs.Putting.{lay_turn, lay_end}
use Rattle.record.proofs.Record.bytes.Goals as goal

pub loop-count-preserved : goal.loop-count-preserved
loop-count-preserved c =
    let t =
    zip_turn form_nf.field_bytes (fields_of c.args.self) c.loop-count.yielded c.into_iter-count-iterator.result c.loop-count.count-iterator
    c.next.new.self c.next.result (cc) (cc) c.loop-count.yielded_by (c.in-Some.count, c.in-Some.x) c.in-Some.is c.next.ensures.steps in
    let one_more = length_push c.loop-count.yielded (c.in-Some.count, c.in-Some.x) in
    rw one_more (lay_turn c.loop-count.invariant t.0 t.1 (t.2 0) (omega arith) (t.3 0) c.put.ensures)

pub returns : goal.returns
unfolding bytes_as
returns c =
    let all =
    zip_end form_nf.field_bytes (fields_of c.args.self) c.loop-count.yielded c.into_iter-count-iterator.result c.loop-count.count-iterator
    c.next.new.self c.next.result (cc) (cc) c.loop-count.yielded_by c.in-None.is c.next.ensures.steps in
    lay_end c.loop-count.invariant (omega (arith, all)) ∙ append-nil _
