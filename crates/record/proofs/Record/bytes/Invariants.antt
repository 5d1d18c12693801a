-- What is laid and what is still to come make up the fields' bytes.
use lib.ListN.{length}
use Rattle.record.specs.Records.{form_nf, fields_of}
use Rattle.record.proofs.Putting.{Laying}
use Rattle.record.proofs.Record.bytes.Given as goal

abbrev pub invariant-loop-count : goal.invariant-loop-count
invariant-loop-count l = Laying form_nf.field_bytes (fields_of l.fn.self) l.initial.bytes l.at (length l.yielded) l.bytes
