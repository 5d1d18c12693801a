-- Ten fields at the places of their bytes.
use mathlib.Core.Path.{ap}
use Rattle.record.specs.Records.{form_nf, record_of}
use Rattle.record.proofs.Layouts.{numbers_at}
use Rattle.record.proofs.record_in.Goals as goal

pub returns : goal.returns
returns c = let e = ap record_of (numbers_at form_nf.field_bytes 2 c.args.bytes.now c.requires) in cc
