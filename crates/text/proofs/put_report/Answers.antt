-- The header is laid from the front on, the line after it.
use Rattle.std.proofs.Common.{arith}
use Rattle.text.specs.Line.{line_of}
use Rattle.text.proofs.Lines.{line_short}
use Rattle.text.proofs.Lays.{two}
use Rattle.text.proofs.put_report.Goals as goal

pub returns : goal.returns
returns c =
    two c.args.out.now c.put-to.new.out c.put_line.new.out c.args.header.now (line_of c.args.fields.now) c.put-to.result c.put_line.result
    (omega (arith, line_short c.args.fields.now, c.requires)) c.put-to.ensures c.put_line.ensures
