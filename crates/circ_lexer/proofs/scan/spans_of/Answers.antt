use Rattle.std.proofs.Common.{arith}
use Rattle.circ_lexer.proofs.Cutting.{all_cut}
use Rattle.circ_lexer.proofs.scan.spans_of.Goals as goal

pub returns : goal.returns
returns c = all_cut c.args.bytes.now c.loop-at.at c.loop-at.spans.items c.loop-at.invariant.scans (omega arith)
