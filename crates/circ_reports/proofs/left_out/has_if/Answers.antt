use Rattle.std.proofs.Common.{◌∙◌, sym, ap}
use Rattle.circ_reports.specs.PlainProof.{some_chain}
use Rattle.circ_reports.proofs.PlainProofs.{chains_told}
use Rattle.circ_reports.proofs.left_out.has_if.Goals as goal

pub returns : goal.returns
returns c = sym (ap some_chain (sym c.chains.ensures) ∙ chains_told c.chains.result.now)
