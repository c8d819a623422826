use Rattle.circ_proof.specs.PlainProof.{plain_proof}
use Rattle.circ_check.proofs.Whole.{none_left}
use Rattle.circ_check.proofs.checker.Checker.take_behind_head.Goals as goal

pub take_blocks-requires : goal.take_blocks-requires
take_blocks-requires c = (c.requires.0, c.in_ok-take_certificates.ensures c.requires.0 c.requires.1)

pub returns : goal.returns
returns c th h =
    none_left th (plain_proof c.args.proof.now) c.take_blocks.new.self (c.in_ok-take_blocks.ensures th (c.in_ok-take_certificates.ensures th h))
