use Rattle.circ_proof.specs.PlainProof.{plain_proof}
use Rattle.circ_check.proofs.Whole.{head_left}
use Rattle.circ_check.proofs.checker.Checker.take_proof.Goals as goal

pub begin_proof-requires-clause-sound : goal.begin_proof-requires-clause-sound
begin_proof-requires-clause-sound c = c.requires.start.sound

pub take_behind_head-requires : goal.take_behind_head-requires
take_behind_head-requires c =
    let k = c.args.self.now in
    let th = k.theory.now in
    (th, head_left th (plain_proof c.args.proof.now) k c.begin_proof.new.self c.known.ensures c.requires.fits c.requires.start c.in_ok-begin_proof.ensures)

pub returns : goal.returns
returns c =
    let k = c.args.self.now in
    let th = k.theory.now in
    c.in_ok-take_behind_head.ensures th
    (head_left th (plain_proof c.args.proof.now) k c.begin_proof.new.self c.known.ensures c.requires.fits c.requires.start c.in_ok-begin_proof.ensures)
