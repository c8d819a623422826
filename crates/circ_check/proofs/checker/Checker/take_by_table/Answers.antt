use Rattle.std.proofs.Common.{◌∙◌}
use Rattle.circ_proof.specs.PlainProof.{plain_proof}
use Rattle.circ_check.proofs.Whole.{head_by_table}
use Rattle.circ_check.proofs.checker.Checker.take_by_table.Goals as goal

pub begin-requires : goal.begin-requires
begin-requires c = c.requires.start.sound

pub take_behind_head-requires : goal.take_behind_head-requires
take_behind_head-requires c =
    let k = c.args.self.now in
    let th = k.theory.now in (
      th,
      head_by_table th (plain_proof c.args.proof.now) c.in_ok-shared.shared c.in_ok-gamma.gamma k c.begin.new.self c.known.ensures c.requires.fits c.requires.start
          (c.in_ok-shared.ensures ∙ c.requires.table) c.in_ok-gamma.ensures c.in_ok-begin.ensures.took,
    )

pub returns : goal.returns
returns c =
    let k = c.args.self.now in
    let th = k.theory.now in
    c.in_ok-take_behind_head.ensures th
    (head_by_table th (plain_proof c.args.proof.now) c.in_ok-shared.shared c.in_ok-gamma.gamma k c.begin.new.self c.known.ensures c.requires.fits c.requires.start
    (c.in_ok-shared.ensures ∙ c.requires.table) c.in_ok-gamma.ensures c.in_ok-begin.ensures.took)
