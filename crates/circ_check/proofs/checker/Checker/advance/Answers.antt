use Rattle.circ_proof.specs.Parts.{Step}
use Rattle.circ_proof.specs.PlainProof.{plain_step}
use Rattle.circ_check.proofs.Numbered.{step_in_table, entered_sound, entered_ready, entered_took, entered_kept}
use Rattle.circ_check.proofs.Watching.{on_ok, on_err_to}
use Rattle.circ_check.proofs.checker.Checker.advance.Goals as goal

pub enter_step-requires-clause-lines : goal.enter_step-requires-clause-lines
enter_step-requires-clause-lines c = c.requires.sound.lines

pub enter_step-requires-clause-in_table : goal.enter_step-requires-clause-in_table
enter_step-requires-clause-in_table c =
    let k = c.args.self.now in
    step_in_table k.nodes k.lines c.requires.sound.lines (plain_step c.args.step.now) c.requires.ready.part.1

pub advance_entered-requires-clause-ready : goal.advance_entered-requires-clause-ready
advance_entered-requires-clause-ready c =
    let k = c.args.self.now in
    entered_ready k.theory.now k c.requires.sound c.enter_step.new.nodes c.enter_step.ensures.grows c.enter_step.new.self c.in_ok-enter_step.ensures.entered
    (Step (plain_step c.args.step.now)) c.requires.ready

pub advance_entered-requires-clause-sound : goal.advance_entered-requires-clause-sound
advance_entered-requires-clause-sound c =
    let k = c.args.self.now in
    entered_sound k.theory.now k c.requires.sound c.enter_step.new.nodes c.enter_step.ensures.grows c.enter_step.new.self c.in_ok-enter_step.ensures.entered

pub advance_entered-requires-clause-named : goal.advance_entered-requires-clause-named
advance_entered-requires-clause-named c = c.in_ok-enter_step.ensures.named

pub returns-clause-took : goal.returns-clause-took
returns-clause-took c =
    let k = c.args.self.now in
    on_ok c.advance_entered.result
    (entered_took k.theory.now k c.requires.sound c.enter_step.new.nodes c.enter_step.ensures.grows c.enter_step.new.self
    c.in_ok-enter_step.ensures.entered (Step (plain_step c.args.step.now)) c.advance_entered.new.self)
    c.advance_entered.ensures.took

pub returns-clause-kept : goal.returns-clause-kept
returns-clause-kept c =
    let k = c.args.self.now in
    on_err_to c.advance_entered.result
    (entered_kept k.theory.now k c.requires.sound c.enter_step.new.nodes c.enter_step.ensures.grows c.enter_step.new.self
    c.in_ok-enter_step.ensures.entered c.advance_entered.new.self)
    c.advance_entered.ensures.kept
