use Rattle.circ_proof.specs.Parts.{Certificate}
use Rattle.circ_proof.specs.Plain.{plain_links}
use Rattle.circ_check.proofs.Numbered.{links_in_table, entered_sound, entered_ready, entered_took, entered_kept}
use Rattle.circ_check.proofs.Watching.{on_ok, on_err_to}
use Rattle.circ_check.proofs.checker.Checker.certify.Goals as goal

pub enter_links-requires-clause-lines : goal.enter_links-requires-clause-lines
enter_links-requires-clause-lines c = c.requires.sound.lines

pub enter_links-requires-clause-in_table : goal.enter_links-requires-clause-in_table
enter_links-requires-clause-in_table c =
    let k = c.args.self.now in
    links_in_table k.nodes k.lines c.requires.sound.lines (plain_links c.args.links.now) c.requires.ready.part.2

pub certify_entered-requires-clause-ready : goal.certify_entered-requires-clause-ready
certify_entered-requires-clause-ready c =
    let k = c.args.self.now in
    entered_ready k.theory.now k c.requires.sound c.enter_links.new.nodes c.enter_links.ensures.grows c.enter_links.new.self c.in_ok-enter_links.ensures.entered
    (Certificate (plain_links c.args.links.now)) c.requires.ready

pub certify_entered-requires-clause-sound : goal.certify_entered-requires-clause-sound
certify_entered-requires-clause-sound c =
    let k = c.args.self.now in
    entered_sound k.theory.now k c.requires.sound c.enter_links.new.nodes c.enter_links.ensures.grows c.enter_links.new.self c.in_ok-enter_links.ensures.entered

pub certify_entered-requires-clause-named : goal.certify_entered-requires-clause-named
certify_entered-requires-clause-named c = c.in_ok-enter_links.ensures.named

pub returns-clause-took : goal.returns-clause-took
returns-clause-took c =
    let k = c.args.self.now in
    on_ok c.certify_entered.result
    (entered_took k.theory.now k c.requires.sound c.enter_links.new.nodes c.enter_links.ensures.grows c.enter_links.new.self
    c.in_ok-enter_links.ensures.entered (Certificate (plain_links c.args.links.now)) c.certify_entered.new.self)
    c.certify_entered.ensures.took

pub returns-clause-kept : goal.returns-clause-kept
returns-clause-kept c =
    let k = c.args.self.now in
    on_err_to c.certify_entered.result
    (entered_kept k.theory.now k c.requires.sound c.enter_links.new.nodes c.enter_links.ensures.grows c.enter_links.new.self
    c.in_ok-enter_links.ensures.entered c.certify_entered.new.self)
    c.certify_entered.ensures.kept
