use Rattle.std.specs.Option.{option_map}
use Rattle.circ_moves.specs.Plain.{plain_moves}
use Rattle.circ_turn.specs.Standing.{standing}
use Rattle.circ_turn.proofs.Turning.{reducing_is}
use Rattle.circ_trace.specs.RewritingDeed.{join_deed_rewriting}
use Rattle.circ_trace.proofs.Accounts.{hindered, deed_made}
use Rattle.circ_trace.proofs.Deeds.{content_here}
use Rattle.circ_trace.proofs.turn_ahead.TurnAhead.deed_rewriting.Goals as goal

pub returns-in-Err-clause-exact : goal.returns-in-Err-clause-exact
returns-in-Err-clause-exact c =
    let th = c.args.self.now.search.now.theory.now in
    let G = c.args.self.now.search.now.gamma.now in
    let E = c.args.self.now.state.now.hyps.earlier in
    let g = c.args.goal.now in
    let red = reducing_is th E c.args.rules.now.goals.conds g.conds c.args.rules.now.goals.reducer c.requires.rules.goals c.requires.conds in
    let h = rw c.in-Err.is at (content_here (option_map (λ v. plain_moves v.items)) th E g.conds c.args.rules.now.goals.reducer G c.args.self.now.state.now.hyps.all g.left g.right
    c.args.budget c.join.new.budget c.join.result red c.join.ensures.exact) in
    hindered c.in-Err.fault c.join.new.budget _ (join_deed_rewriting th G (standing c.args.self.now.state.now) c.args.self.now.passed.now g) h c.ends_unless_memory.result
    c.ends_unless_memory.ensures.ends c.ends_unless_memory.ensures.stopped

pub returns-in-Ok-clause-exact : goal.returns-in-Ok-clause-exact
returns-in-Ok-clause-exact c =
    let th = c.args.self.now.search.now.theory.now in
    let G = c.args.self.now.search.now.gamma.now in
    let E = c.args.self.now.state.now.hyps.earlier in
    let g = c.args.goal.now in
    let red = reducing_is th E c.args.rules.now.goals.conds g.conds c.args.rules.now.goals.reducer c.requires.rules.goals c.requires.conds in
    let h = rw c.in-Ok.is at (content_here (option_map (λ v. plain_moves v.items)) th E g.conds c.args.rules.now.goals.reducer G c.args.self.now.state.now.hyps.all g.left g.right
    c.args.budget c.join.new.budget c.join.result red c.join.ensures.exact) in
    deed_made _ c.join.new.budget _ (join_deed_rewriting th G (standing c.args.self.now.state.now) c.args.self.now.passed.now g) h c.joined_deed.result c.joined_deed.ensures.exact
