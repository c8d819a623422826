use Rattle.std.proofs.Common.{◌∙◌}
use Rattle.std.specs.Option.{option_map}
use Rattle.circ_join.specs.Uses.{plain_uses}
use Rattle.circ_turn.proofs.Turning.{reducing_is}
use Rattle.circ_trace.specs.Account.{join_deed_trying}
use Rattle.circ_trace.proofs.Accounts.{joined_here, hindered, deed_made}
use Rattle.circ_trace.proofs.turn_ahead.TurnAhead.deed_trying.Goals as goal

pub returns-in-Err-clause-exact : goal.returns-in-Err-clause-exact
returns-in-Err-clause-exact c =
    let th = c.args.self.now.search.now.theory.now in
    let G = c.args.self.now.search.now.gamma.now in
    let E = c.args.self.now.state.now.hyps.earlier in
    let g = c.args.goal.now in
    let red = reducing_is th E c.args.rules.now.goals.conds g.conds c.args.rules.now.goals.reducer c.requires.rules.goals c.requires.conds in
    let h = rw c.in-Err.is at (joined_here (option_map (λ v. plain_uses v.items)) th E g.conds c.args.rules.now.goals.reducer G c.args.self.now.state.now.hyps.all g.left g.right
    c.args.budget c.join.new.budget c.join.result red c.join.ensures.exact) in
    hindered c.in-Err.fault c.join.new.budget _ (join_deed_trying th G E g) h c.ends_unless_memory.result c.ends_unless_memory.ensures.ends c.ends_unless_memory.ensures.stopped

pub returns-in-Ok-clause-exact : goal.returns-in-Ok-clause-exact
returns-in-Ok-clause-exact c =
    let th = c.args.self.now.search.now.theory.now in
    let G = c.args.self.now.search.now.gamma.now in
    let E = c.args.self.now.state.now.hyps.earlier in
    let g = c.args.goal.now in
    let red = reducing_is th E c.args.rules.now.goals.conds g.conds c.args.rules.now.goals.reducer c.requires.rules.goals c.requires.conds in
    let h = rw c.in-Ok.is at (joined_here (option_map (λ v. plain_uses v.items)) th E g.conds c.args.rules.now.goals.reducer G c.args.self.now.state.now.hyps.all g.left g.right
    c.args.budget c.join.new.budget c.join.result red c.join.ensures.exact) in
    deed_made _ c.join.new.budget _ (join_deed_trying th G E g) h c.joined_deed.result
    (c.joined_deed.ensures.exact E (c.join.ensures.same ∙ red) c.requires.rules.lemmas)
