use Rattle.std.proofs.Common.{sym, ◌∙◌}
use Rattle.circ_turn.specs.Standing.{standing, with_budget}
use Rattle.circ_turn.proofs.Turning.{reducing_is}
use Rattle.circ_trace.specs.RewritingDeed.{pass_deed}
use Rattle.circ_trace.proofs.Accounts.{hindered, deed_made}
use Rattle.circ_trace.proofs.Deeds.{same_deed, was_passed, not_passed}
use Rattle.circ_trace.proofs.turn_ahead.TurnAhead.lemma_deed.Goals as goal

pub returns-then-has-clause-exact : goal.returns-then-has-clause-exact
returns-then-has-clause-exact c =
    let th = c.args.self.now.search.now.theory.now in
    let G = c.args.self.now.search.now.gamma.now in
    let st = with_budget (standing c.args.self.now.state.now) c.args.budget in
    same_deed _ _ (was_passed th G st c.args.self.now.passed.now c.args.goal.now (sym c.has.ensures ∙ c.if-has.true)) c.attempt_deed.result c.attempt_deed.ensures.exact

pub returns-in-Err-clause-exact : goal.returns-in-Err-clause-exact
returns-in-Err-clause-exact c =
    let th = c.args.self.now.search.now.theory.now in
    let G = c.args.self.now.search.now.gamma.now in
    let g = c.args.goal.now in
    let st = with_budget (standing c.args.self.now.state.now) c.args.budget in
    let E = c.args.self.now.state.now.hyps.earlier in
    let red = reducing_is th E c.args.rules.now.goals.conds g.conds c.args.rules.now.goals.reducer c.requires.rules.goals c.requires.conds in
    let h = rw c.in-Err.is at (c.lemma_pass.ensures.exact E red c.requires.passes.lemmas) in
    same_deed _ _ (not_passed th G st c.args.self.now.passed.now g (sym c.has.ensures ∙ c.if-has.false)) c.ends_unless_memory.result
    (hindered c.in-Err.fault c.lemma_pass.new.budget _ (pass_deed th G st g) h c.ends_unless_memory.result c.ends_unless_memory.ensures.ends
    c.ends_unless_memory.ensures.stopped)

pub returns-in-Ok-clause-exact : goal.returns-in-Ok-clause-exact
returns-in-Ok-clause-exact c =
    let th = c.args.self.now.search.now.theory.now in
    let G = c.args.self.now.search.now.gamma.now in
    let g = c.args.goal.now in
    let st = with_budget (standing c.args.self.now.state.now) c.args.budget in
    let E = c.args.self.now.state.now.hyps.earlier in
    let red = reducing_is th E c.args.rules.now.goals.conds g.conds c.args.rules.now.goals.reducer c.requires.rules.goals c.requires.conds in
    let h = rw c.in-Ok.is at (c.lemma_pass.ensures.exact E red c.requires.passes.lemmas) in
    same_deed _ _ (not_passed th G st c.args.self.now.passed.now g (sym c.has.ensures ∙ c.if-has.false)) c.swept_deed.result
    (deed_made _ c.lemma_pass.new.budget _ (pass_deed th G st g) h c.swept_deed.result c.swept_deed.ensures.exact)
