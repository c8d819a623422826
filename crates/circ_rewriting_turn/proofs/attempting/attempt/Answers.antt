use Rattle.std.proofs.Common.{ap}
use Rattle.circ_attempt.specs.Search.{of_script}
use Rattle.circ_turn.specs.Standing.{standing}
use Rattle.circ_rewriting_turn.proofs.attempting.attempt.Goals as goal

pub returns-clause-exact : goal.returns-clause-exact
returns-clause-exact c =
    let e = c.requires.reducer in
    c.attempt.ensures.exact c.args.goal.now.conds (of_script c.args.search.now.theory.now (standing c.args.state.now)) (record {
      theory = ap (λ r. r.theory) e;
      rules = ap (λ r. r.rules) e;
      conditions = ap (λ r. r.assumptions) e;
      lemmas = c.requires.passes.lemmas;
      own = c.requires.passes.own;
    })
