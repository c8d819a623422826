use Rattle.circ_join.specs.Sides.{plain_swept_sides}
use Rattle.circ_rewriting_turn.proofs.Going.{pass_here}
use Rattle.circ_rewriting_turn.proofs.turning.lemma_pass.Goals as goal

pub returns-clause-exact : goal.returns-clause-exact
returns-clause-exact c = λ E e l.
    pass_here plain_swept_sides c.args.search.now.theory.now E c.args.goal.now.conds c.args.reducer.now c.args.passes.now.lemmas c.new-none.result c.args.search.now.gamma.now
    c.args.goal.now.left c.args.goal.now.right c.args.budget.now c.pass_both.new.budget c.pass_both.result e l c.new-none.ensures c.pass_both.ensures.exact
