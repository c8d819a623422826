use Rattle.circ_tries.proofs.Untried.{rules_push}
use Rattle.circ_tries.proofs.reducer.tried_with.Goals as goal

pub new-requires-clause-rules : goal.new-requires-clause-rules
new-requires-clause-rules c =
    rw (c.in_ok-push.ensures.items, c.in_ok-all.ensures) (rules_push c.args.rules.now c.args.rule c.requires.rules c.requires.rule)
