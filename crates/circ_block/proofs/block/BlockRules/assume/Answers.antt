use Rattle.circ_plain_search.specs.BlockRules.{block_rules}
use Rattle.circ_block.proofs.block.BlockRules.assume.Goals as goal

pub returns-clause-rules : goal.returns-clause-rules
returns-clause-rules c = λ th E h.
    let now = c.turn_to.ensures th E h in
    record {
      goals = c.assume.ensures.reducer th (block_rules th E) now.goals;
      aside = now.aside;
      theory = now.theory;
      rules = now.rules;
      lemmas = now.lemmas;
      count = now.count;
    }
