use Rattle.std.proofs.Common.{rules}
use Rattle.circ_contexts.specs.Candidates.{Passes}
use Rattle.circ_plain_search.proofs.Keeping.{keeps_filtered}
use Rattle.circ_contexts.proofs.contexts.narrow.Goals as goal

pub returns : goal.returns
returns c = keeps_filtered _ (Passes c.args.gamma.now) _ (λ x b g k. search rules) _ _ c.retain.ensures.filtered
