use Rattle.std.proofs.Common.{List}
use Rattle.std.proofs.lemmas.Result.{IfOk-weaker}
use Rattle.circ_rewrite.specs.Replacement.{Traced}
use Rattle.circ_plain_search.specs.Greatest.{GreatestSpecialSet}
use Rattle.circ_contexts.specs.Candidates.{IsGreatest}
use Rattle.circ_contexts.proofs.Dropping.{greatest_with_traces}
use Rattle.circ_contexts.proofs.contexts.special_places.Goals as goal

pub returns : goal.returns
returns c =
    let th = c.args.theory.now in
    let b = c.args.budget in
    record {
      greatest = IfOk-weaker c.greatest_set-found.result (IsGreatest th b) (λ g. (traces : List (List Traced)) × GreatestSpecialSet th b g traces)
          (λ g h. greatest_with_traces th b g h) c.greatest_set-found.ensures.exact;
    }
