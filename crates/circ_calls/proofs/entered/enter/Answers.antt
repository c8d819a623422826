use Rattle.std.proofs.Common.{◌++◌, map, ap, sym, subst, ◌∙◌}
use Rattle.std.specs.List.{AllByRecursion}
use Rattle.circ_nodes.proofs.Numbers.{grows_more}
use Rattle.circ_theory.specs.Pairs.{plain_pair}
use Rattle.circ_shared.specs.Patterns.{goal_at, IsPattern}
use Rattle.circ_calls.proofs.Judged.{all_entered}
use Rattle.circ_calls.proofs.entered.enter.Goals as goal

pub enter_hypotheses-requires : goal.enter_hypotheses-requires
enter_hypotheses-requires c = subst (AllByRecursion (IsPattern c.enter_rules.new.nodes)) (sym c.in_ok-shared.ensures.items) tt

pub returns-in_err-enter_hypotheses-clause-grows : goal.returns-in_err-enter_hypotheses-clause-grows
returns-in_err-enter_hypotheses-clause-grows c =
    grows_more c.args.nodes.now c.enter_rules.new.nodes c.enter_hypotheses.new.nodes c.in_ok-numbered.ensures.grows c.enter_hypotheses.ensures.grows

pub returns-in_err-assumptions-clause-grows : goal.returns-in_err-assumptions-clause-grows
returns-in_err-assumptions-clause-grows c =
    let first = grows_more c.args.nodes.now c.enter_rules.new.nodes c.enter_hypotheses.new.nodes c.in_ok-numbered.ensures.grows
    c.in_ok-enter_hypotheses.ensures.grows in
    grows_more c.args.nodes.now c.enter_hypotheses.new.nodes c.share_pairs.new.nodes first c.share_pairs.ensures.grows

pub returns-clause-grows : goal.returns-clause-grows
returns-clause-grows c =
    let first = grows_more c.args.nodes.now c.enter_rules.new.nodes c.enter_hypotheses.new.nodes c.in_ok-numbered.ensures.grows
    c.in_ok-enter_hypotheses.ensures.grows in
    grows_more c.args.nodes.now c.enter_hypotheses.new.nodes c.share_pairs.new.nodes first c.in_ok-assumptions.ensures.grows

pub returns-clause-entered : goal.returns-clause-entered
returns-clause-entered c =
    let H = c.args.hyps.now in
    let hyps = c.in_ok-enter_hypotheses.ensures.exact
    ∙ ap (λ ps. map (goal_at c.enter_rules.new.nodes) ps ++ H) c.in_ok-shared.ensures.items in
    all_entered c.args.theory.now c.args.table.now H (map plain_pair c.args.assumptions.now) c.enter_rules.new.nodes c.enter_hypotheses.new.nodes
    c.share_pairs.new.nodes c.in_ok-enter_hypotheses.ensures.grows c.in_ok-assumptions.ensures.grows
    (record { numbered = c.in_ok-numbered.numbered; hyps = c.enter_hypotheses.new.entered; assumptions = c.in_ok-assumptions.assumptions })
    c.in_ok-numbered.ensures.numbered c.in_ok-enter_hypotheses.ensures.there hyps c.in_ok-assumptions.ensures.there c.in_ok-assumptions.ensures.same
