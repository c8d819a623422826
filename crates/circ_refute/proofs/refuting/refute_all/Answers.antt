use Rattle.std.proofs.Common.{List, map, sym, subst}
use Rattle.std.specs.List.{AllByRecursion}
use Rattle.circ_theory.specs.Theory.{Theory}
use Rattle.circ_theory.specs.Goal.{Goal}
use Rattle.circ_plain_search.specs.PlainSearch.{IsSearchable}
use Rattle.circ_refute.specs.PlainRefutation.{refutations, goals_in}
use Rattle.circ_refute.specs.Difference.{IsRightDecision}
use Rattle.circ_refute.proofs.Decisions.{all_in_blocks, right_decided}
use Rattle.circ_refute.proofs.refuting.refute_all.Goals as goal

pub refute_blocks-decision-requires-clause-goals : goal.refute_blocks-decision-requires-clause-goals
refute_blocks-decision-requires-clause-goals c =
    let T : Theory → Type 0 = λ t. AllByRecursion (λ b. AllByRecursion (IsSearchable t) b) (map (λ b. b.items) c.args.blocks.now) in
    subst T (sym c.in_ok-refuter.ensures.theory) c.requires.goals

pub returns-clause-right : goal.returns-clause-right
returns-clause-right c =
    let th = c.args.theory.now in
    let bs : List (List Goal) = map (λ b. b.items) c.args.blocks.now in
    let gs : List Goal = goals_in bs in
    let r = c.in_ok-refuter.refuter in
    let T : Theory → Type 0 = λ t. IsRightDecision th gs (refutations t 1 r.derives r.rewrites gs) in
    let all = all_in_blocks (IsSearchable th) bs c.requires.goals in
    let right = subst T (sym c.in_ok-refuter.ensures.theory) (c.decisions_are_right.ensures th c.known.ensures gs all r.derives r.rewrites) in
    right_decided th gs (refutations r.theory.now 1 r.derives r.rewrites gs) _ _ c.refute_blocks-decision.result right c.refute_blocks-decision.ensures.exact
