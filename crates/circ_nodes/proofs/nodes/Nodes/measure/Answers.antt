use Rattle.std.proofs.Common.{◌+◌, ◌&&◌, map, drop, get_or, ap, sym, ◌∙◌, arith}
use Rattle.std.proofs.Math.Bool.{and_assoc}
use Rattle.std.proofs.lemmas.List.{drop_all, drop_more}
use Rattle.circ_term.specs.Tree.{trees_of, are_ground}
use Rattle.circ_term.specs.Limits.{first_limits, or_else}
use Rattle.circ_nodes.specs.Named.{tree_at}
use Rattle.circ_nodes.proofs.Weighing.{weight_small, measures_all}
use Rattle.circ_nodes.proofs.nodes.Nodes.measure.Goals as goal

pub loop-number-preserved : goal.loop-number-preserved
loop-number-preserved c =
    let at = c.loop-number in
    let nodes = c.args.self.now in
    let n = get_or c.args.numbers.now at.number-index 0 in
    let rest = trees_of (map (tree_at nodes) (drop (at.number-index + 1) c.args.numbers.now)) in
    let e = drop_more c.args.numbers.now at.number-index 0 c.loop-number-test.true in
    let sizes = rw e at at.invariant.sizes in
    let depths = rw e at at.invariant.depths in
    let limits = rw e at at.invariant.limits in
    let without_variable = rw e at at.invariant.without_variable in
    let own = c.weight-weight.ensures in
    let small = weight_small c.weight-weight.result (tree_at nodes n) own in
    record {
      sizes = omega (arith, sizes, own.size);
      depths = omega (arith, depths, own.depth, c.max-depths.ensures);
      limits = ap (λ o. or_else o (first_limits rest)) (sym own.within) ∙ limits;
      without_variable =
          and_assoc at.are_ground c.weight-weight.result.is_ground (are_ground rest)
          ∙ ap (λ b. at.are_ground && (b && are_ground rest)) own.without_variable
          ∙ without_variable;
      few = omega (arith, small.0, at.invariant.few);
      shallow = omega (arith, small.1, at.invariant.shallow, c.max-depths.ensures);
    }

pub returns-clause-measures : goal.returns-clause-measures
returns-clause-measures c = λ ts named.
    let at = c.loop-number in
    let nodes = c.args.self.now in
    let end = drop_all at.number-index c.args.numbers.now c.loop-number-test.false in
    measures_all nodes c.args.numbers.now ts named at.sizes at.depths at.are_ground (rw end at at.invariant.sizes) (rw end at at.invariant.depths) (rw end at at.invariant.limits)
    (rw end at at.invariant.without_variable)
