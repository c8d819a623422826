use Rattle.std.proofs.Common.{◌≡◌, ◌+◌, map, drop, ap, ◌∙◌}
use Rattle.std.proofs.lemmas.List.{drop_all, drop_more}
use Rattle.circ_term.specs.Tree.{trees_of}
use Rattle.circ_term.specs.Fingerprint.{mixed, fingerprint_after}
use Rattle.circ_nodes.specs.Named.{tree_at}
use Rattle.circ_nodes.proofs.Located.{trees_named}
use Rattle.circ_nodes.proofs.nodes.Nodes.fingerprint.Goals as goal

pub loop-number-preserved : goal.loop-number-preserved
loop-number-preserved c =
    let at = c.loop-number in
    let rest = trees_of (map (tree_at c.args.self.now) (drop (at.number-index + 1) c.args.numbers.now)) in
    let e = drop_more c.args.numbers.now at.number-index 0 c.loop-number-test.true in
    ap (λ h. fingerprint_after h rest) (c.mixed-all.ensures ∙ ap (mixed at.all) c.key.ensures) ∙ rw e at at.invariant

pub returns : goal.returns
returns c = λ ts named.
    let at = c.loop-number in
    let nodes = c.args.self.now in
    let first = mixed (mixed 2 c.args.op) c.args.sort in
    let end = drop_all at.number-index c.args.numbers.now c.loop-number-test.false in
    let all : at.all ≡ fingerprint_after first (trees_of (map (tree_at nodes) c.args.numbers.now)) = rw end at at.invariant in
    all ∙ ap (fingerprint_after first) (trees_named nodes c.args.numbers.now ts named)
