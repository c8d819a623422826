use Rattle.std.proofs.Common.{[], get_or}
use Rattle.circ_theory.specs.Variables.{seen_in}
use Rattle.circ_nodes.specs.Named.{tree_at}
use Rattle.circ_shared.proofs.Meets.{unread, read_again}
use Rattle.circ_shared.proofs.Seeing.{gathers_none, pairs_first, pairs_next, pairs_last}
use Rattle.circ_shared.proofs.variables.gather_goal.Goals as goal

pub loop-pair-init : goal.loop-pair-init
loop-pair-init c =
    let nodes = c.args.nodes.now in
    let left = tree_at nodes c.args.sides.left in
    let none = gathers_none nodes c.args.seen.now.entries c.args.variables.now.keys c.requires.seen c.requires.none in
    let one = c.in_ok-gather.ensures [] none in
    pairs_first nodes (seen_in (tree_at nodes c.args.sides.right) (seen_in left [])) c.args.conds.now c.gather-2.new.seen.entries c.gather-2.new.variables.keys
    (c.in_ok-gather-2.ensures (seen_in left []) one)

pub loop-pair-preserved : goal.loop-pair-preserved
loop-pair-preserved c =
    let nodes = c.args.nodes.now in
    let at = c.loop-pair in
    let ps = c.args.conds.now in
    let s = get_or ps at.pair-index unread in
    let so_far = at.invariant in
    let one = c.in_ok-gather-3.ensures so_far.variables so_far.gathers in
    let two = c.in_ok-gather-4.ensures (seen_in (tree_at nodes s.left) so_far.variables) one in
    pairs_next nodes _ ps at.pair-index at.seen.entries at.variables.keys c.gather-in-loop-pair-2.new.seen.entries c.gather-in-loop-pair-2.new.variables.keys s
    c.loop-pair-test.true (read_again ps at.pair-index c.loop-pair-test.true) so_far two

pub returns : goal.returns
returns c =
    let at = c.loop-pair in
    pairs_last c.args.nodes.now _ c.args.conds.now at.pair-index at.seen.entries at.variables.keys c.loop-pair-test.false at.invariant
