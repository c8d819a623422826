use Rattle.std.proofs.Common.{rules}
use Rattle.std.proofs.lemmas.List.Sorted.{IsPartitionPoint-from_clause}
use Rattle.circ_term.specs.Order.{comes_before}
use Rattle.circ_nodes.specs.Named.{tree_at}
use Rattle.circ_forms.proofs.Placed.{sorted_parted, place_told}
use Rattle.circ_forms.proofs.placing.place_in.Goals as goal

pub returns : goal.returns
returns c =
    let nodes = c.args.nodes.now in
    let x = tree_at nodes c.args.number in
    let numbers = c.args.numbers.now in
    place_told nodes x numbers c.partition_point.result c.partition_point.ensures.bound
    (IsPartitionPoint-from_clause (λ n. comes_before (tree_at nodes n) x) _ _ c.partition_point.ensures.partitioned (sorted_parted nodes x numbers c.requires.sorted)
    (λ a r q k. search rules))
