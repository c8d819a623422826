use Rattle.std.proofs.Common.{◌≡◌, ◌+◌, ◌<◌, map, drop, length, ap, sym, ◌∙◌, arith}
use Rattle.std.proofs.lemmas.List.{drop_all, drop_more, length-set}
use Rattle.std.proofs.lemmas.Option.{get_or_from_slice_get}
use Rattle.circ_term.specs.Tree.{trees_of}
use Rattle.circ_term.specs.Fingerprint.{mixed, fingerprint_of, fingerprint_after}
use Rattle.circ_nodes.specs.Named.{tree_at}
use Rattle.circ_nodes.specs.Rows.{changed_args}
use Rattle.circ_nodes.proofs.Building.{there_read}
use Rattle.circ_nodes.proofs.Located.{trees_named}
use Rattle.circ_nodes.proofs.nodes.Nodes.changed_fingerprint.Goals as goal

pub changed_arg-requires : goal.changed_arg-requires
changed_arg-requires c =
    let root = c.args.root in
    omega (arith, length-set root.args.now root.place root.new)

pub key-requires : goal.key-requires
key-requires c =
    let root = c.args.root in
    let args = changed_args root in
    let i = c.loop-i.i in
    let read = get_or_from_slice_get args i c.changed_arg.result 0 c.changed_arg.ensures in
    let there = there_read c.args.self.now args i c.requires (omega (arith, length-set root.args.now root.place root.new)) in
    omega (arith, read, there)

pub loop-i-preserved : goal.loop-i-preserved
loop-i-preserved c =
    let at = c.loop-i in
    let nodes = c.args.self.now in
    let root = c.args.root in
    let args = changed_args root in
    let within : at.i < length args = omega (arith, length-set root.args.now root.place root.new) in
    let rest = trees_of (map (tree_at nodes) (drop (at.i + 1) args)) in
    let read = get_or_from_slice_get args at.i c.changed_arg.result 0 c.changed_arg.ensures in
    let e = drop_more args at.i 0 within in
    let key = c.key.ensures ∙ ap (λ n. fingerprint_of (tree_at nodes n)) (sym read) in
    ap (λ h. fingerprint_after h rest) (c.mixed-all.ensures ∙ ap (mixed at.all) key) ∙ rw e at at.invariant

pub returns : goal.returns
returns c = λ t has.
    let at = c.loop-i in
    let nodes = c.args.self.now in
    let root = c.args.root in
    let args = changed_args root in
    let first = mixed (mixed 2 root.op) root.sort in
    let end = drop_all at.i args (omega (arith, length-set root.args.now root.place root.new)) in
    let all : at.all ≡ fingerprint_after first (trees_of (map (tree_at nodes) args)) = rw end at at.invariant in
    all ∙ ap (fingerprint_after first) (trees_named nodes args has.0 has.2) ∙ ap fingerprint_of (sym has.1)
