use Rattle.std.proofs.Common.{◌∙◌, ◌++◌, ◌∷◌, [], length, ap, sym, arith}
use Rattle.std.proofs.lemmas.List.{length-map}
use Rattle.circ_theory.specs.Operators.{operator_of}
use Rattle.circ_aci.specs.Content.{leaves}
use Rattle.circ_nodes.specs.Named.{tree_at}
use Rattle.circ_forms.specs.Named.{trees_at}
use Rattle.circ_forms.specs.Taking.{place_in}
use Rattle.circ_forms.proofs.Placed.{row_sorted, gathered, place_before, there_at, taken_last, taken_again, taken_at}
use Rattle.circ_forms.proofs.placing.take_in_place.Goals as goal

pub place_in-place-requires : goal.place_in-place-requires
place_in-place-requires c =
    let nodes = c.args.nodes.now in
    let row = tree_at nodes c.args.row in
    let all = gathered nodes c.args.parts.now.items c.push_leaves.new.parts.items (leaves c.args.op row) c.requires.none c.in_ok-push_leaves.ensures.leaves in
    record {
      sorted = row_sorted (operator_of c.args.decl.now) c.args.op row (trees_at nodes c.as_slice.result.now) c.requires.comm c.requires.row.row
          (ap (trees_at nodes) c.as_slice.ensures.value ∙ all);
    }

pub returns-then-place-len-clause-takes : goal.returns-then-place-len-clause-takes
returns-then-place-len-clause-takes c =
    let nodes = c.args.nodes.now in
    let ns = c.push_leaves.new.parts.items in
    let x = tree_at nodes c.args.number in
    let all = gathered nodes c.args.parts.now.items ns (leaves c.args.op (tree_at nodes c.args.row)) c.requires.none c.in_ok-push_leaves.ensures.leaves in
    let long = sym (ap length c.as_slice.ensures.value) ∙ c.as_slice.ensures.len in
    taken_last nodes (operator_of c.args.decl.now) c.args.op c.args.row c.args.number c.place_in-place.result ns c.args.parts.now.items
    c.requires.comm c.requires.none all
    (c.place_in-place.ensures ∙ ap (λ ms. place_in x (trees_at nodes ms)) c.as_slice.ensures.value)
    (c.if-place-len.true ∙ c.len.ensures ∙ sym long) c.requires.there c.requires.alone

pub index-requires : goal.index-requires
index-requires c =
    let nodes = c.args.nodes.now in
    let x = tree_at nodes c.args.number in
    let long = sym (ap length c.as_slice.ensures.value) ∙ c.as_slice.ensures.len in
    let less = place_before nodes x c.push_leaves.new.parts.items c.place_in-place.result c.len.result
    (c.place_in-place.ensures ∙ ap (λ ms. place_in x (trees_at nodes ms)) c.as_slice.ensures.value) (long ∙ sym c.len.ensures) c.if-place-len.false in
    omega (arith, less, long)

pub is_repeated-requires-clause-second : goal.is_repeated-requires-clause-second
is_repeated-requires-clause-second c =
    let nodes = c.args.nodes.now in
    let ns = c.push_leaves.new.parts.items in
    let x = tree_at nodes c.args.number in
    let long = sym (ap length c.as_slice.ensures.value) ∙ c.as_slice.ensures.len in
    there_at nodes ns c.place_in-place.result c.index.result.now c.push_leaves.ensures.below
    (place_before nodes x ns c.place_in-place.result c.len.result
    (c.place_in-place.ensures ∙ ap (λ ms. place_in x (trees_at nodes ms)) c.as_slice.ensures.value) (long ∙ sym c.len.ensures) c.if-place-len.false)
    c.index.ensures

pub returns-then-is_repeated-clause-takes : goal.returns-then-is_repeated-clause-takes
returns-then-is_repeated-clause-takes c =
    let nodes = c.args.nodes.now in
    let ns = c.push_leaves.new.parts.items in
    let x = tree_at nodes c.args.number in
    let all = gathered nodes c.args.parts.now.items ns (leaves c.args.op (tree_at nodes c.args.row)) c.requires.none c.in_ok-push_leaves.ensures.leaves in
    let place = c.place_in-place.ensures ∙ ap (λ ms. place_in x (trees_at nodes ms)) c.as_slice.ensures.value in
    let long = sym (ap length c.as_slice.ensures.value) ∙ c.as_slice.ensures.len in
    let less = place_before nodes x ns c.place_in-place.result c.len.result place (long ∙ sym c.len.ensures) c.if-place-len.false in
    taken_again nodes (operator_of c.args.decl.now) c.args.op c.args.row c.args.number c.place_in-place.result c.index.result.now ns c.args.parts.now.items
    c.clear.new.self.items c.requires.comm c.requires.none all place less c.index.ensures (sym c.is_repeated.ensures ∙ c.if-is_repeated.true) c.clear.ensures.items
    c.requires.row

pub returns-clause-takes : goal.returns-clause-takes
returns-clause-takes c =
    let nodes = c.args.nodes.now in
    let o = operator_of c.args.decl.now in
    let ns = c.push_leaves.new.parts.items in
    let x = tree_at nodes c.args.number in
    let all = gathered nodes c.args.parts.now.items ns (leaves c.args.op (tree_at nodes c.args.row)) c.requires.none c.in_ok-push_leaves.ensures.leaves in
    let place = c.place_in-place.ensures ∙ ap (λ ms. place_in x (trees_at nodes ms)) c.as_slice.ensures.value in
    let long = sym (ap length c.as_slice.ensures.value) ∙ c.as_slice.ensures.len in
    let less = place_before nodes x ns c.place_in-place.result c.len.result place (long ∙ sym c.len.ensures) c.if-place-len.false in
    let rest = c.rest_at.ensures o c.requires.row (omega (arith, less, ap length all, length-map ns (tree_at nodes))) in
    taken_at nodes o c.args.op c.args.row c.args.number c.rest_at.result c.place_in-place.result c.index.result.now ns c.args.parts.now.items
    c.push.new.self.items c.requires.comm c.requires.none all place less c.index.ensures (sym c.is_repeated.ensures ∙ c.if-is_repeated.false)
    (c.in_ok-push.ensures.items ∙ ap (λ ms. ms ++ c.args.number ∷ []) c.truncate.ensures.items) rest.0 rest.1
