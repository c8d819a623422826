use Rattle.std.proofs.Common.{refl}
use Rattle.circ_nodes.specs.Named.{tree_at}
use Rattle.circ_nodes.proofs.Located.{tree_named}
use Rattle.circ_shared.proofs.Steps.{steps_from_variable, steps_unlisted, steps_to}
use Rattle.circ_shared.proofs.special.below.Goals as goal

pub returns-in-Variable : goal.returns-in-Variable
returns-in-Variable c =
    let nodes = c.args.nodes.now in
    let t = tree_at nodes c.args.term in
    steps_from_variable c.args.gamma.now t c.in-Variable.number c.in-Variable.sort c.args.place (c.in-Variable.ensures.shape t (tree_named nodes c.args.term c.requires))

pub returns-then-not-has : goal.returns-then-not-has
returns-then-not-has c =
    let nodes = c.args.nodes.now in
    let t = tree_at nodes c.args.term in
    let h = c.in-Application.ensures.shape t (tree_named nodes c.args.term c.requires) in
    steps_unlisted c.args.gamma.now t c.in-Application.op c.in-Application.sort h.0 c.args.place h.1 (λ k. absurd (let never = c.if-not-has.ensures.1 k in cc))

pub returns-else-not-has : goal.returns-else-not-has
returns-else-not-has c =
    let nodes = c.args.nodes.now in
    let t = tree_at nodes c.args.term in
    let named = tree_named nodes c.args.term c.requires in
    let h = c.in-Application.ensures.shape t named in
    steps_to nodes c.args.gamma.now t c.in-Application.op c.in-Application.sort h.0 c.args.place h.1 (c.if-not-has.ensures.0 refl) c.arg.result (c.arg.ensures t named)
