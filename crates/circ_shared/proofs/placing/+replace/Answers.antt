use Rattle.std.proofs.Common.{◌≡◌, Some, [], ◌∷◌, ap, sym, subst, ◌∙◌}
use Rattle.circ_term.specs.Tree.{replaced, with_arg}
use Rattle.circ_nodes.specs.Named.{tree_at, InternsSome}
use Rattle.circ_nodes.proofs.Located.{named_tree, tree_named, tree_later}
use Rattle.circ_shared.proofs.Replacing.{fault_above, replaced_step, replaced_made}
use Rattle.circ_shared.proofs.placing.+replace.Goals as goal

pub returns-in-Err-clause-interns : goal.returns-in-Err-clause-interns
returns-in-Err-clause-interns t c =
    let nodes = c.args.nodes.now in
    let whole = tree_at nodes c.args.number in
    let within = c.known_at-2.ensures.within in
    fault_above nodes c.replace.new.nodes c.in-Err.fault whole c.args.path.now c.in-Some.place.now c.in-Some.rest.now (tree_at nodes c.args.new) c.in-Some-arg.arg
    c.in-Some.ensures.cases.0 (c.in-Some-arg.ensures whole (tree_named nodes c.args.number c.requires.number)) within c.in-Err.ensures.interns

pub returns-in-Ok-Some-clause-interns : goal.returns-in-Ok-Some-clause-interns
returns-in-Ok-Some-clause-interns t c =
    let nodes = c.args.nodes.now in
    let after = c.replace.new.nodes in
    let whole = tree_at nodes c.args.number in
    let new = tree_at nodes c.args.new in
    let inner = rw c.in-Ok-Some.field-0-is at c.in-Ok-Some.ensures.interns in
    let arg = c.in-Some-arg.ensures whole (tree_named nodes c.args.number c.requires.number) in
    let step = replaced_step nodes whole c.args.path.now c.in-Some.place.now c.in-Some.rest.now new c.in-Some-arg.arg c.in-Some.ensures.cases.0 arg in
    let same : replaced (tree_at after c.args.number) (c.in-Some.place.now ∷ []) (tree_at after c.in-Ok-Some.made) ≡ replaced whole c.args.path.now new =
    ap (λ u. replaced u (c.in-Some.place.now ∷ []) (tree_at after c.in-Ok-Some.made)) (tree_later nodes after c.args.number c.in-Ok-Some.ensures.grows c.requires.number)
    ∙ replaced_made whole c.in-Some.place.now (tree_at after c.in-Ok-Some.made) arg.0 arg.1
    ∙ ap (λ u. with_arg whole c.in-Some.place.now (Some u)) (named_tree after c.in-Ok-Some.made inner.0 inner.2)
    ∙ ap (with_arg whole c.in-Some.place.now) (sym inner.1) ∙ sym step in
    subst (InternsSome c.with_argument.new.self c.with_argument.result) same c.with_argument.ensures.interns
