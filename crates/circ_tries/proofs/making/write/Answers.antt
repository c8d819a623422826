use Rattle.std.proofs.Common.{◌≡◌, refl, ap, subst, ◌∙◌}
use Rattle.circ_nodes.specs.Named.{IsNamed}
use Rattle.circ_rewrite.specs.Plain.{plain_passes, plain_trace}
use Rattle.circ_rewrite.specs.Replacement.{Replacement, placed, traced}
use Rattle.circ_tries.specs.declared.parts.Course.{Course}
use Rattle.circ_tries.proofs.Rooting.{writes_one, traced_passing}
use Rattle.circ_tries.proofs.making.write.Goals as goal

pub returns-in_ok-push-in-Ok-clause-writes : goal.returns-in_ok-push-in-Ok-clause-writes
returns-in_ok-push-in-Ok-clause-writes c = λ t d f n.
    let r : Replacement = f.0 in
    let path = c.args.course.now.path.items in
    let named = subst (IsNamed c.args.nodes.now c.args.new) (ap (λ (x : Replacement). x.new) f.2) n in
    let told = subst (λ p. plain_trace c.in-Ok.trace ≡ traced (placed p r)) c.as_slice.ensures (c.in-Ok.ensures.traced t r named f.1) in
    let trace = c.passing.ensures ∙ traced_passing path _ r d (plain_passes c.args.found.conds.items) told f.2 in
    let course : Course = record { path = c.args.course.now.path; traces = c.push.new.self } in
    writes_one path c.args.course.now course c.passing.result d c.in_ok-push-in-Ok.ensures.items trace refl
