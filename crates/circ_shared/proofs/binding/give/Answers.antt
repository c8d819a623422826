use Rattle.std.proofs.Common.{◌+◌, ◌-◌, length, map, drop, true, subst, arith}
use Rattle.std.proofs.lemmas.List.{length-map}
use Rattle.circ_nodes.specs.Named.{tree_at}
use Rattle.circ_shared.specs.Binding.{Binds}
use Rattle.circ_shared.proofs.Giving.{fit_length, variables_length, variable_at, terms_at, binds_empty, binds_step, unbound_step}
use Rattle.circ_shared.proofs.binding.give.Goals as goal

pub returns-then-variables-terms : goal.returns-then-variables-terms
returns-then-variables-terms c = λ vs are fit.
    let ts = map (tree_at c.args.nodes.now) c.args.terms.now in
    let one = fit_length vs ts fit in
    let two = variables_length c.args.nodes.now c.args.variables.now vs are in
    let three = length-map c.args.terms.now (tree_at c.args.nodes.now) in
    c.if-variables-terms.true (omega (arith, one, two, three))

pub loop-done-init : goal.loop-done-init
loop-done-init c = λ vs are.
    let ts = map (tree_at c.args.nodes.now) c.args.terms.now in
    let two = variables_length c.args.nodes.now c.args.variables.now vs are in
    let three = length-map c.args.terms.now (tree_at c.args.nodes.now) in
    binds_empty c.args.nodes.now vs ts c.args.made.now.entries (length c.args.variables.now - 0) (omega (arith, two)) (omega (arith, three, c.if-variables-terms.false)) c.requires.empty

pub returns-then-not-branch : goal.returns-then-not-branch
returns-then-not-branch c = λ vs are fit.
    let nodes = c.args.nodes.now in
    let at = c.loop-done in
    let place = length c.args.variables.now - 1 - at.done in
    let v = variable_at nodes c.args.variables.now vs place are (omega (arith, c.loop-done-test.true)) in
    let ts = map (tree_at nodes) c.args.terms.now in
    let t = terms_at nodes c.args.terms.now place (omega (arith, c.loop-done-test.true, c.if-variables-terms.false)) in
    let so_far = subst (λ n. Binds nodes (drop n vs) (drop n ts) at.made.entries true) (omega (arith, c.loop-done-test.true)) (at.invariant vs are) in
    let said = rw c.if-not-branch.true at c.in_ok-bind_one.ensures v.variable (drop (place + 1) vs) (drop (place + 1) ts) v.named so_far in
    unbound_step nodes vs ts c.bind_one.new.made.entries place v.variable _ v.rest t said fit

pub loop-done-preserved : goal.loop-done-preserved
loop-done-preserved c = λ vs are.
    let nodes = c.args.nodes.now in
    let at = c.loop-done in
    let place = length c.args.variables.now - 1 - at.done in
    let v = variable_at nodes c.args.variables.now vs place are (omega (arith, c.loop-done-test.true)) in
    let ts = map (tree_at nodes) c.args.terms.now in
    let t = terms_at nodes c.args.terms.now place (omega (arith, c.loop-done-test.true, c.if-variables-terms.false)) in
    let so_far = subst (λ n. Binds nodes (drop n vs) (drop n ts) at.made.entries true) (omega (arith, c.loop-done-test.true)) (at.invariant vs are) in
    let said = rw c.if-not-branch.false at c.in_ok-bind_one.ensures v.variable (drop (place + 1) vs) (drop (place + 1) ts) v.named so_far in
    subst (λ n. Binds nodes (drop n vs) (drop n ts) c.bind_one.new.made.entries true) (omega (arith, c.loop-done-test.true))
    (binds_step nodes vs ts c.bind_one.new.made.entries place v.variable _ v.rest t said)
