use Rattle.std.proofs.Common.{ℕ, List, ap, subst, ◌∙◌}
use Rattle.std.specs.Option.{option_map}
use Rattle.std.proofs.lemmas.Option.{same_Some}
use Rattle.circ_term.specs.Tree.{Tree, Trees, Var, trees_of}
use Rattle.circ_theory.specs.Fresh.{parameter_sorts, variables_from}
use Rattle.circ_nodes.specs.Named.{IsNamed, AreNamed}
use Rattle.circ_nodes.proofs.Numbers.{named_later}
use Rattle.circ_proof.proofs.Derivatives.{derivative_at, if_some_at}
use Rattle.circ_steps.specs.declared.derivative.SharedDerivative.{SharedDerivative}
use Rattle.circ_steps.specs.Derivatives.{IsDerivativeAt}
use Rattle.circ_steps.proofs.Numbering.{trees_numbered}
use Rattle.circ_steps.proofs.derivative.share_derivative.Goals as goal

pub returns-clause-derivative : goal.returns-clause-derivative
returns-clause-derivative c =
    let ds = c.args.theory.now.derivatives in
    let found = derivative_at ds c.args.number c.requires in
    let d = found.0 in
    let first = c.intern.new.self in
    let mid = c.variable.new.self in
    let new = c.variables.new.nodes in
    let body_is = same_Some c.in-Some.body.now d.body (c.in-Some.ensures ∙ ap (option_map (λ x. x.body)) found.1.there) in
    let hole_is = same_Some c.in-Some-hole_sort.hole d.hole (c.in-Some-hole_sort.ensures ∙ ap (option_map (λ x. x.hole)) found.1.there) in
    let sorts_are = same_Some c.in-Some-parameter_sorts.sorts.now (parameter_sorts d) (c.in-Some-parameter_sorts.ensures ∙ ap (option_map parameter_sorts) found.1.there) in
    let x : SharedDerivative = record { body = c.in_ok-body.body; hole = c.in_ok-hole.hole; params = c.in_ok-params.params } in
    let B : Tree → Type 0 = IsNamed new x.body in
    let H : ℕ → Type 0 = λ s. IsNamed mid x.hole (Var 0 s) in
    let S : List ℕ → Type 0 = λ ss. AreNamed new x.params.items (trees_of (variables_from 1 ss)) in
    let T : Trees → Type 0 = AreNamed new x.params.items in
    let later = named_later first mid x.body c.in-Some.body.now c.in_ok-hole.ensures.grows c.in_ok-body.ensures.named in
    let is : IsDerivativeAt new d x = record {
      body = subst B body_is (named_later mid new x.body c.in-Some.body.now c.in_ok-params.ensures.grows later);
      hole = named_later mid new x.hole (Var 0 d.hole) c.in_ok-params.ensures.grows (subst H hole_is c.in_ok-hole.ensures.named);
      params = subst T (trees_numbered 1 (parameter_sorts d)) (subst S sorts_are c.in_ok-params.ensures.named);
    } in
    if_some_at (λ y. IsDerivativeAt new y x) _ d found.1.there is
