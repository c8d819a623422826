use Rattle.std.proofs.Common.{◌≡◌, ◌∷◌, [], ◌&&◌, unwrap_or, not, ap, sym, ◌∙◌}
use Rattle.std.specs.Option.{option_map}
use Rattle.std.proofs.lemmas.Bool.{and_parts}
use Rattle.circ_theory.specs.Operators.{operator_of}
use Rattle.circ_nodes.specs.Named.{tree_at}
use Rattle.circ_aci.specs.Content.{content, content_under}
use Rattle.circ_weigh.proofs.Summing.{content_weighs, if_weighs, not_marked}
use Rattle.circ_weigh.proofs.comparing.same_content.Goals as goal

pub returns-then-is_multiset-clause-same : goal.returns-then-is_multiset-clause-same
returns-then-is_multiset-clause-same c =
    let nodes = c.args.nodes.now in
    let sig = c.args.theory.now.signature in
    let o = operator_of c.in-Some.decl.now in
    let f = c.args.op in
    let t = tree_at nodes c.args.a in
    let u = tree_at nodes c.args.b in
    let marks = sym c.is_multiset.ensures ∙ c.if-is_multiset.true in
    let first = and_parts o.assoc (o.comm && not o.idem) marks in
    let second = and_parts o.comm (not o.idem) first.1 in
    let of_t : content_under sig f t ≡ content o f t = ap (λ x. unwrap_or (option_map (λ o. content o f t) x) (t ∷ [])) (sym c.in-Some.ensures) in
    let of_u : content_under sig f u ≡ content o f u = ap (λ x. unwrap_or (option_map (λ o. content o f u) x) (u ∷ [])) (sym c.in-Some.ensures) in
    let weighs = content_weighs o f t u first.0 second.0 (not_marked o.idem second.1) in
    if_weighs c.weigh.result _ _ ((λ h. of_t ∙ weighs.1 h ∙ sym of_u), (λ e. weighs.0 (sym of_t ∙ e ∙ of_u))) c.weigh.ensures
