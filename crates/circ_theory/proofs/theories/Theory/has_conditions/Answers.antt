use Rattle.std.proofs.Common.{◌≡◌, ap, sym, ◌∙◌}
use Rattle.std.specs.List.{list_any}
use Rattle.circ_theory.specs.Inside.{theory_of}
use Rattle.circ_pairs.specs.Rule.{is_conditional}
use Rattle.circ_pairs.proofs.Lists.{list_any-map}
use Rattle.circ_theory.proofs.Conditions.{without_conditions}
use Rattle.circ_theory.proofs.theories.Theory.has_conditions.Goals as goal

pub returns : goal.returns
returns c =
    let th = c.args.self.now in
    let is : theory_of c.deref.result.now ≡ th = ap theory_of c.deref.ensures ∙ c.self.view_is in
    let same : c.has_conditions.result ≡ list_any is_conditional th.equations =
    c.has_conditions.ensures ∙ ap (list_any (λ l. is_conditional l.equation)) c.as_slice.ensures.value
    ∙ sym (list_any-map is_conditional (λ l. l.equation) c.deref.result.now.equations.items) ∙ ap (λ u. list_any is_conditional u.equations) is in
    let both = without_conditions th in
    (λ e. both.0 (sym same ∙ e), λ h. same ∙ both.1 h)
