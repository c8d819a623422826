use Rattle.std.proofs.Common.{◌≡◌, Bor, unwrap_or, ap, ◌∙◌}
use Rattle.std.specs.List.{slice_get}
use Rattle.std.specs.Option.{option_map}
use Rattle.circ_term.specs.Tree.{Tree, at}
use Rattle.circ_rewrite.specs.Matching.{matching}
use Rattle.circ_theory.specs.Theory.{Derivative}
use Rattle.circ_entry.specs.Entries.{Numbered, derivative_at}
use Rattle.circ_uses.specs.Uses.{held_by}
use Rattle.circ_uses.specs.Valuations.{valued_by}
use Rattle.circ_place_steps.proofs.Chosen.{copied_or, body_or}
use Rattle.circ_uses.proofs.Holes.{same_by}
use Rattle.circ_place_steps.proofs.change_steps.entry_in.Goals as goal

pub returns : goal.returns
returns c =
    let th = c.args.frame.now.theory.now in
    let k = c.args.number in
    let here = c.args.here.now in
    let d = derivative_at th k in
    let there : c.unwrap_or-term.result.now ≡ unwrap_or (at here c.args.path.now) here =
    ap (λ (r : Bor Tree). r.now) c.unwrap_or-term.ensures ∙ copied_or c.at.result c.args.here ∙ ap (λ o. unwrap_or o here) c.at.ensures in
    let body : c.unwrap_or-body.result.now ≡ d.body =
    ap (λ (r : Bor Tree). r.now) c.unwrap_or-body.ensures ∙ copied_or c.derivative.result _ ∙ ap (λ o. unwrap_or o c.var-nothing.result) c.derivative.ensures
    ∙ ap (λ t. unwrap_or (option_map (λ (e : Derivative). e.body) (slice_get th.derivatives k)) t) c.var-nothing.ensures ∙ body_or (slice_get th.derivatives k) in
    let params : valued_by c.in_ok-params.params.value ≡ matching d.body (unwrap_or (at here c.args.path.now) here) =
    ap valued_by c.in_ok-params.ensures.ok
    ∙ same_by (valued_by c.in_ok-values.values) (matching d.body (unwrap_or (at here c.args.path.now) here))
    (λ n s. c.in_ok-values.ensures n s ∙ (λ i. matching (body i) (there i) n s)) in
    ap (held_by th) c.in_ok-new.ensures.ok ∙ (λ i. let e : Numbered = record { number = k; entry = record { derivative = d; parameters = params i } } in e)
