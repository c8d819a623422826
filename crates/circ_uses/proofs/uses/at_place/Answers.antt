use Rattle.std.proofs.Common.{◌≡◌, ℕ, List, unwrap_or, slice_set, ap, sym, subst, ◌∙◌}
use Rattle.circ_term.specs.Tree.{Tree, App, list_of, trees_of, args_of, sort_of, operator_number}
use Rattle.circ_term.specs.Limits.{Builds}
use Rattle.circ_term.proofs.Trees.{list_of-trees_of}
use Rattle.circ_uses.proofs.uses.at_place.Goals as goal

pub returns : goal.returns
returns c =
    let outer = c.args.outer.now in
    let xs = args_of outer in
    let e : c.in_ok-args.args.items ≡ slice_set (list_of (trees_of xs)) c.args.arg c.args.term.now =
    c.in_ok-args.ensures ∙ ap (λ ys. slice_set ys c.args.arg c.args.term.now) (c.args-2.ensures.value ∙ sym (list_of-trees_of xs)) in
    let op : c.unwrap_or-op.result ≡ unwrap_or (operator_number outer) 0 = c.unwrap_or-op.ensures ∙ ap (λ o. unwrap_or o 0) c.op_number.ensures in
    let A : ℕ → Type 0 = λ f. Builds c.app.result (App f c.sort.result (trees_of c.in_ok-args.args.items)) in
    let f = unwrap_or (operator_number outer) 0 in
    let S : ℕ → Type 0 = λ s. Builds c.app.result (App f s (trees_of c.in_ok-args.args.items)) in
    let L : List Tree → Type 0 = λ ys. Builds c.app.result (App f (sort_of outer) (trees_of ys)) in
    subst L e (subst S c.sort.ensures (subst A op c.app.ensures))
