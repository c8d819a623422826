use Rattle.std.proofs.Common.{◌≡◌, ◌++◌, Option, None, ap, sym, ◌∙◌, subst}
use Rattle.circ_term.specs.Tree.{Tree}
use Rattle.circ_term.specs.Limits.{Limit, Names}
use Rattle.circ_term.specs.Substitution.{instance}
use Rattle.circ_rewrite.specs.Matching.{matching}
use Rattle.circ_expansion.specs.Expand.{layered, risen}
use Rattle.circ_uses.specs.Fronts.{front}
use Rattle.circ_uses.specs.Uses.{first_of, layers_of}
use Rattle.circ_uses.specs.Valuations.{by_of}
use Rattle.circ_tasks.specs.Tasks.{left_side, right_side}
use Rattle.circ_uses.proofs.Rising.{names_first}
use Rattle.circ_place_steps.proofs.AtPlaces.{inner_none, no_limit}
use Rattle.circ_uses.proofs.Rising.{names_both, first_both}
use Rattle.circ_place_steps.proofs.place_steps.ends_of_sides.Goals as goal

pub returns-in-Err : goal.returns-in-Err
returns-in-Err c = λ x y same l r.
    let fr = c.args.frame.now in
    let ys = layers_of fr.theory.now c.args.through.now in
    let σ = by_of c.args.call.now.by.value in
    let P : Tree → Type 0 = λ t. Names c.in-Err.fault (first_of (risen ys (instance σ t))) in
    names_first (risen ys (left_side fr c.args.call.now)) (risen ys (right_side fr c.args.call.now)) c.in-Err.fault (subst P l c.in-Err.ensures)

pub returns-in-Err-risen : goal.returns-in-Err-risen
returns-in-Err-risen c = λ x y same l r.
    let fr = c.args.frame.now in
    let ys = layers_of fr.theory.now c.args.through.now in
    let σ = by_of c.args.call.now.by.value in
    let P : Tree → Type 0 = λ t. Names c.in-Err-risen.fault (first_of (risen ys (instance σ t))) in
    names_both (risen ys (left_side fr c.args.call.now)) (risen ys (right_side fr c.args.call.now)) c.in-Err-risen.fault
    (ap (λ t. first_of (risen ys (instance σ t))) (sym l) ∙ c.in-Ok.ensures.1) (subst P r c.in-Err-risen.ensures)

pub returns-in-Err-risen-2 : goal.returns-in-Err-risen-2
returns-in-Err-risen-2 c = λ x y same l r.
    let th = c.args.frame.now.theory.now in
    let e = c.in-Err-risen-2.fault in
    let ys = layers_of th c.args.through.now in
    let xs = layers_of th (front c.args.layers.now) in
    let t = instance (by_of c.args.call.now.by.value) c.args.right.now in
    let none : first_of (risen (layers_of th c.as_slice.result.now) t) ≡ None =
    ap (λ zs. first_of (risen (layers_of th zs) t)) c.as_slice.ensures
    ∙ inner_none x y xs t (ap (λ zs. first_of (risen zs t)) (sym same) ∙ c.in-Ok-risen.ensures.1) in
    let P : Option Limit → Type 0 = λ o. Names e o in
    no_limit e (first_of (risen ys (left_side c.args.frame.now c.args.call.now) ++ risen ys (right_side c.args.frame.now c.args.call.now)))
    (subst P none c.in-Err-risen-2.ensures)

pub returns : goal.returns
returns c = λ x y same l r.
    let fr = c.args.frame.now in
    let ys = layers_of fr.theory.now c.args.through.now in
    let xs = layers_of fr.theory.now (front c.args.layers.now) in
    let σ = by_of c.args.call.now.by.value in
    let d = c.args.call.now in
    record {
      left = c.in_ok-matched.ensures ∙ ap (matching c.args.start.now) (c.in-Ok.ensures.0 ∙ ap (λ t. layered ys (instance σ t)) l);
      right = c.in_ok-matched-2.ensures ∙ ap (matching c.args.start.now) (c.in-Ok-risen.ensures.0 ∙ ap (λ t. layered ys (instance σ t)) r);
      new = c.in-Ok-risen-2.ensures.0 ∙ ap (λ zs. layered (layers_of fr.theory.now zs) (instance σ c.args.right.now)) c.as_slice.ensures ∙ ap (λ t. layered xs (instance σ t)) r;
      within = first_both (risen ys (left_side fr d)) (risen ys (right_side fr d)) (ap (λ t. first_of (risen ys (instance σ t))) (sym l) ∙ c.in-Ok.ensures.1)
          (ap (λ t. first_of (risen ys (instance σ t))) (sym r) ∙ c.in-Ok-risen.ensures.1);
    }
