use Rattle.std.proofs.Common.{append-nil, ◌≡◌, ◌++◌, [], Bool, true, false, if◌then◌else◌, None, Some, ap, sym, ◌∙◌}
use Rattle.circ_theory.specs.Observing.{is_hidden}
use Rattle.circ_term.specs.Tree.{sort_of}
use Rattle.circ_expansion.specs.Followed.{goal_in}
use Rattle.circ_expansion.specs.Expand.{Call as Use, base, places_on}
use Rattle.circ_uses.specs.Fronts.{front}
use Rattle.circ_uses.specs.Uses.{layers_of}
use Rattle.circ_tasks.specs.Tasks.{call_of, target_of}
use Rattle.circ_uses.specs.Valuations.{by_of}
use Rattle.circ_link_steps.proofs.link_steps.hypothesis_call.Goals as goal

pub returns-then-is_hidden : goal.returns-then-is_hidden
returns-then-is_hidden c =
    let fr = c.args.frame.now in
    let th = fr.theory.now in
    let d : Use = call_of fr c.args.call.now in
    let g = target_of fr c.args.goal in
    let σ = by_of c.args.by.value in
    let p = c.args.path.now in
    let yes : Use = record d { whole = c.args.whole; along = Some (places_on c.args.standing.now p); goal = g; by = σ } in
    let no : Use = record d { whole = c.args.whole; path = base d ++ p; entries = []; along = None; goal = g; by = σ } in
    let test : is_hidden th (sort_of (goal_in g.history).left) ≡ true =
    ap (is_hidden th) (sym c.sort.ensures) ∙ sym c.is_hidden.ensures.exact ∙ c.if-is_hidden.true in
    let along : layers_of th (front c.in_ok-along.along) ≡ places_on c.args.standing.now p =
    ap (layers_of th) c.in_ok-along.ensures ∙ c.in_ok-add_places.ensures th ∙ ap (λ ls. places_on c.args.standing.now p ++ layers_of th ls) c.new-layers.ensures.items
    ∙ append-nil (places_on c.args.standing.now p) in
    c.in_ok-hidden.ensures ∙ (λ i. record d { whole = c.args.whole; along = Some (along i); goal = g; by = σ }) ∙ ap (λ (b : Bool). if b then yes else no) (sym test)

pub returns : goal.returns
returns c =
    let fr = c.args.frame.now in
    let th = fr.theory.now in
    let d : Use = call_of fr c.args.call.now in
    let g = target_of fr c.args.goal in
    let σ = by_of c.args.by.value in
    let p = c.args.path.now in
    let yes : Use = record d { whole = c.args.whole; along = Some (places_on c.args.standing.now p); goal = g; by = σ } in
    let no : Use = record d { whole = c.args.whole; path = base d ++ p; entries = []; along = None; goal = g; by = σ } in
    let test : is_hidden th (sort_of (goal_in g.history).left) ≡ false =
    ap (is_hidden th) (sym c.sort.ensures) ∙ sym c.is_hidden.ensures.exact ∙ c.if-is_hidden.false in
    c.in_ok-visible.ensures ∙ (λ i. record d { whole = c.args.whole; path = c.in_ok-below.ensures i; entries = []; along = None; goal = g; by = σ })
    ∙ ap (λ (b : Bool). if b then yes else no) (sym test)
