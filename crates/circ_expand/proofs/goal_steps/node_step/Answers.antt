use Rattle.std.proofs.Common.{◌≡◌, Option, ℕ, map, ap, sym, ◌∙◌}
use Rattle.std.specs.Option.{option_map_or}
use Rattle.circ_proof.specs.Plain.{plain_chain}
use Rattle.circ_proof.specs.Link.{resolved_chain}
use Rattle.circ_expansion.specs.Followed.{History, Simplified, Reduced_by, Derived, Open}
use Rattle.circ_book.specs.Histories.{histories_of, history_at, history_with}
use Rattle.circ_tasks.specs.Tasks.{goal_stepped, node_history, earlier_history, why_at}
use Rattle.circ_tasks.specs.declared.calls.Call.{Call}
use Rattle.circ_book.specs.declared.histories.What.{What}
use Rattle.circ_expand.proofs.Earlier.{earlier_same}
use Rattle.circ_tasks.proofs.Stepping.{steps_same}
use Rattle.circ_expand.proofs.goal_steps.node_step.Goals as goal

pub returns-in-Simplified : goal.returns-in-Simplified
returns-in-Simplified c =
    let fr = c.args.frame.now in
    let w = c.args.work.now in
    let d = c.args.call.value in
    let k = c.args.number in
    let n = c.args.node.now in
    let ns = fr.book.now.nodes.items in
    let H = λ (x : What). history_with fr.table.now (earlier_history fr k) n.goal x in
    let chain = resolved_chain fr.table.now (plain_chain c.in-Simplified.chain.now) in
    let j = c.in-Simplified.next in
    let T = λ (o : Option ℕ). option_map_or (history_at fr.table.now ns) o Open in
    let back : T c.earlier.result ≡ earlier_history fr k j = ap T c.earlier.ensures ∙ earlier_same fr.table.now ns k j c.requires in
    let same : node_history fr k n ≡ Simplified n.goal chain (T c.earlier.result) =
    ap H c.in-Simplified.is ∙ ap (λ h. Simplified n.goal chain h) (sym back) in
    steps_same fr (goal_stepped fr d (node_history fr k n) w) (goal_stepped fr d (Simplified n.goal chain (T c.earlier.result)) w)
    c.simplified_step.new.work c.simplified_step.result (ap (λ h. goal_stepped fr d h w) same) c.simplified_step.ensures

pub returns-in-Reduced : goal.returns-in-Reduced
returns-in-Reduced c =
    let fr = c.args.frame.now in
    let w = c.args.work.now in
    let d = c.args.call.value in
    let k = c.args.number in
    let n = c.args.node.now in
    let H = λ (x : What). history_with fr.table.now (earlier_history fr k) n.goal x in
    steps_same fr (goal_stepped fr d (node_history fr k n) w) (goal_stepped fr d (Reduced_by n.goal (why_at fr c.in-Reduced.why.now)) w)
    c.reduced_step.new.work c.reduced_step.result (ap (λ h. goal_stepped fr d h w) (ap H c.in-Reduced.is)) c.reduced_step.ensures

pub returns-in-Derived : goal.returns-in-Derived
returns-in-Derived c =
    let fr = c.args.frame.now in
    let w = c.args.work.now in
    let d = c.args.call.value in
    let k = c.args.number in
    let n = c.args.node.now in
    let H = λ (x : What). history_with fr.table.now (earlier_history fr k) n.goal x in
    let same : node_history fr k n ≡ Derived n.goal (histories_of (map (earlier_history fr k) c.as_slice.result.now)) =
    ap H c.in-Derived.is ∙ ap (λ ks. Derived n.goal (histories_of (map (earlier_history fr k) ks))) (sym c.as_slice.ensures.value) in
    let h = Derived n.goal (histories_of (map (earlier_history fr k) c.as_slice.result.now)) in
    steps_same fr (goal_stepped fr d (node_history fr k n) w) (goal_stepped fr c.deref.result.now h w) c.derived_step.new.work c.derived_step.result
    (ap (λ x. goal_stepped fr d x w) same ∙ ap (λ (x : Call). goal_stepped fr x h w) (sym c.deref.ensures)) c.derived_step.ensures
