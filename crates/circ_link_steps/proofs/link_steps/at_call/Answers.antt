use Rattle.std.specs.Global.{Vec}
use Rattle.std.proofs.Common.{ℕ, None, ap, ◌∙◌}
use Rattle.circ_expansion.specs.Expand.{Call as Use}
use Rattle.circ_uses.specs.Uses.{entries_of}
use Rattle.circ_uses.specs.Valuations.{by_of}
use Rattle.circ_tasks.specs.Tasks.{call_of, target_of}
use Rattle.circ_link_steps.proofs.link_steps.at_call.Goals as goal

pub returns : goal.returns
returns c =
    let fr = c.args.frame.now in
    let d : Use = call_of fr c.args.call.now in
    let path = ap (λ (q : Vec ℕ). q.items) c.in_ok-new.ensures.ok in
    let none = ap (entries_of fr.theory.now) (c.in_ok-of.ensures ∙ c.new-2.ensures.items) in
    ap (call_of fr) c.in_ok-new-2.ensures.ok
    ∙ (λ i. record d {
      whole = c.args.whole;
      path = path i;
      entries = none i;
      along = None;
      goal = target_of fr c.args.goal;
      by = by_of c.args.by.value;
    })
