use Rattle.std.proofs.Common.{ℕ, ◌++◌, ◌∷◌, Some, ap, sym, ◌∙◌}
use Rattle.std.specs.Global.{Vec}
use Rattle.circ_expansion.specs.Expand.{Call as Use, Yields, base}
use Rattle.circ_expansion.specs.Machine.{pending, Enter_use}
use Rattle.circ_uses.specs.Uses.{entries_of, layers_of}
use Rattle.circ_tasks.specs.Tasks.{call_of}
use Rattle.circ_tasks.specs.declared.calls.Call.{Call}
use Rattle.circ_place_steps.proofs.change_steps.visible_call.Goals as goal

pub returns : goal.returns
returns c = λ e js vs n.
    let fr = c.args.frame.now in
    let th = fr.theory.now in
    let x = c.args.changes.now in
    let here = c.args.here.now in
    let q = c.args.above.now in
    let path = ap (λ (p : Vec ℕ). p.items) c.in_ok-path.ensures.ok ∙ c.in_ok-below.ensures ∙ ap (λ (d : Call). base (call_of fr d) ++ q) c.deref.ensures in
    let entries = ap (entries_of th) c.in_ok-entries.ensures ∙ c.in_ok-list.ensures in
    let next = c.in_ok-next.ensures fr ∙ ap (call_of fr) c.deref-2.ensures in
    let same =
    ap (call_of fr) c.in_ok-new.ensures.ok
    ∙ (λ i. let y : Use = next i in record y {
      whole = e i;
      path = path i;
      entries = entries i;
      along = Some (layers_of th (c.in_ok-layers.ensures i));
    }) in
    λ i. Yields (pending (Enter_use (sym same i) ∷ js) vs) n
