use Rattle.std.proofs.Common.{◌≡◌, ℕ, [], None, ap, sym, ◌∙◌}
use Rattle.std.specs.Global.{Vec}
use Rattle.circ_term.specs.Tree.{Var}
use Rattle.circ_term.specs.Subst.{substitution_of}
use Rattle.circ_uses.specs.Uses.{entries_of}
use Rattle.circ_tasks.specs.Tasks.{call_of}
use Rattle.circ_uses.specs.Valuations.{by_of}
use Rattle.circ_uses.proofs.Holes.{same_by}
use Rattle.circ_expand.proofs.opening.opening.Goals as goal

pub returns : goal.returns
returns c = λ n e w.
    let fr = c.args.frame.now in
    let by : by_of c.in_ok-new-2.field-0.value ≡ Var =
    ap by_of c.in_ok-new-2.ensures.ok ∙ same_by (by_of c.in_ok-by.by) Var (λ m s. c.in_ok-by.ensures m s ∙ ap (λ bs. substitution_of bs m s) c.new.ensures) in
    ap (call_of fr) c.in_ok-new-3.ensures.ok
    ∙ (λ i. record {
      whole = (c.in_ok-share.ensures.same ∙ w) i;
      path = (ap (λ (p : Vec ℕ). p.items) c.in_ok-new.ensures.ok ∙ c.new-2.ensures.items) i;
      entries = ap (entries_of fr.theory.now) c.in_ok-of.ensures i;
      along = None;
      goal = e i;
      by = by i;
      assumptions = [];
    })
