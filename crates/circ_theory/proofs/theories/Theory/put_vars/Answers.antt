use Rattle.std.proofs.Common.{arith, ◌≡◌, ap, sym, subst, ◌∙◌}
use Rattle.std.proofs.lemmas.List.{length-map}
use Rattle.circ_theory.specs.Theory.{Theory, declared}
use Rattle.circ_theory.specs.Inside.{theory_of, IsKept}
use Rattle.circ_theory.proofs.Growing.{vars_change}
use Rattle.circ_theory.proofs.theories.Theory.put_vars.Goals as goal

pub invariant_of-self : goal.invariant_of-self
invariant_of-self c =
    let p = c.deref_mut.result.now in
    let is_theory : theory_of p ≡ c.args.self.now = ap theory_of c.deref_mut.ensures.value ∙ c.self.view_is in
    let kept : IsKept p = subst IsKept (sym c.deref_mut.ensures.value) c.self.invariant in
    let th : Theory = theory_of p in
    record {
      well_formed = vars_change th _ kept.well_formed (rw (← is_theory, ← c.vars.view_is) at c.requires)
          (omega (arith, c.vars.invariant, length-map c.vars.inside.vars.entries (λ e. declared e.0.items e.1)));
      entries = kept.entries;
      listed = kept.listed;
      observers = kept.observers;
      hidden = kept.hidden;
      conditions = kept.conditions;
      by_word = kept.by_word;
      by_both = kept.by_both;
    }
