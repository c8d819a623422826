use Rattle.std.proofs.Common.{◌≡◌, List, [], map, sym, subst, ap, ◌∙◌, arith}
use Rattle.circ_theory.specs.Theory.{Theory, Declared, declared}
use Rattle.circ_theory.specs.WellFormed.{IsWellFormed}
use Rattle.circ_theory.specs.Inside.{theory_of, IsKept}
use Rattle.circ_theory.proofs.Growing.{vars_change}
use Rattle.circ_theory.proofs.theories.Theory.take_vars.Goals as goal

pub invariant_of-self : goal.invariant_of-self
invariant_of-self c =
    let p = c.deref_mut.result.now in
    let is_theory : theory_of p ≡ c.args.self.now = ap theory_of c.deref_mut.ensures.value ∙ c.self.view_is in
    let kept : IsKept p = subst IsKept (sym c.deref_mut.ensures.value) c.self.invariant in
    let th : Theory = theory_of p in
    let P : List Declared → Type 0 = λ ds. IsWellFormed (record th { variables = ds }) in
    let none : map (λ e. declared e.0.items e.1) c.replace.new.dest.entries ≡ [] =
    ap (λ m. map (λ e. declared e.0.items e.1) m.entries) c.replace.ensures.after ∙ ap (map (λ e. declared e.0.items e.1)) c.new-empty.ensures.empty in
    record {
      well_formed = subst P (sym none) (vars_change th [] kept.well_formed (λ d h. absurd (omega (arith, h.1))) (omega arith));
      entries = kept.entries;
      listed = kept.listed;
      observers = kept.observers;
      hidden = kept.hidden;
      conditions = kept.conditions;
      by_word = kept.by_word;
      by_both = kept.by_both;
    }
