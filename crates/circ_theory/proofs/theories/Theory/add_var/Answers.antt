use Rattle.std.proofs.Common.{◌≡◌, List, ◌∷◌, ◌++◌, [], map, None, ap, sym, subst, ◌∙◌}
use Rattle.circ_theory.specs.Theory.{Theory, Declared, declared}
use Rattle.circ_theory.specs.WellFormed.{IsWellFormed}
use Rattle.circ_theory.specs.Adding.{var_number}
use Rattle.circ_theory.specs.Inside.{theory_of, IsKept}
use Rattle.circ_theory.proofs.Declaring.{variable_last}
use Rattle.circ_theory.proofs.Growing.{var_grows}
use Rattle.circ_theory.proofs.Faults.{new_variable}
use Rattle.circ_theory.proofs.theories.Theory.add_var.Goals as goal
use Rattle.circ_theory.proofs.theories.Theory.add_var.Goals.{In_ok-put_var}

is_theory : (c : In_ok-put_var) → theory_of c.deref_mut.result.now ≡ c.args.self.now
is_theory c = ap theory_of c.deref_mut.ensures.value ∙ c.self.view_is

is_kept : (c : In_ok-put_var) → IsKept c.deref_mut.result.now
is_kept c = subst IsKept (sym c.deref_mut.ensures.value) c.self.invariant

pub put_var-requires : goal.put_var-requires
put_var-requires c =
    let is : theory_of c.deref_mut.result.now ≡ c.args.self.now = ap theory_of c.deref_mut.ensures.value ∙ c.self.view_is in
    rw (← is) at (sym c.var_named.ensures ∙ c.in_default.is)

pub invariant_of-self-2 : goal.invariant_of-self-2
invariant_of-self-2 c =
    let th : Theory = theory_of c.deref_mut.result.now in
    let new = new_variable th c.args.sort (rw (← (is_theory c)) at (sym c.new_var_fault.ensures ∙ c.in_default-new_var_fault.is)) in
    let P : List Declared → Type 0 = λ vs. IsWellFormed (record th { variables = vs }) in
    record {
      well_formed = subst P (sym c.in_ok-put_var.ensures.put) (var_grows th (declared c.args.name.now c.args.sort) (is_kept c).well_formed new.0 new.1);
      entries = (is_kept c).entries;
      listed = (is_kept c).listed;
      observers = (is_kept c).observers;
      hidden = (is_kept c).hidden;
      conditions = (is_kept c).conditions;
      by_word = (is_kept c).by_word;
      by_both = (is_kept c).by_both;
    }

pub returns-clause-added : goal.returns-clause-added
returns-clause-added c =
    let th : Theory = theory_of c.deref_mut.result.now in
    let absent : var_number c.args.self.now c.args.name.now ≡ None = sym c.var_named.ensures ∙ c.in_default.is in
    rw absent (rw (← (is_theory c)) (ap (λ vs. record th { variables = vs }) c.in_ok-put_var.ensures.put))
