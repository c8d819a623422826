use Rattle.std.proofs.Common.{◌≡◌, ◌∷◌, ◌++◌, List, [], map, ap, sym, subst, ◌∙◌}
use Rattle.circ_theory.specs.Theory.{Theory, CaseList}
use Rattle.circ_theory.specs.WellFormed.{IsWellFormed}
use Rattle.circ_theory.specs.Inside.{theory_of, IsKept}
use Rattle.circ_theory.specs.Observing.{case_list}
use Rattle.circ_theory.proofs.Lists.{insert_entry-last, map-push}
use Rattle.circ_theory.proofs.Observers.{IsNewList, new_list, absent_entry, cases_grow}
use Rattle.circ_theory.proofs.theories.Theory.add_cases.Goals as goal
use Rattle.circ_theory.proofs.theories.Theory.add_cases.Goals.{In_ok-put_cases}

is_theory : (c : In_ok-put_cases) → theory_of c.deref_mut.result.now ≡ c.args.self.now
is_theory c = ap theory_of c.deref_mut.ensures.value ∙ c.self.view_is

is_kept : (c : In_ok-put_cases) → IsKept c.deref_mut.result.now
is_kept c = subst IsKept (sym c.deref_mut.ensures.value) c.self.invariant

is_new : (c : In_ok-put_cases) → IsNewList (theory_of c.deref_mut.result.now) c.args.sort c.args.constants.items
is_new c = new_list (theory_of c.deref_mut.result.now) c.args.sort c.args.constants.items (rw (← (is_theory c), c.as_slice.ensures.value) at c.in_ok-number.ensures.number.0)

grown : (c : In_ok-put_cases) → map (λ e. case_list e.0 e.1.items) c.put_cases.new.cases.entries ≡ (theory_of c.deref_mut.result.now).cases ++ case_list c.args.sort c.args.constants.items ∷ []
grown c =
    let es = c.deref_mut.result.now.cases.entries in
    ap (map (λ e. case_list e.0 e.1.items)) (c.in_ok-put_cases.ensures.put ∙ insert_entry-last _ es c.args.sort c.args.constants (absent_entry (λ v. v.items) es c.args.sort (is_new c).no_cases))
    ∙ map-push (λ e. case_list e.0 e.1.items) es (c.args.sort, c.args.constants)

pub invariant_of-self-2 : goal.invariant_of-self-2
invariant_of-self-2 c =
    let th : Theory = theory_of c.deref_mut.result.now in
    let P : List CaseList → Type 0 = λ ls. IsWellFormed (record th { cases = ls }) in
    record {
      well_formed = subst P (sym (grown c)) (cases_grow th c.args.sort c.args.constants.items (is_kept c).well_formed (is_new c));
      entries = (is_kept c).entries;
      listed = (is_kept c).listed;
      observers = (is_kept c).observers;
      hidden = (is_kept c).hidden;
      conditions = (is_kept c).conditions;
      by_word = (is_kept c).by_word;
      by_both = (is_kept c).by_both;
    }

pub returns-clause-added : goal.returns-clause-added
returns-clause-added c = let th : Theory = theory_of c.deref_mut.result.now in rw (← (is_theory c)) (ap (λ ls. record th { cases = ls }) (grown c))
