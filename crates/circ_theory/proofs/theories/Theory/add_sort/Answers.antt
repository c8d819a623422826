use Rattle.std.proofs.Common.{◌≡◌, ◌<◌, List, ℕ, ◌∷◌, ◌++◌, [], map, length, None, ap, sym, subst, ◌∙◌}
use Rattle.circ_theory.specs.Limits.{sort_limit}
use Rattle.circ_theory.specs.Theory.{Theory}
use Rattle.circ_theory.specs.WellFormed.{IsWellFormed}
use Rattle.circ_theory.specs.Adding.{sort_number}
use Rattle.circ_theory.specs.Inside.{theory_of, IsKept}
use Rattle.circ_theory.proofs.Growing.{sort_grows}
use Rattle.circ_theory.proofs.Faults.{room_left}
use Rattle.circ_theory.proofs.theories.Theory.add_sort.Goals as goal
use Rattle.circ_theory.proofs.theories.Theory.add_sort.Goals.{In_ok-put_name}

is_theory : (c : In_ok-put_name) → theory_of c.deref_mut.result.now ≡ c.args.self.now
is_theory c = ap theory_of c.deref_mut.ensures.value ∙ c.self.view_is

is_kept : (c : In_ok-put_name) → IsKept c.deref_mut.result.now
is_kept c = subst IsKept (sym c.deref_mut.ensures.value) c.self.invariant

pub put_name-requires : goal.put_name-requires
put_name-requires c =
    let is : theory_of c.deref_mut.result.now ≡ c.args.self.now = ap theory_of c.deref_mut.ensures.value ∙ c.self.view_is in
    rw (← is) at (sym c.sort_named.ensures ∙ c.in_default.is)

pub invariant_of-self-2 : goal.invariant_of-self-2
invariant_of-self-2 c =
    let th : Theory = theory_of c.deref_mut.result.now in
    let room : length th.signature.sorts < sort_limit =
    rw (← (is_theory c)) at (rw c.sort_count-number.ensures.count at (room_left sort_limit c.sort_count-number.result (sym c.count_fault.ensures ∙ c.in_default-count_fault.is))) in
    let P : List (List ℕ) → Type 0 = λ ss. IsWellFormed (record th { signature = record th.signature { sorts = ss } }) in
    record {
      well_formed = subst P (sym c.in_ok-put_name.ensures.put) (sort_grows th c.args.name.now (is_kept c).well_formed room);
      entries = (is_kept c).entries;
      listed = (is_kept c).listed;
      observers = (is_kept c).observers;
      hidden = (is_kept c).hidden;
      conditions = (is_kept c).conditions;
      by_word = (is_kept c).by_word;
      by_both = (is_kept c).by_both;
    }

pub returns-clause-added : goal.returns-clause-added
returns-clause-added c =
    let th : Theory = theory_of c.deref_mut.result.now in
    rw (← (is_theory c)) (ap (λ ss. record th { signature = record th.signature { sorts = ss } }) c.in_ok-put_name.ensures.put)
