use Rattle.std.proofs.Common.{◌≡◌, ◌∷◌, ◌++◌, List, [], ◌==◌, nat_eq, map, refl, ap, sym, subst, ◌∙◌}
use Rattle.std.specs.List.{AllByRecursion, list_any}
use Rattle.circ_theory.specs.declared.theories.Observer.{Observer}
use Rattle.circ_theory.specs.Theory.{Theory, Derivative}
use Rattle.circ_theory.specs.WellFormed.{IsWellFormed}
use Rattle.circ_theory.specs.Inside.{theory_of, IsObserver, IsKept}
use Rattle.circ_theory.specs.Observing.{derivative_with, derivative_of}
use Rattle.circ_theory.proofs.Lists.{map-push, all_push}
use Rattle.circ_pairs.proofs.Filling.{any_inserted}
use Rattle.circ_theory.proofs.Observers.{new_derivative, derivative_grows, hidden_more}
use Rattle.circ_theory.proofs.theories.Theory.add_derivative.Goals as goal

abbrev observed : Observer → Derivative
observed o = derivative_with o.hole o.term

-- the derivatives with one more
grown : (old new : List Observer) (o : Observer) → new ≡ old ++ o ∷ [] → map observed new ≡ map observed old ++ observed o ∷ []
grown old new o put = ap (map observed) put ∙ map-push observed old o

pub invariant_of-self-2 : goal.invariant_of-self-2
invariant_of-self-2 c =
    let p = c.deref_mut-parts.result.now in
    let is_theory : theory_of p ≡ c.args.self.now = ap theory_of c.deref_mut-parts.ensures.value ∙ c.self.view_is in
    let kept : IsKept p = subst IsKept (sym c.deref_mut-parts.ensures.value) c.self.invariant in
    let th : Theory = theory_of p in
    let t = c.args.term in
    let o : Observer = record { term = t; hole = c.in_ok-hole.hole; sorts = c.in_ok-hole.sorts } in
    let items = c.in_ok-add_observer.ensures.put in
    let more = grown p.derivatives.items c.add_observer.new.derivatives.items o items in
    let hole : observed o ≡ derivative_of t = ap (λ h. derivative_with h t) c.in_ok-hole.ensures.hole in
    let new = new_derivative th t (rw (← is_theory) at c.in_ok-hole.ensures.new) in
    let P : List Derivative → Type 0 = λ ds. IsWellFormed (record th { derivatives = ds }) in
    record {
      well_formed = subst P (sym (more ∙ ap (λ d. th.derivatives ++ d ∷ []) hole))
          (derivative_grows th t kept.well_formed (rw (← is_theory) at c.requires.sorted) c.requires.in_order new);
      entries = kept.entries;
      listed = kept.listed;
      observers = subst (AllByRecursion IsObserver) (sym items) (all_push IsObserver p.derivatives.items o kept.observers c.in_ok-hole.ensures.sorts);
      hidden = λ s. hidden_more th p.hidden.keys c.add_observer.new.hidden.keys c.in_ok-hole.hole s (observed o) (kept.hidden s)
          (ap (list_any (nat_eq s)) c.in_ok-add_observer.ensures.noted ∙ any_inserted p.hidden.keys c.in_ok-hole.hole s) refl
          ∙ ap (list_any (λ d. s == d.hole)) (sym more);
      conditions = kept.conditions;
      by_word = kept.by_word;
      by_both = kept.by_both;
    }

pub returns-clause-added : goal.returns-clause-added
returns-clause-added c =
    let p = c.deref_mut-parts.result.now in
    let is_theory : theory_of p ≡ c.args.self.now = ap theory_of c.deref_mut-parts.ensures.value ∙ c.self.view_is in
    let th : Theory = theory_of p in
    let o : Observer = record { term = c.args.term; hole = c.in_ok-hole.hole; sorts = c.in_ok-hole.sorts } in
    let more = grown p.derivatives.items c.add_observer.new.derivatives.items o c.in_ok-add_observer.ensures.put in
    let hole : observed o ≡ derivative_of c.args.term = ap (λ h. derivative_with h c.args.term) c.in_ok-hole.ensures.hole in
    rw (← is_theory) (ap (λ ds. record th { derivatives = ds }) (more ∙ ap (λ d. th.derivatives ++ d ∷ []) hole))
