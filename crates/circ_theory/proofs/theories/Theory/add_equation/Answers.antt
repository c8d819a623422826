use Rattle.std.proofs.Common.{◌≡◌, ◌&&◌, ◌∷◌, [], ◌++◌, true, is_some, List, map, ap, sym, subst, ◌∙◌}
use Rattle.std.specs.List.{AllByRecursion, list_any}
use Rattle.circ_term.specs.Tree.{operator_number}
use Rattle.circ_pairs.specs.declared.goals.Equation.{Equation}
use Rattle.circ_theory.specs.Theory.{Theory}
use Rattle.circ_theory.specs.WellFormed.{IsWellFormed}
use Rattle.circ_pairs.specs.Pair.{has_condition_of}
use Rattle.circ_theory.specs.Inside.{theory_of, IsListed, IsKept}
use Rattle.circ_theory.proofs.Lists.{map-push, all_push}
use Rattle.circ_theory.proofs.Growing.{equation_grows}
use Rattle.circ_theory.proofs.Conditions.{IsNewEquation, new_equation, visible_conditions, conditions_more}
use Rattle.circ_theory.proofs.theories.Theory.add_equation.Goals as goal

pub invariant_of-self-2 : goal.invariant_of-self-2
invariant_of-self-2 c =
    let p = c.deref_mut-parts.result.now in
    let is_theory : theory_of p ≡ c.args.self.now = ap theory_of c.deref_mut-parts.ensures.value ∙ c.self.view_is in
    let kept : IsKept p = subst IsKept (sym c.deref_mut-parts.ensures.value) c.self.invariant in
    let th : Theory = theory_of p in
    let e : Equation = record { left = c.args.left; right = c.args.right; conds = c.args.conds; exec = c.args.exec } in
    let new : IsNewEquation th c.args.conds = new_equation th c.args.conds (rw (← is_theory) at c.in_ok-variables.ensures.new) in
    let shown = visible_conditions th c.args.conds (rw (← is_theory) at c.requires.conds_sorted) new.visible in
    let P : List Equation → Type 0 = λ es. IsWellFormed (record th { equations = es }) in
    let items = c.in_ok-put_listed.ensures.put in
    let more : map (λ l. l.equation) c.put_listed.new.equations.items ≡ th.equations ++ e ∷ [] = ap (map (λ l. l.equation)) items ∙ map-push (λ l. l.equation) p.equations.items _ in
    record {
      well_formed = subst P (sym more)
          (equation_grows th e kept.well_formed (record { sorted = rw (← is_theory) at c.requires.sorted; conds = shown }) c.requires.in_order new.few new.room);
      entries = kept.entries;
      listed = subst (AllByRecursion IsListed) (sym items)
          (all_push IsListed p.equations.items _ kept.listed (record {
            sorts = c.in_ok-variables.ensures.sorts;
            few = c.in_ok-variables.ensures.few;
            rule = c.is_rule_with-rule.ensures ∙ ap (λ b. c.args.exec && is_some (operator_number c.args.left) && b) c.in_ok-variables.ensures.bound;
          }));
      observers = kept.observers;
      hidden = kept.hidden;
      conditions = λ s h. conditions_more th.equations e p.condition_sorts.keys c.put_listed.new.kept.keys s (kept.conditions s) (c.in_ok-put_listed.ensures.more s)
          (λ k. c.in_ok-put_listed.ensures.noted s k) (subst (λ es. list_any (λ d. has_condition_of s d.conds) es ≡ true) more h);
      by_word = kept.by_word;
      by_both = kept.by_both;
    }
