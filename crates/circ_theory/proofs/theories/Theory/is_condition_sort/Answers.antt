use Rattle.std.proofs.Common.{◌≡◌, nat_eq, ap, sym, ◌∙◌}
use Rattle.std.specs.List.{list_any}
use Rattle.circ_pairs.specs.Pair.{has_condition_of}
use Rattle.circ_theory.specs.Observing.{is_condition_sort}
use Rattle.circ_theory.specs.Inside.{theory_of}
use Rattle.circ_pairs.proofs.Lists.{list_any-map}
use Rattle.circ_theory.proofs.Conditions.{not_kept}
use Rattle.circ_theory.proofs.theories.Theory.is_condition_sort.Goals as goal

pub returns : goal.returns
returns c =
    let s = c.args.sort in
    let is : theory_of c.deref-2.result.now ≡ c.args.self.now = ap theory_of c.deref-2.ensures ∙ c.self.view_is in
    c.has_conditions_of.ensures ∙ ap (list_any (λ l. has_condition_of s l.equation.conds)) c.as_slice.ensures.value
    ∙ sym (list_any-map (λ e. has_condition_of s e.conds) (λ l. l.equation) c.deref-2.result.now.equations.items) ∙ ap (λ th. is_condition_sort th s) is

pub returns-then-not-contains : goal.returns-then-not-contains
returns-then-not-contains c =
    let s = c.args.sort in
    rw (← c.self.view_is) (not_kept (is_condition_sort (theory_of c.self.inside.parts.value) s) (list_any (nat_eq s) c.self.inside.parts.value.condition_sorts.keys) (c.self.invariant.conditions s)
    (sym (rw c.deref.ensures at c.contains.ensures) ∙ c.if-not-contains.true))
