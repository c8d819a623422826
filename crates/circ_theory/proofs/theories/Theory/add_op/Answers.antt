use Rattle.std.proofs.Common.{◌≡◌, ◌&&◌, List, ◌∷◌, ◌++◌, [], nat_eq, map, None, refl, ap, sym, subst, ◌∙◌}
use Rattle.std.specs.List.{AllByRecursion, position}
use Rattle.std.specs.Option.{option_eq}
use Rattle.std.specs.Cmp.Lexicographic.{pointwise}
use Rattle.indexmap.specs.IndexMap.{insert_entry}
use Rattle.circ_theory.specs.declared.parts.OpDecl.{OpDecl}
use Rattle.circ_theory.specs.declared.theories.OpKey.{OpKey}
use Rattle.circ_form.specs.Form.{first_word}
use Rattle.circ_theory.specs.Signature.{Operator}
use Rattle.circ_theory.specs.Theory.{Theory}
use Rattle.circ_theory.specs.Operators.{operator_of, is_same_operator, places_from, first_sort}
use Rattle.circ_theory.specs.WellFormed.{IsWellFormed}
use Rattle.circ_theory.specs.Inside.{theory_of, IsKeyOf, IsEntry, IsKept, is_same_key}
use Rattle.circ_theory.proofs.Lists.{entry_last, map-push, all_push}
use Rattle.circ_theory.proofs.Keys.{key_position}
use Rattle.circ_theory.proofs.Growing.{op_grows}
use Rattle.circ_theory.proofs.Noting.{word_more, both_more}
use Rattle.circ_theory.proofs.Faults.{IsNew, new_operator}
use Rattle.circ_theory.proofs.theories.Theory.add_op.Goals as goal

abbrev declared : List (OpKey × OpDecl) → List Operator
declared es = map (λ e. operator_of e.1) es

-- a new operator's entry goes last
grown : (old new : List (OpKey × OpDecl)) (k : OpKey) (d : OpDecl) → IsKeyOf k (operator_of d) → AllByRecursion IsEntry old
    → position (is_same_operator (operator_of d)) (declared old) ≡ None → new ≡ insert_entry is_same_key old k d → new ≡ old ++ (k, d) ∷ []
grown old new k d key entries absent put =
    put ∙ entry_last is_same_key old k d (key_position k (operator_of d) old key entries ∙ absent)

pub invariant_of-self-2 : goal.invariant_of-self-2
invariant_of-self-2 c =
    let p = c.deref_mut-parts.result.now in
    let is_theory : theory_of p ≡ c.args.self.now = ap theory_of c.deref_mut-parts.ensures.value ∙ c.self.view_is in
    let kept : IsKept p = subst IsKept (sym c.deref_mut-parts.ensures.value) c.self.invariant in
    let th : Theory = theory_of p in
    let k = c.in_ok-key.key in
    let d = c.args.decl in
    let key = c.in_ok-key.ensures.key in
    let new : IsNew th (operator_of d) = new_operator th (operator_of d) key.is_form (rw (← is_theory) at c.in_ok-key.ensures.new) in
    let more = grown p.ops.entries c.add_entry.new.ops.entries k d key kept.entries new.number c.in_ok-add_entry.ensures.put in
    let ops = ap declared more ∙ map-push (λ e. operator_of e.1) p.ops.entries (k, d) in
    let number = rw (← is_theory) at c.op_count-number.ensures.count in
    let P : List Operator → Type 0 = λ os. IsWellFormed (record th { signature = record th.signature { ops = os } }) in
    record {
      well_formed = subst P (sym ops) (op_grows th (operator_of d) kept.well_formed new.operator new.room);
      entries = subst (AllByRecursion IsEntry) (sym more) (all_push IsEntry p.ops.entries (k, d) kept.entries key);
      listed = kept.listed;
      observers = kept.observers;
      hidden = kept.hidden;
      conditions = kept.conditions;
      by_word = λ w. c.in_ok-add_entry.ensures.noted.words w
          ∙ word_more th.signature (operator_of d) w _ _ c.op_count-number.result refl (kept.by_word w) number
          ∙ ap (places_from (λ o. pointwise nat_eq w (first_word o.form)) 0) (sym ops);
      by_both = λ w s. c.in_ok-add_entry.ensures.noted.both w s
          ∙ both_more th.signature (operator_of d) w _ _ s _ c.op_count-number.result refl refl (kept.by_both w s) number
          ∙ ap (places_from (λ o. pointwise nat_eq w (first_word o.form) && option_eq nat_eq s (first_sort o)) 0) (sym ops);
    }

pub returns-clause-added : goal.returns-clause-added
returns-clause-added c =
    let p = c.deref_mut-parts.result.now in
    let is_theory : theory_of p ≡ c.args.self.now = ap theory_of c.deref_mut-parts.ensures.value ∙ c.self.view_is in
    let kept : IsKept p = subst IsKept (sym c.deref_mut-parts.ensures.value) c.self.invariant in
    let th : Theory = theory_of p in
    let k = c.in_ok-key.key in
    let d = c.args.decl in
    let key = c.in_ok-key.ensures.key in
    let new : IsNew th (operator_of d) = new_operator th (operator_of d) key.is_form (rw (← is_theory) at c.in_ok-key.ensures.new) in
    let more = grown p.ops.entries c.add_entry.new.ops.entries k d key kept.entries new.number c.in_ok-add_entry.ensures.put in
    rw (← is_theory) (ap (λ os. record th { signature = record th.signature { ops = os } }) (ap declared more ∙ map-push (λ e. operator_of e.1) p.ops.entries (k, d)))
