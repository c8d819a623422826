use Rattle.std.proofs.Common.{◌≡◌, true, false, nat_lt, length, Some, None, refl, ap, ◌∙◌, arith}
use Rattle.std.proofs.lemmas.Grind.{common_steps}
use Rattle.circ_theory.specs.declared.fault.TheoryFault.TheVariants.{IllSorted, Limit}
use Rattle.circ_theory.specs.Limits.{argument_limit, operator_limit}
use Rattle.circ_theory.specs.Operators.{operator_of, is_ill_sorted}
use Rattle.circ_theory.specs.Adding.{op_number, unknown_sort, count_fault}
use Rattle.circ_theory.proofs.Keys.{key_position}
use Rattle.circ_theory.proofs.Faults.{op_fault_by}
use Rattle.circ_theory.proofs.theories.Theory.op_fault.Goals as goal

pub returns-in-Some : goal.returns-in-Some
returns-in-Some c =
    let th = c.args.self.now in
    let o = operator_of c.args.decl.now in
    let number : Some c.in-Some.number ≡ op_number th.signature o =
    rw (← c.self.view_is) ((rw c.deref.ensures at c.in-Some.ensures.index) ∙ key_position c.args.key.now o c.self.inside.parts.value.ops.entries c.requires c.self.invariant.entries) in
    op_fault_by th o (Some c.in-Some.number) (unknown_sort th.signature o) (is_ill_sorted o) (nat_lt argument_limit (length o.args)) (count_fault operator_limit (length th.signature.ops)) number refl refl refl refl

pub returns-in-Some-unknown_sort : goal.returns-in-Some-unknown_sort
returns-in-Some-unknown_sort c =
    let th = c.args.self.now in
    let o = operator_of c.args.decl.now in
    let number : None ≡ op_number th.signature o =
    rw (← c.self.view_is) ((rw c.deref.ensures at c.in_default.ensures.index) ∙ key_position c.args.key.now o c.self.inside.parts.value.ops.entries c.requires c.self.invariant.entries) in
    op_fault_by th o None (Some c.in-Some-unknown_sort.number) (is_ill_sorted o) (nat_lt argument_limit (length o.args)) (count_fault operator_limit (length th.signature.ops)) number
    c.in-Some-unknown_sort.ensures refl refl refl

pub returns-then-is_ill_sorted : goal.returns-then-is_ill_sorted
returns-then-is_ill_sorted c =
    let th = c.args.self.now in
    let o = operator_of c.args.decl.now in
    let number : None ≡ op_number th.signature o =
    rw (← c.self.view_is) ((rw c.deref.ensures at c.in_default.ensures.index) ∙ key_position c.args.key.now o c.self.inside.parts.value.ops.entries c.requires c.self.invariant.entries) in
    ap (λ n. Some (IllSorted n)) c.op_count-number.ensures.count
    ∙ op_fault_by th o None None true (nat_lt argument_limit (length o.args)) (count_fault operator_limit (length th.signature.ops)) number c.in_default-unknown_sort.ensures c.if-is_ill_sorted.ensures refl refl

pub returns-then-len-gt-MOST_ARGS : goal.returns-then-len-gt-MOST_ARGS
returns-then-len-gt-MOST_ARGS c =
    let th = c.args.self.now in
    let o = operator_of c.args.decl.now in
    let number : None ≡ op_number th.signature o =
    rw (← c.self.view_is) ((rw c.deref.ensures at c.in_default.ensures.index) ∙ key_position c.args.key.now o c.self.inside.parts.value.ops.entries c.requires c.self.invariant.entries) in
    let long : c.len-then-len-gt-MOST_ARGS.result ≡ length o.args = omega arith in
    let test : true ≡ nat_lt argument_limit (length o.args) = grind (arith, common_steps) in
    ap (λ n. Some (Limit n)) long
    ∙ op_fault_by th o None None false true (count_fault operator_limit (length th.signature.ops)) number c.in_default-unknown_sort.ensures c.if-is_ill_sorted.ensures test refl

pub returns : goal.returns
returns c =
    let th = c.args.self.now in
    let o = operator_of c.args.decl.now in
    let number : None ≡ op_number th.signature o =
    rw (← c.self.view_is) ((rw c.deref.ensures at c.in_default.ensures.index) ∙ key_position c.args.key.now o c.self.inside.parts.value.ops.entries c.requires c.self.invariant.entries) in
    let test : false ≡ nat_lt argument_limit (length o.args) = grind (arith, common_steps) in
    op_fault_by th o None None false false c.count_fault.result number c.in_default-unknown_sort.ensures c.if-is_ill_sorted.ensures test
    (c.count_fault.ensures ∙ ap (count_fault operator_limit) c.op_count-number.ensures.count)
