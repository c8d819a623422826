use Rattle.std.proofs.Common.{◌≡◌, true, false, nat_lt, not, find, Some, None, ap, ◌∙◌, arith}
use Rattle.std.proofs.lemmas.Grind.{common_steps}
use Rattle.circ_theory.specs.Operators.{operator_of}
use Rattle.circ_theory.proofs.Faults.{unknown_by}
use Rattle.circ_theory.proofs.theories.Theory.unknown_sort.Goals as goal

pub returns-in-Some : goal.returns-in-Some
returns-in-Some c =
    let count = c.sort_count-count.result in
    unknown_by c.args.self.now.signature (operator_of c.args.decl.now) count (Some c.in-Some.sort) c.sort_count-count.ensures.count
    (c.in-Some.ensures ∙ ap (find (λ s. not (nat_lt s count))) c.as_slice.ensures.value)

pub returns-then-decl-count : goal.returns-then-decl-count
returns-then-decl-count c =
    let count = c.sort_count-count.result in
    let below : nat_lt c.args.decl.now.result count ≡ true = grind (arith, common_steps) in
    rw below at (unknown_by c.args.self.now.signature (operator_of c.args.decl.now) count None c.sort_count-count.ensures.count
    (c.in_default.ensures ∙ ap (find (λ s. not (nat_lt s count))) c.as_slice.ensures.value))

pub returns-else-decl-count : goal.returns-else-decl-count
returns-else-decl-count c =
    let count = c.sort_count-count.result in
    let above : nat_lt c.args.decl.now.result count ≡ false = grind (arith, common_steps) in
    rw above at (unknown_by c.args.self.now.signature (operator_of c.args.decl.now) count None c.sort_count-count.ensures.count
    (c.in_default.ensures ∙ ap (find (λ s. not (nat_lt s count))) c.as_slice.ensures.value))
