use Rattle.std.proofs.Common.{◌≤◌, ◌+◌, [], ◌∷◌, ◌++◌, drop, length, ap, sym, ◌∙◌, arith}
use Rattle.std.proofs.lemmas.List.{map-append}
use Rattle.circ_theory.specs.Theory.{declared}
use Rattle.circ_mixfix.specs.Answers.{declared_by}
use Rattle.circ_script.proofs.Copies.{listed_more, listed_all}
use Rattle.circ_script.proofs.variables.copies.Goals as goal

pub loop-n-init : goal.loop-n-init
loop-n-init c = ap (λ xs. declared_by xs ++ c.args.theory.now.variables) c.new-copies.ensures.items

pub loop-n-preserved : goal.loop-n-preserved
loop-n-preserved c =
    let vars = c.args.theory.now.variables in
    let copies = c.loop-n.copies.items in
    let d = declared c.in-Some.name.now c.in-Some.sort in
    ap (λ xs. declared_by xs ++ drop (c.loop-n.n + 1) vars) c.in_ok-push-in-Some.ensures.items
    ∙ ap (λ xs. xs ++ drop (c.loop-n.n + 1) vars) (map-append (λ v. declared v.0 v.1) copies ((c.in_ok-of-in-Some.field-0, c.in-Some.sort) ∷ []))
    ∙ ap (λ t. (declared_by copies ++ declared t c.in-Some.sort ∷ []) ++ drop (c.loop-n.n + 1) vars) c.in_ok-of-in-Some.ensures
    ∙ listed_more (declared_by copies) vars c.loop-n.n d (sym c.in-Some.ensures) c.loop-n.invariant

pub returns : goal.returns
returns c =
    let l : length c.args.theory.now.variables ≤ c.loop-n.n = omega (arith, c.loop-n-test.false, c.var_count-n-end.ensures.count) in
    listed_all (declared_by c.loop-n.copies.items) c.args.theory.now.variables c.loop-n.n l c.loop-n.invariant
