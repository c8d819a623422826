use Rattle.std.proofs.Common.{◌∙◌, sym}
use Rattle.circ_mixfix.specs.Variables.{vars_in}
use Rattle.circ_mixfix.proofs.Written.{absent_name, absent_sort, absent_colon, absent_hole, absent_unknown, gives_written, gives_hole, position_is, is_nil, not_nil, is_star, no_star}
use Rattle.circ_mixfix.proofs.variables.written.Goals as goal

pub returns-then-is_empty : goal.returns-then-is_empty
returns-then-is_empty c =
    absent_name c.args.scope.now.theory.now.signature (vars_in c.args.scope.now) c.args.scope.now.hole c.args.name.now c.args.sort.now c.requires
    (is_nil c.args.name.now (sym c.is_empty.ensures ∙ c.if-is_empty.true))

pub returns-then-is_empty-2 : goal.returns-then-is_empty-2
returns-then-is_empty-2 c =
    absent_sort c.args.scope.now.theory.now.signature (vars_in c.args.scope.now) c.args.scope.now.hole c.args.name.now c.args.sort.now c.requires
    (is_nil c.args.sort.now (sym c.is_empty-2.ensures ∙ c.if-is_empty-2.true))

pub returns-then-has_colon : goal.returns-then-has_colon
returns-then-has_colon c =
    absent_colon c.args.scope.now.theory.now.signature (vars_in c.args.scope.now) c.args.scope.now.hole c.args.name.now c.args.sort.now c.requires
    (sym c.has_colon.ensures ∙ c.if-has_colon.true)

pub returns-in_err-number : goal.returns-in_err-number
returns-in_err-number c =
    rw c.from_residual.ensures
    (absent_unknown c.args.scope.now.theory.now.signature (vars_in c.args.scope.now) c.args.scope.now.hole c.args.name.now c.args.sort.now c.requires (sym c.in_err-number.ensures))

pub returns-then-ne : goal.returns-then-ne
returns-then-ne c =
    gives_written c.args.scope.now.theory.now.signature (vars_in c.args.scope.now) c.args.scope.now.hole c.args.name.now c.args.sort.now c.requires c.in_ok-number.number
    c.known_names.ensures.sorts (position_is c.args.scope.now.theory.now.signature.sorts c.args.sort.now c.in_ok-number.number (sym c.in_ok-number.ensures))
    (not_nil c.args.sort.now (sym c.is_empty-2.ensures ∙ c.if-is_empty-2.false)) (sym c.has_colon.ensures ∙ c.if-has_colon.false)
    (not_nil c.args.name.now (sym c.is_empty.ensures ∙ c.if-is_empty.false)) (no_star c.args.name.now c.as_slice.result.now (sym c.ne.ensures ∙ c.if-ne.true) c.as_slice.ensures)

pub returns-then-scope : goal.returns-then-scope
returns-then-scope c =
    rw c.as_slice-then-scope.ensures
    (gives_hole c.args.scope.now.theory.now.signature (vars_in c.args.scope.now) c.args.scope.now.hole c.args.name.now c.args.sort.now c.requires c.in_ok-number.number
    c.known_names.ensures.sorts (position_is c.args.scope.now.theory.now.signature.sorts c.args.sort.now c.in_ok-number.number (sym c.in_ok-number.ensures))
    (not_nil c.args.sort.now (sym c.is_empty-2.ensures ∙ c.if-is_empty-2.false)) (sym c.has_colon.ensures ∙ c.if-has_colon.false)
    (is_star c.args.name.now c.as_slice.result.now (sym c.ne.ensures ∙ c.if-ne.false) c.as_slice.ensures) c.if-scope.true)

pub returns : goal.returns
returns c =
    absent_hole c.args.scope.now.theory.now.signature (vars_in c.args.scope.now) c.args.scope.now.hole c.args.name.now c.args.sort.now c.requires
    (is_star c.args.name.now c.as_slice.result.now (sym c.ne.ensures ∙ c.if-ne.false) c.as_slice.ensures) c.if-scope.false
