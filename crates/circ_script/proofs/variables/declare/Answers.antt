use Rattle.std.proofs.Common.{◌++◌, Some, ap, sym, ◌∙◌, subst, arith}
use Rattle.std.proofs.lemmas.Option.{slice_get-get_or}
use Rattle.circ_theory.specs.Adding.{with_var}
use Rattle.circ_mixfix.specs.Answers.{declared_by}
use Rattle.circ_script.specs.Steps.{IsButVariables}
use Rattle.circ_script.proofs.Copies.{but_itself, but_then, but_a_variable, one_declared, none_left}
use Rattle.circ_script.proofs.variables.declare.Goals as goal

pub loop-variable-init : goal.loop-variable-init
loop-variable-init c = record { all = ap (λ vs. vs ++ declared_by c.args.variables.now) c.requires.none; kept = but_itself c.args.theory.now }

pub loop-variable-preserved : goal.loop-variable-preserved
loop-variable-preserved c =
    let listed = c.args.variables.now in
    let n = c.loop-variable.variable-index in
    let v = c.variable-item.result in
    let u = c.loop-variable.theory in
    let is = slice_get-get_or listed n v c.loop-variable-test.true ∙ ap (λ x. Some x) (sym c.variable-item.is) in
    let added = c.in_ok-add_var.ensures.added ∙ ap (λ name. with_var u name v.1) c.bytes.ensures in
    record {
      all = one_declared c.args.theory.now u listed n v is c.requires.different c.loop-variable.invariant.all c.add_var.new.self added;
      kept = but_then c.args.theory.now u c.add_var.new.self c.loop-variable.invariant.kept (subst (IsButVariables u) (sym added) (but_a_variable u v.0 v.1));
    }

pub returns-in_err-add_var-clause-kept : goal.returns-in_err-add_var-clause-kept
returns-in_err-add_var-clause-kept c = subst (IsButVariables c.args.theory.now) (sym c.in_err-add_var.ensures.err) c.loop-variable.invariant.kept

pub returns : goal.returns
returns c = record {
  declared = none_left c.args.theory.now c.loop-variable.theory c.args.variables.now c.loop-variable.variable-index (omega arith)
      c.loop-variable.invariant.kept c.loop-variable.invariant.all;
  kept = c.loop-variable.invariant.kept;
}
