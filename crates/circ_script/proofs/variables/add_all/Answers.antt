use Rattle.std.proofs.Common.{refl, ap, sym, ◌∙◌}
use Rattle.circ_read.specs.Outcomes.{all_added, variable_added}
use Rattle.circ_read.proofs.Tokens.{here_token, no_token}
use Rattle.circ_read.proofs.Parts.{more_added, stopped}
use Rattle.circ_script.proofs.Copies.{but_itself, but_then}
use Rattle.circ_script.proofs.variables.add_all.Goals as goal

pub loop-n-init : goal.loop-n-init
loop-n-init c = record { same = refl; kept = but_itself c.args.theory.now }

pub loop-n-preserved : goal.loop-n-preserved
loop-n-preserved c = record {
  same =
      more_added (variable_added c.args.sort) c.loop-n.theory c.word.result.now _ _
      (here_token c.args.tokens.now c.args.names c.loop-n.n c.word.result.now c.requires c.loop-n-test.true c.word.ensures) _
      c.loop-n.invariant.same
      c.add_variable.new.theory c.in-Ok.ensures.outcome;
  kept = but_then c.args.theory.now c.loop-n.theory c.add_variable.new.theory c.loop-n.invariant.kept c.in-Ok.ensures.kept;
}

pub returns-in-Err-clause-outcome : goal.returns-in-Err-clause-outcome
returns-in-Err-clause-outcome c =
    stopped (variable_added c.args.sort) c.loop-n.theory c.word.result.now _ _
    (here_token c.args.tokens.now c.args.names c.loop-n.n c.word.result.now c.requires c.loop-n-test.true c.word.ensures) _
    c.loop-n.invariant.same
    c.in-Err.fault c.add_variable.new.theory c.add_variable.new.theory c.in-Err.ensures.outcome

pub returns-in-Err-clause-kept : goal.returns-in-Err-clause-kept
returns-in-Err-clause-kept c = but_then c.args.theory.now c.loop-n.theory c.add_variable.new.theory c.loop-n.invariant.kept c.in-Err.ensures.kept

pub returns-clause-outcome : goal.returns-clause-outcome
returns-clause-outcome c = ap (all_added (variable_added c.args.sort) c.loop-n.theory)
    (sym (no_token c.args.tokens.now c.loop-n.n c.args.names.to c.loop-n-test.false)) ∙ c.loop-n.invariant.same
