use Rattle.std.proofs.Common.{ap, sym, ◌∙◌}
use Rattle.circ_read.specs.Outcomes.{all_added, variable_added}
use Rattle.circ_read.proofs.Tokens.{here_token, no_token}
use Rattle.circ_read.proofs.Parts.{more_added, stopped}
use Rattle.circ_read.proofs.variables.add_all.Goals as goal

pub loop-n-preserved : goal.loop-n-preserved
loop-n-preserved c =
    more_added (variable_added c.args.sort) c.loop-n.theory c.word.result.now _ _ (here_token c.args.tokens.now c.args.names c.loop-n.n c.word.result.now c.requires c.loop-n-test.true c.word.ensures) _ c.loop-n.invariant
    c.add_variable.new.theory c.in-Ok.ensures

pub returns-in-Err : goal.returns-in-Err
returns-in-Err c =
    stopped (variable_added c.args.sort) c.loop-n.theory c.word.result.now _ _ (here_token c.args.tokens.now c.args.names c.loop-n.n c.word.result.now c.requires c.loop-n-test.true c.word.ensures) _ c.loop-n.invariant
    c.in-Err.fault c.add_variable.new.theory c.add_variable.new.theory c.in-Err.ensures

pub returns : goal.returns
returns c = ap (all_added (variable_added c.args.sort) c.loop-n.theory) (sym (no_token c.args.tokens.now c.loop-n.n c.args.names.to c.loop-n-test.false)) ∙ c.loop-n.invariant
