use Rattle.std.proofs.Common.{refl}
use Rattle.circ_lexer.specs.TokenList.{tokens_in}
use Rattle.circ_statement.specs.Said as statement
use Rattle.circ_statement.specs.Said.{token_at}
use Rattle.circ_read.proofs.Coming.{outcome_as}
use Rattle.circ_script.specs.Steps.{draft_of}
use Rattle.circ_script.proofs.Drafts.{declared_as}
use Rattle.circ_script.proofs.adding.add_item.Goals as goal

pub returns-in-Variables-clause-outcome : goal.returns-in-Variables-clause-outcome
returns-in-Variables-clause-outcome c =
    let names = tokens_in c.args.tokens.now c.in-Variables.names in
    let sort = token_at c.args.tokens.now c.in-Variables.sort in
    let th = c.args.theory.now in
    rw c.in-Variables.is
    (declared_as (draft_of th c.args.asked.now) names sort c.add_variables.result c.add_variables.new.theory
    (draft_of c.add_variables.new.theory c.args.asked.now) refl
    (outcome_as th (statement.variables names sort) c.add_variables.result c.add_variables.new.theory c.add_variables.ensures.outcome))
