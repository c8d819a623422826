use Rattle.std.proofs.Common.{subst}
use Rattle.circ_statement.specs.Said.{said_of, token_at, inclusion}
use Rattle.circ_read.specs.Includes.{AddsIn}
use Rattle.circ_read.specs.RefusesIn.{RefusesIn}
use Rattle.circ_read.specs.Steps.{StepAnswers, InclusionOutcome, scope_of}
use Rattle.circ_read.proofs.Texts.{included_as, in_its_scope, no_inclusion}
use Rattle.circ_read.proofs.Walk.{said_image}
use Rattle.circ_read.proofs.reader.ReaderReceiver.add.Goals as goal

pub returns-in-Inclusion : goal.returns-in-Inclusion
returns-in-Inclusion c =
    let said = inclusion (token_at c.args.tokens.now c.in-Inclusion.name) in
    rw c.in-Inclusion.is
    (said_image scope_of AddsIn RefusesIn c.args.self.now c.include.new.self said c.include.result
    (included_as (scope_of c.args.self.now) _ c.include.result (scope_of c.include.new.self)
    (subst (λ w. StepAnswers c.include.result (scope_of c.include.new.self) (InclusionOutcome (scope_of c.args.self.now) w)) c.word.ensures c.include.ensures)))

pub returns-in_default : goal.returns-in_default
returns-in_default c =
    let said = said_of c.args.tokens.now c.args.statement in
    said_image scope_of AddsIn RefusesIn c.args.self.now _ said c.add_statement.result
    (in_its_scope (scope_of c.args.self.now) said (no_inclusion c.args.tokens.now c.args.statement c.in_default.not-Inclusion)
    c.add_statement.result c.add_statement.new.theory c.add_statement.ensures)
