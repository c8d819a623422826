use Rattle.std.proofs.Common.{[], sym, ◌∙◌, append-nil}
use Rattle.circ_mixfix.specs.Variables.{vars_in}
use Rattle.circ_mixfix.proofs.Written.{declared_only, no_parenthesis}
use Rattle.circ_mixfix.proofs.variables.push_variables.Goals as goal

pub returns-in_ok-push_declared-in-None-clause-adds : goal.returns-in_ok-push_declared-in-None-clause-adds
returns-in_ok-push_declared-in-None-clause-adds c =
    let a = c.in_ok-push_declared-in-None.ensures in (
      a.0,
      a.1,
      declared_only c.args.scope.now.theory.now.signature (vars_in c.args.scope.now) c.args.scope.now.hole c.args.words.now c.args.word c.args.text.now a.0 c.in-None.ensures
          (λ p. absurd (let z = sym (c.is_parenthesis.ensures.1 p) ∙ c.if-not-is_parenthesis.true in cc z)) c.requires.is a.2,
    )

pub returns-else-not-is_parenthesis-clause-adds : goal.returns-else-not-is_parenthesis-clause-adds
returns-else-not-is_parenthesis-clause-adds c = (
  [],
  sym (append-nil c.args.out.now.items),
  no_parenthesis c.args.scope.now.theory.now.signature (vars_in c.args.scope.now) c.args.scope.now.hole c.args.words.now c.args.word c.args.text.now
      (c.is_parenthesis.ensures.0 c.if-not-is_parenthesis.false),
)
