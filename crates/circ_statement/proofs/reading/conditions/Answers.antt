use Rattle.std.proofs.Common.{◌∷◌, [], codes, Some}
use Rattle.circ_lexer.specs.TokenList.{tokens_in}
use Rattle.circ_statement.specs.Outside.{parts_at}
use Rattle.circ_statement.proofs.Conditions.{read_more, read_last, no_part, no_parts}
use Rattle.circ_statement.proofs.reading.conditions.Goals as goal

pub returns-then-not-branch : goal.returns-then-not-branch
returns-then-not-branch c =
    let ts = c.args.tokens.now in
    let cut = c.in-At in
    no_part ts c.args.span c.loop-before.rest c.loop-before.conds.items c.loop-before.invariant (tokens_in ts cut.before) (parts_at (codes "/\\") (tokens_in ts cut.after)) cut.ensures.2
    (rw c.if-not-branch.true at c.in_ok-push_condition-in-At.ensures)

pub loop-before-preserved : goal.loop-before-preserved
loop-before-preserved c =
    let cut = c.in-At in
    read_more c.args.tokens.now c.args.span c.loop-before.rest c.loop-before.conds.items c.loop-before.invariant cut.before cut.after c.push_condition.new.conds.items cut.ensures.1 cut.ensures.2
    (rw c.if-not-branch.false at c.in_ok-push_condition-in-At.ensures)

pub returns-then-not-branch-2 : goal.returns-then-not-branch-2
returns-then-not-branch-2 c =
    let ts = c.args.tokens.now in
    no_part ts c.args.span c.loop-before.rest c.loop-before.conds.items c.loop-before.invariant (tokens_in ts c.loop-before.rest) (Some []) c.in-Nowhere.ensures
    (rw c.if-not-branch-2.true at c.in_ok-push_condition-in-Nowhere.ensures)

pub returns-in-Nowhere : goal.returns-in-Nowhere
returns-in-Nowhere c =
    read_last c.args.tokens.now c.args.span c.loop-before.rest c.loop-before.conds.items c.loop-before.invariant c.push_condition-in-Nowhere.new.conds.items c.in-Nowhere.ensures
    (rw c.if-not-branch-2.false at c.in_ok-push_condition-in-Nowhere.ensures)
