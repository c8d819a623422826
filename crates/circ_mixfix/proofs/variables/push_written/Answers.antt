use Rattle.std.proofs.Common.{◌++◌, ◌∷◌}
use Rattle.circ_mixfix.specs.Variables.{vars_in}
use Rattle.circ_mixfix.proofs.Written.{one_written}
use Rattle.circ_mixfix.proofs.WordLists.{grows_with}
use Rattle.circ_mixfix.proofs.variables.push_written.Goals as goal

pub returns-clause-adds : goal.returns-clause-adds
returns-clause-adds c = (
  _,
  c.in_ok-push.ensures.items,
  one_written c.args.scope.now.theory.now.signature (vars_in c.args.scope.now) c.args.scope.now.hole c.add.new.self c.args.word
      (c.args.name.now ++ 58 ∷ c.args.sort.now) c.in-Some.name.now c.in-Some.sort
      c.in_ok-number.field-0 c.in-Some.ensures c.in_ok-number.ensures.number,
)

pub returns-clause-grows : goal.returns-clause-grows
returns-clause-grows c = rw c.in_ok-number.ensures.added (grows_with c.args.words.now c.in-Some.name.now)
