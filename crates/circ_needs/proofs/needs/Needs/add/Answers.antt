use Rattle.circ_needs.specs.declared.walking.Asked.{Asked}
use Rattle.circ_needs.proofs.Having.{variable_guarded}
use Rattle.circ_needs.proofs.Owing.{owes_root}
use Rattle.circ_needs.proofs.needs.Needs.add.Goals as goal

pub returns-then-is_variable-clause-added : goal.returns-then-is_variable-clause-added
returns-then-is_variable-clause-added c = λ G. (
  (λ h. (h, variable_guarded c.args.observers.now G c.args.term.now c.args.id c.args.sort (c.is_variable.ensures.same.0 c.if-is_variable.true))),
  (λ h. h.0),
)

pub returns-clause-added : goal.returns-clause-added
returns-clause-added c =
    let a : Asked = record { observers = c.args.observers; root = c.args.term; id = c.args.id; sort = c.args.sort } in
    owes_root a _ _ _ c.in_ok-below.ensures.exact
