use Rattle.std.proofs.Common.{◌≡◌, map}
use Rattle.std.specs.Vec.Iter.{into_iter_items}
use Rattle.circ_statement.specs.Said.{spelled_of}
use Rattle.circ_read.specs.Outcomes.{all_added, operator_added}
use Rattle.circ_read.proofs.operators.add_all.Given as goal

abbrev pub invariant-loop-form : goal.invariant-loop-form
invariant-loop-form l =
    all_added (operator_added l.rank.args.items l.rank.result l.rank.marks.assoc l.rank.marks.comm l.rank.marks.idem) l.theory (map spelled_of (into_iter_items l.form-iterator))
    ≡ all_added (operator_added l.rank.args.items l.rank.result l.rank.marks.assoc l.rank.marks.comm l.rank.marks.idem) l.fn.theory (map spelled_of l.fn.forms.items)
