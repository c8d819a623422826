use Rattle.std.proofs.Common.{map, ap, sym, ◌∙◌}
use Rattle.circ_statement.specs.Said.{spelled_of}
use Rattle.circ_read.specs.Outcomes.{all_added, operator_added}
use Rattle.circ_read.proofs.Parts.{more_added, stopped, none_to_come}
use Rattle.circ_read.proofs.operators.add_all.Goals as goal

pub loop-form-init : goal.loop-form-init
loop-form-init c = ap (λ xs. all_added (operator_added c.args.rank.now.args.items c.args.rank.now.result c.args.rank.now.marks.assoc c.args.rank.now.marks.comm c.args.rank.now.marks.idem) c.args.theory.now (map spelled_of xs)) c.into_iter-form-iterator.ensures.into_iter_gives.0

pub loop-form-preserved : goal.loop-form-preserved
loop-form-preserved c =
    more_added (operator_added c.args.rank.now.args.items c.args.rank.now.result c.args.rank.now.marks.assoc c.args.rank.now.marks.comm c.args.rank.now.marks.idem) c.loop-form.theory
    (spelled_of c.in-Some.form) _ _ (ap (map spelled_of) c.in-Some.ensures.steps.0) _ c.loop-form.invariant c.add_operator.new.theory c.in-Ok.ensures

pub returns-in-Err : goal.returns-in-Err
returns-in-Err c =
    stopped (operator_added c.args.rank.now.args.items c.args.rank.now.result c.args.rank.now.marks.assoc c.args.rank.now.marks.comm c.args.rank.now.marks.idem) c.loop-form.theory
    (spelled_of c.in-Some.form) _ _ (ap (map spelled_of) c.in-Some.ensures.steps.0) _ c.loop-form.invariant c.in-Err.fault c.add_operator.new.theory c.add_operator.new.theory c.in-Err.ensures

pub returns : goal.returns
returns c = ap (λ xs. all_added (operator_added c.args.rank.now.args.items c.args.rank.now.result c.args.rank.now.marks.assoc c.args.rank.now.marks.comm c.args.rank.now.marks.idem) c.loop-form.theory (map spelled_of xs)) (sym (none_to_come c.loop-form.form-iterator c.in-None.ensures.steps.0)) ∙ c.loop-form.invariant
