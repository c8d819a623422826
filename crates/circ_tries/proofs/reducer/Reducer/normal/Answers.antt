use Rattle.std.proofs.Common.{◌≡◌, ap, sym, subst, ◌∙◌}
use Rattle.circ_rewrite.specs.Plain.{Answers}
use Rattle.circ_memo.specs.Value.{Rewriting}
use Rattle.circ_conditional_norm.specs.Norm.{conditional_norm}
use Rattle.circ_tries.specs.Value.{rewriting_by}
use Rattle.circ_tries.proofs.Untried.{normal_untried}
use Rattle.circ_tries.proofs.reducer.Reducer.normal.Goals.{in-Plain, in-Tried}
use Rattle.circ_tries.proofs.reducer.Reducer.normal.Goals as goal

pub returns-clause-exact : goal.returns-clause-exact
returns-clause-exact c = elim c.match-self.branch [
  | in-Plain w ↦
      let same : w.in-Plain.memo ≡ c.args.self.now = ap rewriting_by (sym w.in-Plain.is) ∙ c.self.view_is in
      rw (w.result-is, w.budget-is)
      (subst (λ (q : Rewriting). Answers w.normal.result w.normal.new.budget (conditional_norm c.args.tries q.theory.signature q.rules q.assumptions c.args.budget.now c.args.term.now)) same
      (normal_untried w.in-Plain.memo (rw w.in-Plain.is at c.self.invariant.right) c.args.tries c.args.budget.now w.normal.new.budget c.args.term.now w.normal.result w.normal.ensures.exact))
  | in-Tried w ↦
      let same : w.in-Tried.trying ≡ c.args.self.now = ap rewriting_by (sym w.in-Tried.is) ∙ c.self.view_is in
      rw (w.result-is, w.budget-is)
      (subst (λ (q : Rewriting). Answers w.normal-in-Tried.result w.normal-in-Tried.new.budget (conditional_norm c.args.tries q.theory.signature q.rules q.assumptions c.args.budget.now c.args.term.now)) same
      w.normal-in-Tried.ensures.exact)
]
