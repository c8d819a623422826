use Rattle.std.proofs.Common.{ap, sym, ◌∙◌}
use Rattle.circ_nodes.specs.Built.{AreBuilt}
use Rattle.circ_nodes.proofs.Building.{built_later}
use Rattle.circ_rewrite.specs.Norm.{Normal_form}
use Rattle.circ_memo.proofs.memo.Memo.normal.Goals.{in-Ok+in_ok-listed-in-Ok, in-Err}
use Rattle.circ_memo.proofs.memo.Memo.normal.Goals as goal

pub returns-clause-exact : goal.returns-clause-exact
returns-clause-exact c =
    elim c.match-settle_term.branch [
      | in-Ok+in_ok-listed-in-Ok w ↦ (
          let exact = w.in-Ok.ensures.exact in
          let form = exact.form in
          let listed = w.in_ok-listed-in-Ok.ensures.listed c.args.term.now exact.named form in
          rw (w.result-is, ← c.self.view_is, ← c.deref_mut-work.ensures.value)
          (exact.is ∙ ap (λ v. Normal_form v form.traces c.settle_term.new.budget) (sym listed.0) ∙ ap (λ ts. Normal_form w.in_ok-listed-in-Ok.field-0.term ts c.settle_term.new.budget) (sym listed.1)))
      | in-Err w ↦ rw (w.result-is, ← c.self.view_is, ← c.deref_mut-work.ensures.value) w.in-Err.ensures.exact
    ]

pub invariant_of-self-2 : goal.invariant_of-self-2
invariant_of-self-2 c =
    let work = c.deref_mut-work.result.now in
    let grown : AreBuilt c.settle_term.new.store.nodes work.terms =
    built_later work.store.nodes c.settle_term.new.store.nodes work.terms c.settle_term.ensures.grows (rw c.deref_mut-work.ensures.value c.self.invariant.built) in
    elim c.match-settle_term.branch [
      | in-Ok+in_ok-listed-in-Ok w ↦ rw w.self-inside-is (record { store = c.settle_term.ensures.store; built = w.listed.ensures.built })
      | in-Err w ↦ rw w.self-inside-is (record { store = c.settle_term.ensures.store; built = grown })
    ]
