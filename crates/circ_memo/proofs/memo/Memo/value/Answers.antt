use Rattle.std.proofs.Common.{ap, ◌∙◌}
use Rattle.circ_nodes.specs.Built.{AreBuilt}
use Rattle.circ_nodes.proofs.Building.{built_later}
use Rattle.circ_rewrite.specs.Norm.{Normal_form}
use Rattle.circ_nodes.proofs.Numbers.{named_below, named_one}
use Rattle.circ_memo.proofs.memo.Memo.value.Goals.{in-Ok+in_ok-term-in-Ok, in-Err}
use Rattle.circ_memo.proofs.memo.Memo.value.Goals as goal

pub term-requires-clause-there : goal.term-requires-clause-there
term-requires-clause-there c =
    let kept = c.in-Ok.ensures.exact.form in
    named_below c.settle_term.new.store.nodes c.in-Ok.entry.value kept.value kept.there

pub returns-clause-exact : goal.returns-clause-exact
returns-clause-exact c =
    elim c.match-settle_term.branch [
      | in-Ok+in_ok-term-in-Ok w ↦ (
          let exact = w.in-Ok.ensures.exact in
          let form = exact.form in
          let is = named_one c.settle_term.new.store.nodes w.in-Ok.entry.value form.value w.in_ok-term-in-Ok.field-0 form.there w.in_ok-term-in-Ok.ensures.named in
          rw (w.result-is, ← c.self.view_is, ← c.deref_mut-work.ensures.value) (form.traces, exact.is ∙ ap (λ v. Normal_form v form.traces c.settle_term.new.budget) is))
      | in-Err w ↦ rw (w.result-is, ← c.self.view_is, ← c.deref_mut-work.ensures.value) w.in-Err.ensures.exact
    ]

pub invariant_of-self-2 : goal.invariant_of-self-2
invariant_of-self-2 c =
    let work = c.deref_mut-work.result.now in
    let grown : AreBuilt c.settle_term.new.store.nodes work.terms =
    built_later work.store.nodes c.settle_term.new.store.nodes work.terms c.settle_term.ensures.grows (rw c.deref_mut-work.ensures.value c.self.invariant.built) in
    elim c.match-settle_term.branch [
      | in-Ok+in_ok-term-in-Ok w ↦ rw w.self-inside-is (record { store = c.settle_term.ensures.store; built = w.term.ensures.built })
      | in-Err w ↦ rw w.self-inside-is (record { store = c.settle_term.ensures.store; built = grown })
    ]
