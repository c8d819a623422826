use Rattle.std.proofs.Common.{[], refl, sym, ◌∙◌}
use Rattle.circ_term.specs.Tree.{App}
use Rattle.circ_tries.proofs.Still.{still_args}
use Rattle.circ_tries.proofs.store.Store.has_still_args.Goals as goal

pub returns-in-Variable : goal.returns-in-Variable
returns-in-Variable c = λ e. ([], refl, λ f s ts named. absurd (let never = c.in-Variable.ensures.shape (App f s ts) named in cc))

pub returns-in-Application : goal.returns-in-Application
returns-in-Application c = λ e. (
  c.in-Application.args.now,
  sym c.are_still.ensures ∙ e,
  λ f s ts named. let shape = c.in-Application.ensures.shape (App f s ts) named in
      still_args c.args.self.now.nodes c.in-Application.args.now f s c.in-Application.op c.in-Application.sort ts shape.0 shape.1 shape.2,
)
