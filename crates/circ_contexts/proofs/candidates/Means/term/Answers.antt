use Rattle.circ_contexts.proofs.Needing.{term_at}
use Rattle.circ_proof.proofs.Derivatives.{the_derivative}
use Rattle.std.specs.List.{slice_get}
use Rattle.circ_contexts.proofs.candidates.Means.term.Goals as goal

pub returns-in-Some-clause-exact : goal.returns-in-Some-clause-exact
returns-in-Some-clause-exact c =
    let th = c.args.self.now.theory.now in
    let s = c.args.start.now in
    let d = the_derivative (slice_get th.derivatives c.args.derivative) s.decl.now.result c.requires.hole in
    let form = rw c.requires.reducer at c.normal_term.ensures.exact in
    term_at th c.args.self.now.budget s c.requires.start c.args.derivative d.0 d.1 c.in-Some.term (rw c.in-Some.is at c.in_ok-term.ensures.exact) _ form
