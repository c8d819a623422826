use Rattle.std.proofs.Common.{sym, ap, ◌∙◌}
use Rattle.circ_theory.specs.Operators.{operator_of}
use Rattle.circ_join.specs.Trying.{normaliser_of}
use Rattle.circ_content_join.specs.Joining.{rests_joined}
use Rattle.circ_moves.proofs.OverRests.{of_contents}
use Rattle.circ_moves.proofs.joining.ContentJoining.contents_join.Goals as goal

pub returns-clause-exact : goal.returns-clause-exact
returns-clause-exact c =
    let f = normaliser_of c.args.reducer.now in
    let sig = c.args.self.now.theory.now.signature in
    let G = c.args.self.now.gamma.now in
    let H = c.args.self.now.hyps.now.all in
    let o = operator_of c.in-Some.decl.now in
    let same =
    of_contents f sig G H c.args.op c.args.path.now.items c.args.a.now c.args.b.now c.args.budget.now o (sym c.in-Some.ensures)
    ∙ ap (λ d. rests_joined f sig G H o c.args.op c.args.path.now.items c.args.a.now c.args.b.now d c.args.budget.now) (sym c.in_ok-apart.ensures) in
    rw same c.rests_join.ensures.exact
