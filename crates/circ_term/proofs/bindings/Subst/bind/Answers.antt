use Rattle.std.proofs.Common.{ap, ◌∙◌, map}
use Rattle.circ_term.specs.Tree.{sort_of}
use Rattle.circ_term.specs.Bindings.{bound_of}
use Rattle.circ_term.proofs.Found.{inserted, bound_sorts}
use Rattle.circ_term.proofs.bindings.Subst.bind.Goals as goal

pub returns-clause-bound : goal.returns-clause-bound
returns-clause-bound c =
    rw (← c.self.view_is, ← c.in_ok-term.ensures.same)
    (inserted c.self.inside.terms.entries c.insert.new.self.entries
    (record { number = c.args.id; sort = c.args.sort }) c.in_ok-term.term c.in_ok-insert.ensures.updates.0)

pub invariant_of-self-2 : goal.invariant_of-self-2
invariant_of-self-2 c =
    bound_sorts (map bound_of c.self.inside.terms.entries) (map bound_of c.insert.new.self.entries) c.args.id c.args.sort c.in_ok-term.term
    (inserted c.self.inside.terms.entries c.insert.new.self.entries
    (record { number = c.args.id; sort = c.args.sort }) c.in_ok-term.term c.in_ok-insert.ensures.updates.0)
    (ap sort_of c.in_ok-term.ensures.same ∙ c.requires)
    c.self.invariant
