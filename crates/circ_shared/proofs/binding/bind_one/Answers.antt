use Rattle.std.proofs.Common.{ap, sym, ◌∙◌}
use Rattle.circ_term.specs.Tree.{sort_of}
use Rattle.circ_theory.specs.Variables.{given}
use Rattle.circ_nodes.specs.Named.{tree_at}
use Rattle.circ_nodes.proofs.Located.{named_tree, tree_named}
use Rattle.circ_shared.proofs.Giving.{given_put}
use Rattle.circ_shared.proofs.binding.bind_one.Goals as goal

pub returns : goal.returns
returns c = λ v vs ts named_v so_far.
    let nodes = c.args.nodes.now in
    let variable = named_tree nodes c.args.variable _ named_v in (
      (sym c.sort.ensures ∙ c.if-sort.false ∙ c.sort-2.ensures ∙ ap sort_of variable, so_far.0),
      given_put (given vs ts) v (tree_at nodes c.args.to) nodes c.known.ensures.once c.args.variable c.args.to named_v (tree_named nodes c.args.to c.requires.to)
          c.known_at.ensures.within c.args.made.now.entries c.insert.new.self.entries so_far.1 c.in_ok-insert.ensures.updates.0,
    )
