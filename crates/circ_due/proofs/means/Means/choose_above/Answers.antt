use Rattle.std.proofs.Common.{sym, ◌∙◌}
use Rattle.circ_nodes.specs.Named.{tree_at}
use Rattle.circ_nodes.proofs.Located.{tree_named}
use Rattle.circ_due.proofs.Chosen.{chosen_assumed, not_assumed}
use Rattle.circ_due.proofs.means.Means.choose_above.Goals as goal

pub choose_besides_above-requires-clause-none : goal.choose_besides_above-requires-clause-none
choose_besides_above-requires-clause-none c =
    not_assumed c.args.nodes.now c.args.self.now c.args.number (tree_at c.args.nodes.now c.args.number) c.known.ensures.once c.requires.ready
    (tree_named c.args.nodes.now c.args.number c.requires.there) (sym c.assumed_at.ensures ∙ c.in-None.is)

pub returns-in-Some-clause-chosen : goal.returns-in-Some-clause-chosen
returns-in-Some-clause-chosen c = λ t named.
    let h = chosen_assumed c.args.nodes.now c.args.self.now c.args.number t c.in-Some.choice c.requires.ready named (sym c.assumed_at.ensures ∙ c.in-Some.is) in
    (h.0, h.2)

pub returns-in-Some-clause-exact : goal.returns-in-Some-clause-exact
returns-in-Some-clause-exact c = λ t named _.
    chosen_assumed c.args.nodes.now c.args.self.now c.args.number t c.in-Some.choice c.requires.ready named (sym c.assumed_at.ensures ∙ c.in-Some.is)
