use Rattle.std.proofs.Common.{sym, subst, ◌∙◌}
use Rattle.circ_rewrite.specs.Due.{content_due}
use Rattle.circ_due.specs.Chosen.{Chooses}
use Rattle.circ_nodes.proofs.Located.{named_tree}
use Rattle.circ_due.proofs.Chosen.{not_assumed}
use Rattle.circ_due.proofs.Found.{chosen_first}
use Rattle.circ_due.proofs.means.Means.choose_before_rules.Goals as goal

pub returns-in-Some : goal.returns-in-Some
returns-in-Some c = λ t named.
    chosen_first c.args.nodes.now c.args.self.now c.args.number t c.in-Some.choice c.requires.ready named (sym c.assumed_at.ensures ∙ c.in-Some.is)

pub returns-in-None : goal.returns-in-None
returns-in-None c = λ t named.
    let m = c.args.self.now in
    let nodes = c.args.nodes.now in
    let none = not_assumed nodes m c.args.number t c.known.ensures.once c.requires.ready named (sym c.assumed_at.ensures ∙ c.in-None.is) in
    rw none (subst (λ u. Chooses nodes m u (content_due m.theory.now.signature u) c.content_choice.result) (named_tree nodes c.args.number t named) c.content_choice.ensures)
