use Rattle.std.proofs.Common.{List, map, refl, sym, subst, ap, IfOk}
use Rattle.circ_term.specs.Tree.{Tree}
use Rattle.circ_theory.specs.Rewriting.{named}
use Rattle.circ_nodes.specs.Named.{tree_at}
use Rattle.circ_shared.specs.Patterns.{goal_at}
use Rattle.circ_shared.specs.Settings.{table_at}
use Rattle.circ_shared.specs.Usage.{OfUse, GivesRewriting}
use Rattle.circ_shared.proofs.usage.Sources.by_pattern.Goals as goal

pub by_sides-requires-clause-variables : goal.by_sides-requires-clause-variables
by_sides-requires-clause-variables c = c.if-is_plain.ensures.variables refl

pub by_sides-requires-clause-conditions : goal.by_sides-requires-clause-conditions
by_sides-requires-clause-conditions c = c.if-is_plain.ensures.conditions refl

pub returns-then-is_plain-clause-exact : goal.returns-then-is_plain-clause-exact
returns-then-is_plain-clause-exact c =
    let nodes = c.args.nodes.now in
    let P : List Tree → Type 0 = λ ts. IfOk c.by_sides.result (OfUse c.by_sides.new.nodes (GivesRewriting (goal_at nodes c.args.pattern.now) c.args.way c.args.path.now ts (tree_at nodes c.args.term))) in
    subst P (sym (ap (map (named (table_at nodes c.args.self.now))) (c.if-is_plain.ensures.terms refl))) c.by_sides.ensures.exact
