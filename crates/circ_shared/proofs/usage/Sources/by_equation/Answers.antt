use Rattle.std.proofs.Common.{map, ap, sym, ◌∙◌}
use Rattle.std.specs.List.{slice_get}
use Rattle.circ_theory.specs.Theory.{goal_of}
use Rattle.circ_theory.specs.Rewriting.{named}
use Rattle.circ_proof.specs.Plain.{Equation_link}
use Rattle.circ_nodes.specs.Named.{tree_at}
use Rattle.circ_shared.specs.Usage.{Uses, GivesRewriting}
use Rattle.circ_shared.specs.Patterns.{goal_at, IsPattern}
use Rattle.circ_shared.specs.Settings.{setting_at, table_at}
use Rattle.circ_shared.proofs.Using.{if_of_use, listed_map, unlisted_map, map_listed, all_listed, equation_used}
use Rattle.circ_shared.proofs.usage.Sources.by_equation.Goals as goal

pub returns-in_default-clause-exact : goal.returns-in_default-clause-exact
returns-in_default-clause-exact c = λ ss cs u leads.
    let self = c.args.self.now in
    let nodes = c.args.nodes.now in
    let none = ap (λ gs. slice_get gs c.args.number) (sym c.requires.shared.equations) ∙ unlisted_map (goal_at nodes) self.equations.now c.args.number (sym c.in_default.ensures) in
    let some = listed_map goal_of self.theory.now.equations c.args.number leads.0.equation leads.0.listed in
    absurd (let z = sym none ∙ some in cc)

pub by_pattern-requires-clause-pattern : goal.by_pattern-requires-clause-pattern
by_pattern-requires-clause-pattern c =
    all_listed (IsPattern c.args.nodes.now) c.args.self.now.equations.now c.args.number c.in-Some.equation.now c.requires.shared.patterns (sym c.in-Some.ensures)

pub returns-clause-exact : goal.returns-clause-exact
returns-clause-exact c = λ ss cs.
    let nodes = c.args.nodes.now in
    let self = c.args.self.now in
    let s = setting_at nodes self ss in
    let t = tree_at nodes c.args.term in
    let ts = map (named (table_at nodes self)) c.args.terms.now in
    let p = c.in-Some.equation.now in
    let there = ap (λ gs. slice_get gs c.args.number) (sym c.requires.shared.equations) ∙ listed_map (goal_at nodes) self.equations.now c.args.number p (sym c.in-Some.ensures) in
    let e = map_listed goal_of self.theory.now.equations c.args.number (goal_at nodes p) there in
    if_of_use c.by_pattern.new.nodes (GivesRewriting (goal_at nodes p) c.args.way c.args.path.now ts t) (Uses s (Equation_link c.args.number c.args.way c.args.path.now ts cs) t)
    (equation_used s c.args.number e.0 (goal_at nodes p) c.args.way c.args.path.now ts t cs e.1 e.2) c.by_pattern.result c.by_pattern.ensures.exact
