use Rattle.std.proofs.Common.{IsTrue, map, sym, ◌∙◌, rules}
use Rattle.std.proofs.lemmas.Option.{same_Some}
use Rattle.circ_theory.specs.Rewriting.{named}
use Rattle.circ_proof.specs.Plain.{Hypothesis_link}
use Rattle.circ_nodes.specs.Named.{tree_at}
use Rattle.circ_shared.specs.Usage.{Uses, GivesRewriting}
use Rattle.circ_shared.specs.Patterns.{goal_at, IsPattern}
use Rattle.circ_shared.specs.Settings.{setting_at, table_at}
use Rattle.circ_shared.proofs.Using.{if_of_use, listed_map, unlisted_map, all_listed, hypothesis_used, unspecial}
use Rattle.circ_shared.proofs.usage.Sources.by_hypothesis.Goals as goal

pub returns-in_default-clause-exact : goal.returns-in_default-clause-exact
returns-in_default-clause-exact c = λ ss cs u leads.
    let nodes = c.args.nodes.now in
    let none = unlisted_map (goal_at nodes) c.args.self.now.hyps.now c.args.number (sym c.in_default.ensures) in
    absurd (let z = sym none ∙ leads.0.listed in cc)

pub may_use-requires-clause-left : goal.may_use-requires-clause-left
may_use-requires-clause-left c =
    (all_listed (IsPattern c.args.nodes.now) c.args.self.now.hyps.now c.args.number c.in-Some.hypothesis.now c.requires.shared.hypotheses (sym c.in-Some.ensures)).there.0

pub by_pattern-requires-clause-pattern : goal.by_pattern-requires-clause-pattern
by_pattern-requires-clause-pattern c =
    all_listed (IsPattern c.args.nodes.now) c.args.self.now.hyps.now c.args.number c.in-Some.hypothesis.now c.requires.shared.hypotheses (sym c.in-Some.ensures)

pub returns-then-not-may_use-clause-exact : goal.returns-then-not-may_use-clause-exact
returns-then-not-may_use-clause-exact c = λ ss cs u leads.
    let nodes = c.args.nodes.now in
    let self = c.args.self.now in
    let p = c.in-Some.hypothesis.now in
    let there = listed_map (goal_at nodes) self.hyps.now c.args.number p (sym c.in-Some.ensures) in
    let is = same_Some (goal_at nodes p) leads.0.hypothesis (sym there ∙ leads.0.listed) in
    let may = c.may_use.ensures.1 (unspecial (setting_at nodes self ss) (tree_at nodes c.args.term) c.args.path.now leads.0.hypothesis (goal_at nodes p) (sym is) leads.0.special) in
    absurd (let z = may in cc)

pub returns-clause-exact : goal.returns-clause-exact
returns-clause-exact c = λ ss cs.
    let nodes = c.args.nodes.now in
    let self = c.args.self.now in
    let s = setting_at nodes self ss in
    let t = tree_at nodes c.args.term in
    let ts = map (named (table_at nodes self)) c.args.terms.now in
    let p = c.in-Some.hypothesis.now in
    let there = listed_map (goal_at nodes) self.hyps.now c.args.number p (sym c.in-Some.ensures) in
    let may : IsTrue c.may_use.result = search rules in
    if_of_use c.by_pattern.new.nodes (GivesRewriting (goal_at nodes p) c.args.way c.args.path.now ts t) (Uses s (Hypothesis_link c.args.number c.args.way c.args.path.now ts cs) t)
    (hypothesis_used s c.args.number (goal_at nodes p) c.args.way c.args.path.now ts t cs there (c.may_use.ensures.0 may)) c.by_pattern.result c.by_pattern.ensures.exact
