use Rattle.std.proofs.Common.{map, sym, subst}
use Rattle.circ_theory.specs.Rewriting.{named}
use Rattle.circ_theory.specs.Variables.{variables_of, sorted, given}
use Rattle.circ_nodes.specs.Named.{AreNamed, tree_at}
use Rattle.circ_nodes.proofs.Numbers.{all_below}
use Rattle.circ_shared.specs.Usage.{GivesUse, GivesRewriting}
use Rattle.circ_shared.specs.Patterns.{variable_trees, goal_at}
use Rattle.circ_shared.specs.Settings.{table_at}
use Rattle.circ_shared.proofs.Giving.{given_made}
use Rattle.circ_shared.proofs.Using.{if_of_use, gives_rewriting, unfit_rewriting, turned_from, turned_to}
use Rattle.circ_shared.proofs.usage.Sources.by_instance.Goals as goal

pub bind-requires-clause-there : goal.bind-requires-clause-there
bind-requires-clause-there c =
    let nodes = c.args.nodes.now in
    let trees = variable_trees (sorted (variables_of (goal_at nodes c.args.pattern.now))) in
    all_below nodes c.as_slice-variables.result.now trees (subst (λ ns. AreNamed nodes ns trees) (sym c.as_slice-variables.ensures.value) c.requires.pattern.variables)

pub returns-then-not-branch-clause-exact : goal.returns-then-not-branch-clause-exact
returns-then-not-branch-clause-exact c =
    let nodes = c.args.nodes.now in
    let g = goal_at nodes c.args.pattern.now in
    let vs = sorted (variables_of g) in
    let ts = map (named (table_at nodes c.args.self.now)) c.args.terms.now in
    let are = subst (λ ns. AreNamed nodes ns (variable_trees vs)) (sym c.as_slice-variables.ensures.value) c.requires.pattern.variables in
    let unfit = rw c.if-not-branch.true at c.in_ok-bind.ensures vs are in
    unfit_rewriting g c.args.way c.args.path.now ts (tree_at nodes c.args.term) unfit

pub use_of-requires-clause-made : goal.use_of-requires-clause-made
use_of-requires-clause-made c =
    let nodes = c.args.nodes.now in
    let vs = sorted (variables_of (goal_at nodes c.args.pattern.now)) in
    let ts = map (named (table_at nodes c.args.self.now)) c.args.terms.now in
    let are = subst (λ ns. AreNamed nodes ns (variable_trees vs)) (sym c.as_slice-variables.ensures.value) c.requires.pattern.variables in
    let bound = rw c.if-not-branch.false at c.in_ok-bind.ensures vs are in
    (given vs ts, given_made (given vs ts) nodes c.bind.new.made.entries bound.1)

pub returns-clause-exact : goal.returns-clause-exact
returns-clause-exact c =
    let nodes = c.args.nodes.now in
    let p = c.args.pattern.now in
    let g = goal_at nodes p in
    let vs = sorted (variables_of g) in
    let ts = map (named (table_at nodes c.args.self.now)) c.args.terms.now in
    let are = subst (λ ns. AreNamed nodes ns (variable_trees vs)) (sym c.as_slice-variables.ensures.value) c.requires.pattern.variables in
    let bound = rw c.if-not-branch.false at c.in_ok-bind.ensures vs are in
    let made = given_made (given vs ts) nodes c.bind.new.made.entries bound.1 in
    let r = c.turned-sides.result in
    let t = tree_at nodes c.args.term in
    if_of_use c.use_of.new.nodes (GivesUse (given vs ts) (tree_at nodes r.from) (tree_at nodes r.to) g.conds c.args.path.now t)
    (GivesRewriting g c.args.way c.args.path.now ts t)
    (gives_rewriting g c.args.way c.args.path.now ts t (tree_at nodes r.from) (tree_at nodes r.to) bound.0
    (turned_from nodes c.args.way p.sides r c.turned-sides.ensures) (turned_to nodes c.args.way p.sides r c.turned-sides.ensures))
    c.use_of.result (rw c.as_slice.ensures.value at (c.use_of.ensures.exact (given vs ts) made))
