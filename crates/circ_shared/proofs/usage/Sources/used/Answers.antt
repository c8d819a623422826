use Rattle.std.proofs.Common.{ap, ◌∙◌, refl}
use Rattle.circ_theory.specs.Rewriting.{named}
use Rattle.circ_term.specs.Tree.{Tree}
use Rattle.circ_proof.specs.Plain.{LinkOf, Assumption_link, Content_link, plain_link, plain_chains, map_chains}
use Rattle.circ_proof.specs.Link.{Setting}
use Rattle.circ_proof.proofs.Rows.{equation_plain, hypothesis_plain}
use Rattle.circ_nodes.specs.Named.{tree_at}
use Rattle.circ_shared.specs.Settings.{setting_at, table_at}
use Rattle.circ_shared.proofs.Using.{unconditional_used}
use Rattle.circ_shared.proofs.usage.Sources.used.Goals as goal

pub returns-in-Equation-clause-exact : goal.returns-in-Equation-clause-exact
returns-in-Equation-clause-exact c =
    let e = c.in-Equation in
    let table = table_at c.args.nodes.now c.args.self.now in
    let is = ap plain_link e.is ∙ equation_plain e.number e.way e.path e.terms e.conds in
    let h = c.by_equation.ensures.exact c.args.assumptions.now (map_chains (named table) (plain_chains e.conds.items)) in
    rw is (rw (c.as_slice.ensures, c.as_slice-terms.ensures.value) at h)

pub returns-in-Hypothesis-clause-exact : goal.returns-in-Hypothesis-clause-exact
returns-in-Hypothesis-clause-exact c =
    let e = c.in-Hypothesis in
    let table = table_at c.args.nodes.now c.args.self.now in
    let is = ap plain_link e.is ∙ hypothesis_plain e.number e.way e.path e.terms e.conds in
    let h = c.by_hypothesis.ensures.exact c.args.assumptions.now (map_chains (named table) (plain_chains e.conds.items)) in
    rw is (rw (c.as_slice-in-Hypothesis.ensures, c.as_slice-terms-in-Hypothesis.ensures.value) at h)

pub returns-in_ok-made-in-Assumption-clause-exact : goal.returns-in_ok-made-in-Assumption-clause-exact
returns-in_ok-made-in-Assumption-clause-exact c =
    let x = c.in-Assumption in
    let nodes = c.args.nodes.now in
    let s : Setting = setting_at nodes c.args.self.now c.args.assumptions.now in
    let l : LinkOf Tree = Assumption_link x.number x.way x.path.items in
    let h = rw c.as_slice-path.ensures at c.in_ok-made-in-Assumption.ensures.exact in
    rw x.is (unconditional_used c.by_assumption.new.nodes s l (tree_at nodes c.args.term) c.in_ok-made-in-Assumption.made _ refl c.unconditional.ensures h)

pub returns-in_ok-made-in-Content-clause-exact : goal.returns-in_ok-made-in-Content-clause-exact
returns-in_ok-made-in-Content-clause-exact c =
    let x = c.in-Content in
    let nodes = c.args.nodes.now in
    let s : Setting = setting_at nodes c.args.self.now c.args.assumptions.now in
    let l : LinkOf Tree = Content_link x.op x.path.items (named (table_at nodes c.args.self.now) x.new) in
    let h = rw c.as_slice-in-Content.ensures at (c.in_ok-made-in-Content.ensures.exact c.args.assumptions.now) in
    rw x.is (unconditional_used c.by_content.new.nodes s l (tree_at nodes c.args.term) c.in_ok-made-in-Content.made _ refl c.unconditional-in-Content.ensures h)
