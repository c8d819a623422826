use Rattle.std.proofs.Common.{sym, ◌∙◌}
use Rattle.circ_nodes.specs.Named.{tree_at}
use Rattle.circ_nodes.proofs.Numbers.{named_below}
use Rattle.circ_term.specs.Tree.{Var}
use Rattle.circ_certificates.proofs.Beginning.{other_hole, uncounted, counted}
use Rattle.circ_certificates.proofs.guard.Asked.begins.Goals as goal

pub sort-requires : goal.sort-requires
sort-requires c =
    let x = c.requires.derivative in named_below c.args.self.now.nodes.now c.args.derivative.now.hole (Var 0 x.0.hole) x.1.hole

pub returns-then-sort-self : goal.returns-then-sort-self
returns-then-sort-self c = λ d is.
    other_hole c.args.self.now c.args.is_special (tree_at c.args.self.now.nodes.now c.args.term) d c.args.derivative.now is c.sort.result c.sort.ensures c.if-sort-self.true

pub sort-requires-2 : goal.sort-requires-2
sort-requires-2 c = let x = c.requires.derivative in named_below c.args.self.now.nodes.now c.args.derivative.now.body x.0.body x.1.body

pub returns-then-not-counts : goal.returns-then-not-counts
returns-then-not-counts c = λ d is.
    uncounted c.args.self.now c.args.is_special (tree_at c.args.self.now.nodes.now c.args.term) d c.args.derivative.now is c.sort.result c.sort-2.result c.sort.ensures
    c.if-sort-self.false c.sort-2.ensures (sym c.counts.ensures ∙ c.if-not-counts.true)

pub fits-requires-clause-body : goal.fits-requires-clause-body
fits-requires-clause-body c = let x = c.requires.derivative in named_below c.args.self.now.nodes.now c.args.derivative.now.body x.0.body x.1.body

pub returns : goal.returns
returns c = λ d is.
    counted c.args.self.now c.args.is_special (tree_at c.args.self.now.nodes.now c.args.term) d c.args.derivative.now is c.sort.result c.sort-2.result c.sort.ensures
    c.if-sort-self.false c.sort-2.ensures (sym c.counts.ensures ∙ c.if-not-counts.false) c.fits.result c.fits.ensures
