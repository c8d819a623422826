use Rattle.std.proofs.Common.{map}
use Rattle.circ_nodes.specs.Named.{tree_at}
use Rattle.circ_nodes.proofs.Located.{named_tree}
use Rattle.circ_nodes.proofs.Numbers.{all_below, named_below}
use Rattle.circ_theory.specs.Variables.{numbered}
use Rattle.circ_theory.specs.Fresh.{parameter_sorts}
use Rattle.circ_steps.proofs.Numbering.{fits_numbered}
use Rattle.circ_steps.proofs.Deriving.{giving, made_for, interns_derived}
use Rattle.circ_steps.proofs.derive.instance_on.Goals as goal

pub give-requires-clause-variables : goal.give-requires-clause-variables
give-requires-clause-variables c =
    rw c.as_slice.ensures.value (all_below c.args.nodes.now c.args.derivative.now.params.items _ c.requires.fits.1.params)

pub unreachable-requires : goal.unreachable-requires
unreachable-requires c =
    let f = c.requires.fits in
    let said = rw c.in-false.is at (c.in_ok-give.ensures (numbered 1 (parameter_sorts f.0)) (rw c.as_slice.ensures.value f.1.params)) in
    said (fits_numbered 1 (map (tree_at c.args.nodes.now) c.args.params.now) (parameter_sorts f.0) f.2.parameters)

pub instance-requires-clause-there : goal.instance-requires-clause-there
instance-requires-clause-there c = named_below c.args.nodes.now c.args.derivative.now.body c.requires.fits.0.body c.requires.fits.1.body

pub instance-requires-clause-made : goal.instance-requires-clause-made
instance-requires-clause-made c =
    let f = c.requires.fits in
    let nodes = c.args.nodes.now in
    let ts = map (tree_at nodes) c.args.params.now in
    let said = rw c.in-true.is at (c.in_ok-give.ensures (numbered 1 (parameter_sorts f.0)) (rw c.as_slice.ensures.value f.1.params)) in (
      giving f.0 (tree_at nodes c.args.term) ts,
      made_for nodes c.known.ensures.once f.0 c.args.derivative.now f.1 c.args.term c.requires.term c.known_at.ensures.within ts
          c.give.new.made.entries c.insert.new.self.entries said.1 c.in_ok-insert.ensures.updates.0,
    )

pub returns-clause-interns : goal.returns-clause-interns
returns-clause-interns c = λ d is fit.
    let nodes = c.args.nodes.now in
    let ts = map (tree_at nodes) c.args.params.now in
    let body = c.args.derivative.now.body in
    let said = rw c.in-true.is at (c.in_ok-give.ensures (numbered 1 (parameter_sorts d)) (rw c.as_slice.ensures.value is.params)) in
    let made = made_for nodes c.known.ensures.once d c.args.derivative.now is c.args.term c.requires.term c.known_at.ensures.within ts
    c.give.new.made.entries c.insert.new.self.entries said.1 c.in_ok-insert.ensures.updates.0 in
    interns_derived d (tree_at nodes c.args.term) ts fit.parameters c.instance.new.nodes (tree_at nodes body) (named_tree nodes body d.body is.body) c.instance.result
    (c.instance.ensures.interns (giving d (tree_at nodes c.args.term) ts) made)
