use Rattle.std.proofs.Common.{subst}
use Rattle.circ_term.specs.Limits.{first_limit, Names}
use Rattle.circ_term.specs.Subst.{substitution_of}
use Rattle.circ_term.specs.Substitution.{instance}
use Rattle.circ_theory.specs.Pairs.{plain_pair}
use Rattle.circ_nodes.proofs.Numbers.{named_later}
use Rattle.circ_due.specs.Bounds.{bounds_in}
use Rattle.circ_due.proofs.Givens.{bounds_later, are_bound_later}
use Rattle.circ_tries.proofs.Holding.{left_hinders, right_hinders}
use Rattle.circ_tries.proofs.Rooting.{IsNamedWithin}
use Rattle.circ_tries.proofs.making.build_sides.Goals as goal

pub returns-in-Err-clause-builds : goal.returns-in-Err-clause-builds
returns-in-Err-clause-builds c = λ f k rest.
    let σ = substitution_of (bounds_in c.args.nodes.now c.args.given.now) in
    rw c.rewrite_fault.ensures (left_hinders f σ (plain_pair c.args.cond.now) k rest c.in-Err.fault c.in-Err.ensures.interns)

pub instance-requires-2 : goal.instance-requires-2
instance-requires-2 c = record { bound = are_bound_later c.args.nodes.now c.instance.new.nodes c.args.given.now c.instance.ensures.grows c.requires.bound }

pub returns-in-Err-instance-clause-builds : goal.returns-in-Err-instance-clause-builds
returns-in-Err-instance-clause-builds c = λ f k rest.
    let old = c.args.nodes.now in
    let σ = substitution_of (bounds_in old c.args.given.now) in
    let p = plain_pair c.args.cond.now in
    let same = bounds_later old c.instance.new.nodes c.args.given.now c.instance.ensures.grows c.requires.bound in
    let names = subst (λ bs. Names c.in-Err-instance.fault (first_limit (instance (substitution_of bs) p.right))) same c.in-Err-instance.ensures.interns in
    rw c.rewrite_fault-in-Err-instance.ensures (right_hinders f σ p k rest c.in-Err-instance.fault c.in-Ok.ensures.interns.1 names)

pub returns-in-Ok-instance-clause-builds : goal.returns-in-Ok-instance-clause-builds
returns-in-Ok-instance-clause-builds c =
    let old = c.args.nodes.now in
    let one = c.instance.new.nodes in
    let two = c.instance-2.new.nodes in
    let p = plain_pair c.args.cond.now in
    let left = c.in-Ok.ensures.interns in
    let same = bounds_later old one c.args.given.now c.instance.ensures.grows c.requires.bound in (
      (named_later one two c.in-Ok.left (instance (substitution_of (bounds_in old c.args.given.now)) p.left) c.instance-2.ensures.grows left.0, left.1),
      subst (λ bs. IsNamedWithin two c.in-Ok-instance.right (instance (substitution_of bs) p.right)) same c.in-Ok-instance.ensures.interns,
    )
