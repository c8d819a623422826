use Rattle.std.proofs.Common.{length, slice_index_or}
use Rattle.circ_nodes.specs.Named.{tree_at}
use Rattle.circ_nodes.proofs.Located.{tree_named}
use Rattle.circ_certificates.proofs.Beginning.{below_first, below_next, below_over, below_all}
use Rattle.circ_certificates.proofs.Members.{all_there}
use Rattle.circ_certificates.proofs.guard.Asked.below.Goals as goal
use Rattle.circ_certificates.proofs.guard.Asked.below.Goals.{in-Some+in_ok-push, in_default}

pub loop-body-init : goal.loop-body-init
loop-body-init c = below_first c.args.self.now c.args.place c.args.bodies.now c.new-args.result.items c.new-args.ensures.items

pub arg-requires : goal.arg-requires
arg-requires c = all_there (length c.args.self.now.nodes.now) c.args.bodies.now c.loop-body.body-index c.requires c.loop-body-test.true

pub loop-body-preserved : goal.loop-body-preserved
loop-body-preserved c =
    let a = c.args.self.now in
    let bodies = c.args.bodies.now in
    let at = c.loop-body in
    let i = at.body-index in
    let n = slice_index_or bodies i 0 in
    let there = all_there (length a.nodes.now) bodies i c.requires c.loop-body-test.true in
    let t = tree_at a.nodes.now n in
    let named = tree_named a.nodes.now n there in
    elim c.match-arg.branch [
      | in-Some+in_ok-push w ↦
          rw w.args-is (below_next a c.args.place bodies i w.in-Some.arg at.args.items _ c.loop-body-test.true (w.in-Some.ensures t named) w.in_ok-push.ensures.ok at.invariant)
      | in_default w ↦
          rw w.args-is (below_over a c.args.place bodies i at.args.items c.loop-body-test.true (w.in_default.ensures t named) at.invariant)
    ]

pub returns-clause-there : goal.returns-clause-there
returns-clause-there c = c.loop-body.invariant.there

pub returns-clause-below : goal.returns-clause-below
returns-clause-below c =
    below_all c.args.self.now c.args.place c.args.bodies.now c.loop-body.body-index c.loop-body.args.items c.loop-body-test.false c.loop-body.invariant
