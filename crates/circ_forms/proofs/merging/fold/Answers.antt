use Rattle.std.proofs.Common.{◌<◌, ℕ, List, length, subst, arith}
use Rattle.circ_aci.proofs.Joined.{folded-join}
use Rattle.circ_nodes.proofs.Numbers.{grows_self, grows_length}
use Rattle.circ_nodes.specs.Named.{tree_at}
use Rattle.circ_forms.specs.Named.{trees_at, AreThere}
use Rattle.circ_forms.proofs.Folded.{there_push, folding_next, folding_fault}
use Rattle.circ_forms.proofs.merging.fold.Goals as goal

pub loop-part-preserved : goal.loop-part-preserved
loop-part-preserved c =
    folding_next c.args.nodes.now c.loop-part.nodes c.on_two.new.nodes c.args.op c.args.sort c.loop-part.parts.items c.pop.new.self.items c.in-Some.part
    c.loop-part.joined c.in-Ok.number c.args.parts.items c.args.last c.loop-part.invariant c.in-Some.ensures.items c.in-Ok.ensures.grows c.in-Ok.ensures.interns.0

pub returns-in-Err-clause-interns : goal.returns-in-Err-clause-interns
returns-in-Err-clause-interns c =
    folding_fault c.args.nodes.now c.loop-part.nodes c.args.op c.args.sort c.loop-part.parts.items c.pop.new.self.items c.in-Some.part
    c.loop-part.joined c.args.parts.items c.args.last c.in-Err.fault c.loop-part.invariant c.in-Some.ensures.items c.in-Err.ensures.interns

pub loop-part-init : goal.loop-part-init
loop-part-init c = record {
  grows = grows_self c.args.nodes.now;
  below = c.requires.below;
  within = rw c.as_slice.ensures.value at c.known.ensures;
  there = c.requires.last;
  same = folded-join c.args.op c.args.sort (trees_at c.args.nodes.now c.args.parts.items) (tree_at c.args.nodes.now c.args.last);
}

pub on_two-requires-clause-first : goal.on_two-requires-clause-first
on_two-requires-clause-first c =
    let start = c.args.nodes.now in
    let P : List ℕ → Type 0 = AreThere start in
    let there = there_push start c.pop.new.self.items c.in-Some.part (subst P c.in-Some.ensures.items c.loop-part.invariant.below) in
    let part : c.in-Some.part < length start = there.1 in
    let more = grows_length start c.loop-part.nodes c.loop-part.invariant.grows in
    omega arith
