use Rattle.std.proofs.Common.{List, ap, subst, ◌∙◌, arith}
use Rattle.circ_special.specs.declared.place.Place.{Place}
use Rattle.circ_contexts.specs.Candidates.{Passes, places_of}
use Rattle.circ_plain_search.specs.Keeps.{Keeps}
use Rattle.circ_contexts.proofs.Dropping.{stands_next, stands_last, is_set}
use Rattle.circ_contexts.proofs.candidates.Means.greatest.Goals as goal

pub set_of-requires : goal.set_of-requires
set_of-requires c =
    let th = c.args.self.now.theory.now in
    rw c.as_slice.ensures.value (is_set th c.args.self.now.budget c.loop-before.left.items c.loop-before.invariant.stands)

pub loop-before-preserved : goal.loop-before-preserved
loop-before-preserved c =
    let th = c.args.self.now.theory.now in
    let b = c.args.self.now.budget in
    let cs = c.loop-before.left.items in
    let ds = c.narrow.new.candidates.items in
    let P : List Place → Type 0 = λ G. Keeps (Passes G) cs ds in
    let k : Keeps (Passes (places_of cs)) cs ds = subst P (c.in_ok-gamma.ensures ∙ ap places_of c.as_slice.ensures.value) c.narrow.ensures in
    record {
      stands = stands_next th b cs ds c.loop-before.invariant.stands k;
      done = λ h. stands_last th b cs ds c.loop-before.invariant.stands k (omega (arith, h, c.len-before-in-loop-before.ensures));
    }
