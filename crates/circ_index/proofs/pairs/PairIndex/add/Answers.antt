use Rattle.std.proofs.Common.{◌∷◌, [], length, arith, ap}
use Rattle.std.proofs.lemmas.List.{length-append}
use Rattle.circ_term.specs.Tree.{Tree}
use Rattle.circ_index.proofs.pairs.PairIndex.add.Goals as goal

pub add_pair-requires : goal.add_pair-requires
add_pair-requires c =
    let x = c.self.inside in
    (x.pairs.items, c.self.invariant.has, omega (arith, c.requires, ap length c.self.view_is))

pub invariant_of-self-in-Ok : goal.invariant_of-self-in-Ok
invariant_of-self-in-Ok c =
    let x = c.self.inside in
    let pair : Tree × Tree = (c.args.left.now, c.args.right.now) in
    rw (c.in_ok-push.ensures.items, c.in_ok-share.ensures.same, c.in_ok-share-2.ensures.same) (record {
      has = c.in-Ok.ensures.added x.pairs.items c.self.invariant.has;
      few = omega (arith, c.requires, ap length c.self.view_is, length-append x.pairs.items (pair ∷ []));
    })
