use Rattle.std.proofs.Common.{List, sym, subst}
use Rattle.circ_nodes.proofs.Numbers.{grows_self, grows_more}
use Rattle.circ_shared.specs.declared.patterns.Sides.{Sides}
use Rattle.circ_steps.proofs.Entering.{ArePairs, pairs_none, pairs_next, pairs_all, sides_there}
use Rattle.circ_steps.proofs.sharing.share_pairs.Goals as goal

pub loop-pair-init : goal.loop-pair-init
loop-pair-init c =
    let nodes = c.args.nodes.now in
    let P : List Sides → Type 0 = ArePairs c.args.pairs.now nodes 0 in
    record { grows = grows_self nodes; pairs = subst P (sym c.in_ok-shared.ensures.items) (pairs_none c.args.pairs.now nodes) }

pub returns-in_err-left-clause-grows : goal.returns-in_err-left-clause-grows
returns-in_err-left-clause-grows c =
    grows_more c.args.nodes.now c.loop-pair.nodes c.intern.new.self c.loop-pair.invariant.grows c.intern.ensures.grows

pub returns-in_err-right-clause-grows : goal.returns-in_err-right-clause-grows
returns-in_err-right-clause-grows c =
    let first = grows_more c.args.nodes.now c.loop-pair.nodes c.intern.new.self c.loop-pair.invariant.grows c.in_ok-left.ensures.grows in
    grows_more c.args.nodes.now c.intern.new.self c.intern-in-loop-pair.new.self first c.intern-in-loop-pair.ensures.grows

pub returns-in_err-push-clause-grows : goal.returns-in_err-push-clause-grows
returns-in_err-push-clause-grows c =
    let first = grows_more c.args.nodes.now c.loop-pair.nodes c.intern.new.self c.loop-pair.invariant.grows c.in_ok-left.ensures.grows in
    grows_more c.args.nodes.now c.intern.new.self c.intern-in-loop-pair.new.self first c.in_ok-right.ensures.grows

pub loop-pair-preserved : goal.loop-pair-preserved
loop-pair-preserved c =
    let at = c.loop-pair in
    let p = c.pair-item.result in
    let middle = c.intern.new.self in
    let new = c.intern-in-loop-pair.new.self in
    let g = c.in_ok-left.ensures.grows in
    let h = c.in_ok-right.ensures.grows in
    let s : Sides = record { left = c.in_ok-left.left; right = c.in_ok-right.right } in
    let there = sides_there middle new h s.left s.right p.left p.right c.in_ok-left.ensures.named c.in_ok-right.ensures.named in
    record {
      grows = grows_more c.args.nodes.now middle new (grows_more c.args.nodes.now at.nodes middle at.invariant.grows g) h;
      pairs =
          pairs_next c.args.pairs.now at.nodes new (grows_more at.nodes middle new g h) at.pair-index p at.shared.items c.push.new.self.items s
          c.loop-pair-test.true c.pair-item.is there.0 there.1 c.in_ok-push.ensures.items at.invariant.pairs;
    }

pub returns-clause-grows : goal.returns-clause-grows
returns-clause-grows c = c.loop-pair.invariant.grows

pub returns-clause-there : goal.returns-clause-there
returns-clause-there c = c.loop-pair.invariant.pairs.there

pub returns-clause-same : goal.returns-clause-same
returns-clause-same c =
    let at = c.loop-pair in pairs_all c.args.pairs.now at.nodes at.pair-index at.shared.items c.loop-pair-test.false at.invariant.pairs
