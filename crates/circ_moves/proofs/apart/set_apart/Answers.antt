use Rattle.std.proofs.Common.{◌≡◌, ◌+◌, ◌++◌, [], drop, ap, sym, ◌∙◌, arith}
use Rattle.std.proofs.lemmas.List.{drop_all}
use Rattle.circ_content_join.specs.Apart.{apart, set_aside}
use Rattle.circ_moves.proofs.SetAside.{beside, walk_left, walk_both, walk_right, rises_on, none_left, none_right, walk_ends}
use Rattle.circ_moves.proofs.apart.set_apart.Goals.{then-loop-i-test+else-j-ys, else-loop-i-test}
use Rattle.circ_moves.proofs.apart.set_apart.Goals as goal

pub loop-i-preserved-in-Less : goal.loop-i-preserved-in-Less
loop-i-preserved-in-Less c =
    let l = c.loop-i in
    let xs = c.args.xs.now in
    let ys = c.args.ys.now in
    let d = set_aside (drop (l.i + 1) xs) (drop l.j ys) in
    record {
      left = rises_on xs l.i c.index-xs-i.result c.loop-i-test.true c.index-xs-i.is l.invariant.left;
      right = l.invariant.right;
      walk = ap (λ zs. beside (apart l.both.items zs l.right.items) d) c.in_ok-share_to-in-Less.ensures.put
          ∙ walk_left (apart l.both.items l.left.items l.right.items) xs ys l.i l.j c.index-xs-i.result c.index-ys-j.result c.loop-i-test.true c.if-j-ys.true
          c.index-xs-i.is c.index-ys-j.is (sym c.cmp.ensures ∙ c.in-Less.is) l.invariant.right
          ∙ l.invariant.walk;
    }

pub loop-i-preserved-in-Equal : goal.loop-i-preserved-in-Equal
loop-i-preserved-in-Equal c =
    let l = c.loop-i in
    let xs = c.args.xs.now in
    let ys = c.args.ys.now in
    let d = set_aside (drop (l.i + 1) xs) (drop (l.j + 1) ys) in
    record {
      left = rises_on xs l.i c.index-xs-i.result c.loop-i-test.true c.index-xs-i.is l.invariant.left;
      right = rises_on ys l.j c.index-ys-j.result c.if-j-ys.true c.index-ys-j.is l.invariant.right;
      walk = ap (λ zs. beside (apart zs l.left.items l.right.items) d) c.in_ok-share_to-in-Equal.ensures.put
          ∙ walk_both (apart l.both.items l.left.items l.right.items) xs ys l.i l.j c.index-xs-i.result c.index-ys-j.result c.loop-i-test.true c.if-j-ys.true
          c.index-xs-i.is c.index-ys-j.is (sym c.cmp.ensures ∙ c.in-Equal.is)
          ∙ l.invariant.walk;
    }

pub loop-i-preserved : goal.loop-i-preserved
loop-i-preserved c =
    let l = c.loop-i in
    let xs = c.args.xs.now in
    let ys = c.args.ys.now in
    let d = set_aside (drop l.i xs) (drop (l.j + 1) ys) in
    record {
      left = l.invariant.left;
      right = rises_on ys l.j c.index-ys-j.result c.if-j-ys.true c.index-ys-j.is l.invariant.right;
      walk = ap (λ zs. beside (apart l.both.items l.left.items zs) d) c.in_ok-share_to-in-Greater.ensures.put
          ∙ walk_right (apart l.both.items l.left.items l.right.items) xs ys l.i l.j c.index-xs-i.result c.index-ys-j.result c.loop-i-test.true c.if-j-ys.true
          c.index-xs-i.is c.index-ys-j.is (sym c.cmp.ensures ∙ c.in-Greater.is) l.invariant.left
          ∙ l.invariant.walk;
    }

pub returns : goal.returns
returns c =
    let l = c.loop-i in
    let xs = c.args.xs.now in
    let ys = c.args.ys.now in
    let ends : set_aside (drop l.i xs) (drop l.j ys) ≡ apart [] (drop l.i xs) (drop l.j ys) =
    elim c.loop-i-test.branch [
      | then-loop-i-test+else-j-ys w ↦ none_right (drop l.i xs) (drop l.j ys) (drop_all l.j ys (omega (arith, w.if-j-ys.false)))
      | else-loop-i-test w ↦ none_left (drop l.i xs) (drop l.j ys) (drop_all l.i xs (omega (arith, w.loop-i-test.false)))
    ] in
    ap (λ zs. apart l.both.items zs c.share_from-2.new.list.items) c.in_ok-share_from.ensures
    ∙ ap (λ zs. apart l.both.items (l.left.items ++ drop l.i xs) zs) c.in_ok-share_from-2.ensures
    ∙ walk_ends (apart l.both.items l.left.items l.right.items) (drop l.i xs) (drop l.j ys) (set_aside xs ys) ends l.invariant.walk
