use Rattle.circ_match.specs.Matcher.{Makes, has_variable}
use Rattle.circ_match.proofs.Patterns.{matcher_of_both}
use Rattle.circ_match.proofs.matching.match_pair.Goals as goal

pub returns : goal.returns
returns c =
    matcher_of_both c.extend.new.subst c.extend-2.new.subst (Makes c.args.left.now c.args.a.now) (Makes c.args.right.now c.args.b.now)
    (has_variable c.args.left.now) (has_variable c.args.right.now) c.known.ensures
    (rw (c.if-not-branch.false, c.new-subst.ensures) at c.in_ok-extend.ensures.makes) (rw c.if-not-branch-2.false at c.in_ok-extend-2.ensures.makes)
    (rw (c.if-not-branch.false, c.new-subst.ensures) at c.in_ok-extend.ensures.binds) (rw c.if-not-branch-2.false at c.in_ok-extend-2.ensures.binds)
