use Rattle.std.proofs.Common.{◌≡◌, ◌+◌, ◌*◌, drop}
use Rattle.circ_term.specs.Tree.{trees_of, depth_of, depths_of}
use Rattle.circ_match.specs.Matcher.{have_variable}
use Rattle.circ_uses.proofs.by.+numbered_in.Given as goal

abbrev pub decreases-numbered_in : goal.decreases-numbered_in
decreases-numbered_in l = 2 * depth_of l.term.now

abbrev pub decreases-numbered_in_all : goal.decreases-numbered_in_all
decreases-numbered_in_all l = 2 * depths_of (trees_of l.terms.now) + 1

abbrev pub invariant-numbered_in_all-loop-term : goal.invariant-numbered_in_all-loop-term
invariant-numbered_in_all-loop-term l =
    have_variable (trees_of (drop l.term-index l.terms)) l.number l.sort ≡ have_variable (trees_of l.terms) l.number l.sort
