use Rattle.std.proofs.Common.{◌≡◌, ◌+◌, ◌-◌, ap, subst, arith, length}
use Rattle.circ_term.specs.Tree.{depth_of, trees_of}
use Rattle.circ_term.proofs.Within.{depth_at}
use Rattle.circ_nodes.specs.Named.{tree_at}
use Rattle.circ_nodes.proofs.Building.{there_read}
use Rattle.circ_nodes.proofs.Comparing.{AgreeTo, same_variable, same_application, agree_more, agree_all}
use Rattle.circ_nodes.proofs.Located.{tree_named}
use Rattle.circ_nodes.proofs.Numbers.{all_below}
use Rattle.circ_nodes.proofs.nodes.Nodes.+is_term.Goals as goal

pub is_term-returns-else-id_sort-own_sort : goal.is_term-returns-else-id_sort-own_sort
is_term-returns-else-id_sort-own_sort t c = λ z.
    let both = c.in-Variable-Variable in
    same_variable c.args.self.now c.args.number both.id both.id_sort both.own both.own_sort c.args.term.now c.requires both.ensures.shape both.ensures'.value (cc) (cc)

pub is_term-are_terms-requires : goal.is_term-are_terms-requires
is_term-are_terms-requires t c =
    let nodes = c.args.self.now in
    let both = c.in-Application-Application in
    let shape = both.ensures.shape (tree_at nodes c.args.number) (tree_named nodes c.args.number c.requires) in
    (omega (arith, ap depth_of both.ensures'.value), all_below nodes both.args.now shape.0 shape.2)

pub is_term-returns-else-sort-other_sort : goal.is_term-returns-else-sort-other_sort
is_term-returns-else-sort-other_sort t c = λ z.
    let both = c.in-Application-Application in
    same_application c.args.self.now c.args.number both.op both.sort both.other both.other_sort both.args.now (trees_of both.terms.now) c.args.term.now
    c.requires both.ensures.shape both.ensures'.value (cc) (cc) (c.are_terms.ensures z)

pub are_terms-loop-i-init : goal.are_terms-loop-i-init
are_terms-loop-i-init t c = λ h. h

pub are_terms-is_term-requires : goal.are_terms-is_term-requires
are_terms-is_term-requires t c =
    let below = depth_at c.args.terms.now c.loop-i.i c.index-terms-i.result (omega arith) c.index-terms-i.is in
    (omega (arith, below), there_read c.args.self.now c.args.numbers.now c.loop-i.i c.requires (omega arith))

pub are_terms-loop-i-preserved : goal.are_terms-loop-i-preserved
are_terms-loop-i-preserved t c =
    agree_more c.args.self.now c.args.numbers.now c.args.terms.now c.loop-i.i c.index-terms-i.result (omega arith) (omega arith) c.index-terms-i.is
    (c.is_term.ensures c.if-not-is_term.false) c.loop-i.invariant

pub are_terms-is_term-requires-2 : goal.are_terms-is_term-requires-2
are_terms-is_term-requires-2 t c =
    let last = length c.args.terms.now - 1 in
    let below = depth_at c.args.terms.now last c.index-terms-last.result (omega arith) c.index-terms-last.is in
    (omega (arith, below), there_read c.args.self.now c.args.numbers.now last c.requires (omega arith))

pub are_terms-returns : goal.are_terms-returns
are_terms-returns t c = λ z.
    let nodes = c.args.self.now in
    let ns = c.args.numbers.now in
    let ts = c.args.terms.now in
    let last = length ts - 1 in
    let at : c.loop-i.i ≡ last = omega arith in
    let so_far = subst (AgreeTo nodes ns ts) at c.loop-i.invariant in
    let all = agree_more nodes ns ts last c.index-terms-last.result (omega arith) (omega arith) c.index-terms-last.is (c.is_term-2.ensures z) so_far in
    agree_all nodes ns ts (last + 1) (omega arith) (omega arith) all
