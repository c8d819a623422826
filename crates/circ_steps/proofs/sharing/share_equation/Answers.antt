use Rattle.std.proofs.Common.{◌∙◌}
use Rattle.circ_nodes.proofs.Numbers.{grows_more}
use Rattle.circ_shared.specs.declared.patterns.Sides.{Sides}
use Rattle.circ_shared.proofs.Sharing.{are_there_later, there_later, pair_later}
use Rattle.circ_steps.proofs.Entering.{sides_there, equation_seen}
use Rattle.circ_steps.proofs.sharing.share_equation.Goals as goal

pub returns-in_err-left-clause-grows : goal.returns-in_err-left-clause-grows
returns-in_err-left-clause-grows c =
    grows_more c.args.nodes.now c.share_pairs.new.nodes c.intern.new.self c.in_ok-conds.ensures.grows c.intern.ensures.grows

pub returns-in_err-right-clause-grows : goal.returns-in_err-right-clause-grows
returns-in_err-right-clause-grows c =
    let first = grows_more c.args.nodes.now c.share_pairs.new.nodes c.intern.new.self c.in_ok-conds.ensures.grows c.in_ok-left.ensures.grows in
    grows_more c.args.nodes.now c.intern.new.self c.intern-2.new.self first c.intern-2.ensures.grows

pub pattern-requires-clause-conditions : goal.pattern-requires-clause-conditions
pattern-requires-clause-conditions c =
    let g = grows_more c.share_pairs.new.nodes c.intern.new.self c.intern-2.new.self c.in_ok-left.ensures.grows c.in_ok-right.ensures.grows in
    are_there_later c.share_pairs.new.nodes c.intern-2.new.self g c.in_ok-conds.conds.items c.in_ok-conds.ensures.there

pub pattern-requires-clause-sides : goal.pattern-requires-clause-sides
pattern-requires-clause-sides c =
    let e = c.args.equation.now in
    (sides_there c.intern.new.self c.intern-2.new.self c.in_ok-right.ensures.grows c.in_ok-left.left c.in_ok-right.right e.left e.right
    c.in_ok-left.ensures.named c.in_ok-right.ensures.named).0

pub returns-in_err-made-clause-grows : goal.returns-in_err-made-clause-grows
returns-in_err-made-clause-grows c =
    let one = grows_more c.args.nodes.now c.share_pairs.new.nodes c.intern.new.self c.in_ok-conds.ensures.grows c.in_ok-left.ensures.grows in
    let two = grows_more c.args.nodes.now c.intern.new.self c.intern-2.new.self one c.in_ok-right.ensures.grows in
    grows_more c.args.nodes.now c.intern-2.new.self c.pattern.new.nodes two c.pattern.ensures.grows

pub returns-clause-grows : goal.returns-clause-grows
returns-clause-grows c =
    let one = grows_more c.args.nodes.now c.share_pairs.new.nodes c.intern.new.self c.in_ok-conds.ensures.grows c.in_ok-left.ensures.grows in
    let two = grows_more c.args.nodes.now c.intern.new.self c.intern-2.new.self one c.in_ok-right.ensures.grows in
    grows_more c.args.nodes.now c.intern-2.new.self c.pattern.new.nodes two c.in_ok-made.ensures.grows

pub returns-clause-same : goal.returns-clause-same
returns-clause-same c =
    let e = c.args.equation.now in
    let first = c.share_pairs.new.nodes in
    let left = c.intern.new.self in
    let right = c.intern-2.new.self in
    let last = c.pattern.new.nodes in
    let g = c.in_ok-made.ensures.grows in
    let s : Sides = record { left = c.in_ok-left.left; right = c.in_ok-right.right } in
    let sides = sides_there left right c.in_ok-right.ensures.grows s.left s.right e.left e.right c.in_ok-left.ensures.named c.in_ok-right.ensures.named in
    let one = grows_more first left right c.in_ok-left.ensures.grows c.in_ok-right.ensures.grows in
    equation_seen first last (grows_more first right last one g) c.in_ok-made.made c.in_ok-conds.conds.items s e.conds e.left e.right
    c.in_ok-conds.ensures.there (c.in_ok-conds.ensures.same ∙ c.as_slice.ensures) (there_later right last g s sides.0)
    (pair_later right last g s sides.0 ∙ sides.1) c.in_ok-made.ensures.conditions c.in_ok-made.ensures.sides
