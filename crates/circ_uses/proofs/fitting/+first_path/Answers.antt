use Rattle.std.proofs.Common.{arith, ap, length}
use Rattle.circ_term.specs.Tree.{args_of, depth_of}
use Rattle.circ_term.proofs.Trees.{list_of-trees_of}
use Rattle.circ_term.proofs.Within.{depth_at}
use Rattle.circ_uses.proofs.fitting.+first_path.Goals as goal

pub first_path-first_path_in-requires : goal.first_path-first_path_in-requires
first_path-first_path_in-requires t c =
    let deep = ap depth_of c.in-Application.ensures.value in
    let there = ap (λ u. length (args_of u)) c.in-Application.ensures.value in
    let same = ap length (list_of-trees_of c.in-Application.args.now) in
    (omega (arith, deep), omega (arith, there, same, c.in-Application.ensures.few))

pub first_path_in-first_path-requires : goal.first_path_in-first_path-requires
first_path_in-first_path-requires t c =
    (omega (arith, depth_at c.args.terms.now c.loop-i.i c.index-terms-i.result (omega arith) c.index-terms-i.is), tt)
