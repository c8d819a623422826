use Rattle.std.proofs.Common.{◌≡◌, ◌+◌, ◌++◌, List, arith, ap, ◌∙◌}
use Rattle.circ_term.specs.Tree.{Tree, trees_of}
use Rattle.circ_rules.proofs.Starting.{args_left, left_start}
use Rattle.circ_uses.proofs.starting.start_args.Goals as goal

pub loop-i-init : goal.loop-i-init
loop-i-init c =
    let i = c.args.arg in
    let ss = c.args.sorts.now in
    let n : i ≡ 0 + i = omega arith in
    let left : List Tree = args_left i 0 1 ss in
    record {
      made = ap (λ ts. trees_of (ts ++ left)) c.in_ok-args.ensures.items ∙ ap (λ m. trees_of (args_left m 0 1 ss)) n ∙ left_start i 0 1 ss;
      small = omega arith;
    }
