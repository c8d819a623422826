use Rattle.std.proofs.Common.{◌≡◌, ◌≤◌, ◌++◌, ◌+◌, drop}
use Rattle.circ_term.specs.Tree.{trees_of}
use Rattle.circ_proof.specs.Certified.{start_args}
use Rattle.circ_rules.proofs.Starting.{args_left}
use Rattle.circ_uses.proofs.starting.start_args.Given as goal

abbrev pub invariant-loop-i : goal.invariant-loop-i
invariant-loop-i l = record {
  made : trees_of (l.args.items ++ args_left l.arg l.i l.next (drop l.i l.sorts)) ≡ start_args l.arg 1 l.sorts;
  small : l.next ≤ l.i + 1;
}
