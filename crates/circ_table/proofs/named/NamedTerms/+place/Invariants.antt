use Rattle.std.proofs.Common.{◌≡◌, drop}
use Rattle.circ_term.specs.Growing.{Grows}
use Rattle.circ_table.proofs.Naming.{Gathered}
use Rattle.circ_table.proofs.named.NamedTerms.+place.Given as goal

abbrev pub decreases-place : goal.decreases-place
decreases-place l = l.number

abbrev pub invariant-loop-arg : goal.invariant-loop-arg
invariant-loop-arg l = record {
  table : l.self.0 ≡ l.fn.self.0;
  grows : Grows l.fn.self.1 l.self.1;
  gathered : Gathered l.fn.self.0 l.number (drop l.arg-index l.numbers) l.args.items;
}
