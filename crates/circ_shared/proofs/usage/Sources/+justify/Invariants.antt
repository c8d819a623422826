use Rattle.std.proofs.Common.{◌≡◌, ◌↔◌, ◌+◌, ◌*◌}
use Rattle.circ_term.specs.Growing.{Grows}
use Rattle.circ_proof.specs.Plain.{plain_why, plain_whys}
use Rattle.circ_nodes.specs.Named.{tree_at}
use Rattle.circ_replay.proofs.Reasons.{EachFrom, why_depth, whys_depth}
use Rattle.circ_shared.specs.Patterns.{pair_at}
use Rattle.circ_shared.specs.Settings.{setting_at, table_at}
use Rattle.circ_shared.proofs.usage.Sources.+justify.Given as goal

abbrev pub invariant-each_justified-loop-i : goal.invariant-each_justified-loop-i
invariant-each_justified-loop-i l = record {
  grows : Grows l.initial.nodes l.nodes;
  same : l.assumptions.items ≡ l.initial.assumptions.items;
  rest : EachFrom (setting_at l.initial.nodes l.self l.initial.assumptions.items) (pair_at l.initial.nodes l.pair) (tree_at l.initial.nodes l.term) l.constants (table_at l.initial.nodes l.self) l.whys l.i
      ↔ EachFrom (setting_at l.initial.nodes l.self l.initial.assumptions.items) (pair_at l.initial.nodes l.pair) (tree_at l.initial.nodes l.term) l.constants (table_at l.initial.nodes l.self) l.whys 0;
}

abbrev pub decreases-each_justified : goal.decreases-each_justified
decreases-each_justified l = 3 * whys_depth (plain_whys l.whys.now) + 1

abbrev pub decreases-is_justified : goal.decreases-is_justified
decreases-is_justified l = 3 * why_depth (plain_why l.why.now)

abbrev pub decreases-is_split : goal.decreases-is_split
decreases-is_split l = 3 * whys_depth (plain_whys l.whys.now) + 2
