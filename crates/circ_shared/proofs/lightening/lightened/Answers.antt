use Rattle.std.proofs.Common.{drop, sym}
use Rattle.std.proofs.lemmas.List.{take-append-drop}
use Rattle.circ_nodes.proofs.Located.{tree_named}
use Rattle.circ_shared.proofs.lightening.lightened.Goals as goal

pub returns-then-len-room-clause-grows : goal.returns-then-len-room-clause-grows
returns-then-len-room-clause-grows c = (drop c.args.count c.args.nodes.now, sym (take-append-drop c.args.count c.args.nodes.now))

pub returns-then-len-room-clause-named : goal.returns-then-len-room-clause-named
returns-then-len-room-clause-named c = tree_named c.args.nodes.now c.args.number c.requires.there
