use Rattle.std.proofs.Common.{◌≡◌, map, ◌++◌}
use Rattle.circ_plain_search.specs.Joining.{use_link}
use Rattle.circ_proof.specs.Plain.{plain_links}
use Rattle.circ_join.specs.Uses.{plain_uses}
use Rattle.circ_join.proofs.uses.use_links.Given as goal

abbrev pub invariant-loop-one : goal.invariant-loop-one
invariant-loop-one l = plain_links l.links.items ++ map use_link (plain_uses l.one-iterator.rest.items) ≡ map use_link (plain_uses l.fn.uses.items)
