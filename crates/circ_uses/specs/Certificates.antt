-- The certificates of a proof, with the terms of its table.
use Rattle.std.specs.Prelude.{ℕ, List, map}
use Rattle.std.specs.Global.{Vec}
use Rattle.circ_term.specs.Tree.{Tree}
use Rattle.circ_proof.specs.Plain.{LinkOf, plain_links}
use Rattle.circ_proof.specs.Link.{resolved_links}
use Rattle.circ_proof.specs.declared.links.Link.{Link}

abbrev pub lists_in : (table : List Tree) → List (Vec (Link ℕ)) → List (List (LinkOf Tree))
lists_in table cs = map (λ ls. resolved_links table (plain_links ls.items)) cs
