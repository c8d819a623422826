-- What contracts see of finished blocks.
use Rattle.std.specs.Prelude.{List, map, Vec}
use Rattle.std.proofs.Common.{Global}
use Rattle.circ_term.specs.Tree.{Tree}
use Rattle.circ_proof.specs.Plain.{LinkOf, plain_links}
use Rattle.circ_plain_search.specs.Search.{ProvedBlock}
use Rattle.circ_proof.specs.PlainProof.{plain_steps}
use Rattle.circ_proof.specs.declared.links.Link.{Link}
use Rattle.circ_numbering.specs.declared.blocks.TermBlock.{TermBlock}

abbrev pub plain_term_block : TermBlock → ProvedBlock
plain_term_block b = record { goals = b.goals.items; steps = plain_steps b.steps.items }

abbrev pub plain_term_blocks : List TermBlock → List ProvedBlock
plain_term_blocks bs = map plain_term_block bs

-- certificates, each of which is a list of links
abbrev pub plain_term_certificates : List (Vec (Link Tree) Global) → List (List (LinkOf Tree))
plain_term_certificates cs = map (λ ls. plain_links ls.items) cs
