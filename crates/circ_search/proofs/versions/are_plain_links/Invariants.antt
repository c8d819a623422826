use Rattle.std.proofs.Common.{◌≡◌, drop}
use Rattle.std.specs.List.{list_all}
use Rattle.circ_proof.specs.Plain.{plain_links}
use Rattle.circ_conditional_search.specs.Versions.{is_plain_link}
use Rattle.circ_search.proofs.versions.are_plain_links.Given as goal

abbrev pub invariant-loop-link : goal.invariant-loop-link
invariant-loop-link l = list_all is_plain_link (plain_links (drop l.link-index l.links)) ≡ list_all is_plain_link (plain_links l.links)
