use Rattle.std.proofs.Common.{◌≡◌, drop}
use Rattle.std.specs.List.{list_all}
use Rattle.circ_numbering.specs.Plain.{plain_term_certificates}
use Rattle.circ_conditional_search.specs.Versions.{is_plain_link}
use Rattle.circ_search.proofs.versions.are_plain_certificates.Given as goal

abbrev pub invariant-loop-links : goal.invariant-loop-links
invariant-loop-links l =
    list_all (list_all is_plain_link) (plain_term_certificates (drop l.links-index l.certificates)) ≡ list_all (list_all is_plain_link) (plain_term_certificates l.certificates)
