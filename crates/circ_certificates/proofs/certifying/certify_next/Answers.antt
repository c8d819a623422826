use Rattle.circ_shared.proofs.Cases.{cut_back}
use Rattle.std.proofs.Common.{ap, take, ◌∙◌}
use Rattle.circ_certificates.proofs.certifying.certify_next.Goals as goal

pub certify-answer-requires-clause-places : goal.certify-answer-requires-clause-places
certify-answer-requires-clause-places c = c.requires.places.places

pub returns-clause-same : goal.returns-clause-same
returns-clause-same c =
    cut_back c.args.nodes.now c.certify-answer.new.nodes c.cut.new.self c.certify-answer.ensures.grows
    (c.cut.ensures ∙ ap (λ k. take k c.certify-answer.new.nodes) c.len-count.ensures)
