use Rattle.std.proofs.Common.{◌≡◌, ◌∙◌, ℕ, sym, ap}
use Rattle.circ_proof.specs.Proof.{Proof}
use Rattle.circ_proof_text.specs.Parts.{Gathered, gathered, gather_all}
use Rattle.circ_file.specs.Decoding.{gathered_of}
use Rattle.circ_file.proofs.decoding.gather.Goals as goal

abbrev proof_in : ℕ → Gathered → Proof
proof_in v g = record { version = v; table = g.table; places = g.places; certificates = g.certificates; blocks = g.blocks }

pub returns-clause-proof : goal.returns-clause-proof
returns-clause-proof c q e f =
    let g = c.loop-part.gathering in
    let none = c.in_default.ensures.queue c.loop-part.invariant.fault in
    let all : gathered_of g ≡ gathered q = sym (ap (gather_all (gathered_of g)) none.0) ∙ c.loop-part.invariant.gathered ∙ e in
    ap (λ t. proof_in g.proof.version (record (gathered_of g) { table = t })) c.in_ok-terms.ensures
    ∙ ap (λ v. proof_in v (gathered_of g)) (c.loop-part.invariant.version ∙ sym f) ∙ ap (proof_in q.version) all

pub returns-clause-table : goal.returns-clause-table
returns-clause-table c = sym c.in_ok-terms.ensures
