use Rattle.std.proofs.Common.{◌≡◌, ◌≤◌, ◌∙◌, ℕ, List, [], map, length, ap, arith}
use Rattle.std.specs.Prelude.{flat_map}
use Rattle.circ_term.specs.Tree.{Tree}
use Rattle.circ_proof.specs.Plain.{LinkOf}
use Rattle.circ_proof.specs.Table.{term_limit}
use Rattle.circ_proof.proofs.Tables.{grows_self}
use Rattle.circ_proof.specs.PlainProof.{plain_block, plain_certificates}
use Rattle.circ_proof.specs.Proof.{Block, Proof}
use Rattle.circ_plain_search.specs.Numbering.{block_terms, links_terms, numbered_links, numbered_proof, table_for}
use Rattle.circ_numbering.specs.Plain.{plain_term_blocks, plain_term_certificates}
use Rattle.circ_numbering.proofs.Requests.{first_fails, second_fails, both_asked, later_too}
use Rattle.circ_numbering.proofs.blocks.numbered_by.Goals as goal

pub returns-in-Err : goal.returns-in-Err
returns-in-Err c =
    first_fails [] (flat_map block_terms (plain_term_blocks c.args.blocks.now)) (flat_map links_terms (plain_term_certificates c.args.certificates.now))
    c.in-Err.fault (rw c.requires at c.in-Err.ensures)

pub returns-in-Err-named_certificates : goal.returns-in-Err-named_certificates
returns-in-Err-named_certificates c =
    second_fails [] c.named_blocks.new.table (flat_map block_terms (plain_term_blocks c.args.blocks.now))
    (flat_map links_terms (plain_term_certificates c.args.certificates.now)) c.in-Err-named_certificates.fault (rw c.requires at c.in-Ok.ensures.0)
    c.in-Err-named_certificates.ensures

pub returns : goal.returns
returns c =
    let bs = plain_term_blocks c.args.blocks.now in
    let cs = plain_term_certificates c.args.certificates.now in
    let blocks = rw c.requires at c.in-Ok.ensures in
    let links = c.in-Ok-named_certificates.ensures in
    let here = grows_self c.named_certificates.new.table in
    let all : c.named_certificates.new.table ≡ table_for cs bs =
    both_asked [] c.named_blocks.new.table c.named_certificates.new.table (flat_map block_terms bs) (flat_map links_terms cs) blocks.0 links.0 in
    let b = blocks.1 c.named_certificates.new.table
    (later_too c.named_blocks.new.table c.named_certificates.new.table (flat_map links_terms cs) c.named_certificates.new.table links.0 here) in
    let l = links.1 c.named_certificates.new.table here in
    let P : List Tree → List (List (LinkOf ℕ)) → List Block → Proof = λ t ls xs. record { version = 1; table = t; places = c.args.gamma; certificates = ls; blocks = xs } in
    let few : length (table_for cs bs) ≤ term_limit = omega (arith, ap length all, ap length c.terms.ensures.value, c.terms.ensures.table.few) in (
      ap (λ t. P t (plain_certificates c.in-Ok-named_certificates.certificates.items) (map plain_block c.in-Ok.blocks.items)) (c.in_ok-shared.ensures ∙ c.terms.ensures.value)
          ∙ ap (λ ls. P c.named_certificates.new.table ls (map plain_block c.in-Ok.blocks.items)) l
          ∙ ap (P c.named_certificates.new.table (map (numbered_links c.named_certificates.new.table) cs)) b
          ∙ ap (λ t. numbered_proof t c.args.gamma cs bs) all,
      few,
    )
