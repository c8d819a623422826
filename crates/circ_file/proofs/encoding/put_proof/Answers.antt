use Rattle.std.proofs.Common.{◌++◌, ◌∙◌, ◌∷◌, [], List, length, map, ap, sym, append-nil}
use Rattle.std.proofs.lemmas.Result.{on_ok_weaker}
use Rattle.circ_proof.specs.PlainProof.{plain_block, plain_certificates}
use Rattle.circ_line.specs.Line.{Line, end_line}
use Rattle.circ_grammar.specs.Grammar.{lines_of, table_lines, place_lines, certificate_lines, block_lines}
use Rattle.circ_grammar.specs.FirstBad.{file_text}
use Rattle.circ_proof_text.specs.TableText.{entries_of}
use Rattle.circ_proof_text.specs.ProofText.{place_numbers, block_numbers}
use Rattle.circ_file.proofs.encoding.put_proof.Goals as goal

pub put_blocks-requires : goal.put_blocks-requires
put_blocks-requires c =
    rw c.as_slice-3.ensures.value (length c.args.proof.now.table.items, c.requires.blocks)

pub returns : goal.returns
returns c =
    let proof = c.args.proof.now in
    let blocks : List Line = lines_of block_lines (map block_numbers (map plain_block proof.blocks.items)) (end_line ∷ []) in
    let certificates : List Line = lines_of certificate_lines (plain_certificates proof.certificates.items) blocks in
    let places : List Line = lines_of place_lines (map place_numbers proof.gamma) certificates in
    on_ok_weaker c.put_line.result
    (λ w.
    sym (append-nil c.put_line.new.out.items)
    ∙ w []
    ∙ c.in_ok-put_blocks.ensures (end_line ∷ [])
    ∙ ap (λ xs. c.put_certificates.new.out.items ++ file_text (lines_of block_lines (map block_numbers (map plain_block xs)) (end_line ∷ [])))
    c.as_slice-3.ensures.value
    ∙ c.in_ok-put_certificates.ensures blocks
    ∙ ap (λ xs. c.put_places.new.out.items ++ file_text (lines_of certificate_lines (plain_certificates xs) blocks)) c.as_slice-2.ensures.value
    ∙ c.in_ok-put_places.ensures certificates
    ∙ ap (λ xs. c.put_table.new.out.items ++ file_text (lines_of place_lines (map place_numbers xs) certificates)) c.places.ensures.value
    ∙ c.in_ok-put_table.ensures places
    ∙ ap (λ xs. c.put_made_line.new.out.items ++ file_text (lines_of table_lines (entries_of [] xs) places)) c.as_slice.ensures.value
    ∙ c.in_ok-put_made_line.ensures (lines_of table_lines (entries_of [] proof.table.items) places))
    c.put_line.ensures
