use Rattle.std.proofs.Common.{refl, ◌∷◌}
use Rattle.circ_proof.specs.Plain.{plain_links}
use Rattle.circ_proof.specs.PlainProof.{plain_certificates}
use Rattle.circ_line.specs.Line.{certificate_line}
use Rattle.circ_grammar.specs.Grammar.{lines_of, left_lines, certificate_lines}
use Rattle.circ_file.proofs.Written.{item_written, all_written, then_writes}
use Rattle.circ_file.proofs.encoding.put_certificates.Goals as goal

pub loop-links-preserved : goal.loop-links-preserved
loop-links-preserved c =
    let at = c.loop-links in
    let ls = plain_links c.links-item.result.items in
    item_written (λ xs. lines_of certificate_lines (plain_certificates xs)) (λ x. certificate_lines (plain_links x.items)) c.args.out.now.items
    c.args.certificates.now at.links-index (λ x xs later. refl) at.out.items c.put_left_links.new.out.items c.links-item.result c.loop-links-test.true c.links-item.is
    at.invariant
    (then_writes at.out.items c.put_line.new.out.items c.put_left_links.new.out.items (λ later. certificate_line ∷ later) (lines_of left_lines ls)
    c.in_ok-put_line.ensures (rw c.as_slice.ensures.value at c.in_ok-put_left_links.ensures))

pub returns : goal.returns
returns c =
    let at = c.loop-links in
    all_written (λ xs. lines_of certificate_lines (plain_certificates xs)) (λ x. certificate_lines (plain_links x.items)) c.args.out.now.items
    c.args.certificates.now at.links-index (λ later. refl) at.out.items c.loop-links-test.false at.invariant
