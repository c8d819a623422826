use Rattle.std.proofs.Common.{refl, map, get_or}
use Rattle.circ_special.specs.Special.{place}
use Rattle.circ_grammar.specs.Grammar.{lines_of, place_lines}
use Rattle.circ_proof_text.specs.ProofText.{place_numbers}
use Rattle.circ_file.proofs.Written.{item_written, all_written, item_at}
use Rattle.circ_file.proofs.encoding.put_places.Goals as goal

pub loop-place-preserved : goal.loop-place-preserved
loop-place-preserved c =
    let at = c.loop-place in
    let xs = c.args.places.now in
    item_written (λ ps. lines_of place_lines (map place_numbers ps)) (λ p. place_lines (place_numbers p)) c.args.out.now.items xs at.place-index
    (λ x ps later. refl) at.out.items c.put_made_line.new.out.items (get_or xs at.place-index (place 0 0)) c.loop-place-test.true
    (item_at xs at.place-index (place 0 0) c.loop-place-test.true) at.invariant c.in_ok-put_made_line.ensures

pub returns : goal.returns
returns c =
    let at = c.loop-place in
    all_written (λ ps. lines_of place_lines (map place_numbers ps)) (λ p. place_lines (place_numbers p)) c.args.out.now.items c.args.places.now at.place-index
    (λ later. refl) at.out.items c.loop-place-test.false at.invariant
