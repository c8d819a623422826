use Rattle.std.proofs.Common.{◌++◌, ◌∷◌, ◌+◌, ◌∙◌, ℕ, List, Vec, Global, map, drop, length, get_or, ap, subst, arith}
use Rattle.std.proofs.lemmas.List.{drop_all}
use Rattle.circ_term.proofs.Within.{drop_read}
use Rattle.circ_proof.specs.Plain.{plain_links}
use Rattle.circ_proof.specs.Parts.{Certificate, certificate_parts, block_parts}
use Rattle.circ_proof.specs.PlainProof.{plain_certificates, plain_block, plain_proof}
use Rattle.circ_proof.specs.declared.links.Link.{Link}
use Rattle.circ_check.specs.Watching.{HasLeft}
use Rattle.circ_check.proofs.Whole.{left_sound, left_ready, left_behind, left_taken}
use Rattle.circ_check.proofs.checker.Checker.take_certificates.Goals as goal

pub loop-links-init : goal.loop-links-init
loop-links-init c th h = h

pub certify-requires : goal.certify-requires
certify-requires c =
    let at = c.loop-links in
    let xs = c.args.proof.now.certificates.items in
    let x = c.links-item.result in
    let th = c.requires.0 in
    let p = plain_proof c.args.proof.now in
    let blocks = block_parts (map plain_block c.args.proof.now.blocks.items) in
    let e = drop_read xs at.links-index x (omega (arith, c.loop-links-test.true, ap length c.deref-links-items.ensures.value))
    (c.links-item.is ∙ ap (λ ys. get_or ys at.links-index x) c.deref-links-items.ensures.value) in
    let P : List (Vec (Link ℕ) Global) → Type 0 = λ zs. HasLeft th p (certificate_parts (plain_certificates zs) ++ blocks) at.self in
    let h = subst P e (at.invariant th c.requires.1) in
    let rest = certificate_parts (plain_certificates (drop (at.links-index + 1) xs)) ++ blocks in
    let part = Certificate (plain_links x.items) in
    record {
      ready = rw c.as_slice.ensures.value (left_ready th p part rest at.self h);
      begun = left_behind th p part rest at.self h;
      sound = left_sound th p (part ∷ rest) at.self h;
    }

pub loop-links-preserved : goal.loop-links-preserved
loop-links-preserved c th start =
    let at = c.loop-links in
    let xs = c.args.proof.now.certificates.items in
    let x = c.links-item.result in
    let p = plain_proof c.args.proof.now in
    let blocks = block_parts (map plain_block c.args.proof.now.blocks.items) in
    let e = drop_read xs at.links-index x (omega (arith, c.loop-links-test.true, ap length c.deref-links-items.ensures.value))
    (c.links-item.is ∙ ap (λ ys. get_or ys at.links-index x) c.deref-links-items.ensures.value) in
    let P : List (Vec (Link ℕ) Global) → Type 0 = λ zs. HasLeft th p (certificate_parts (plain_certificates zs) ++ blocks) at.self in
    let h = subst P e (at.invariant th start) in
    let rest = certificate_parts (plain_certificates (drop (at.links-index + 1) xs)) ++ blocks in
    left_taken th p (Certificate (plain_links x.items)) rest at.self h c.certify.new.self (rw c.as_slice.ensures.value at c.in_ok-certify.ensures.took)

pub returns : goal.returns
returns c th start =
    let at = c.loop-links in
    let xs = c.args.proof.now.certificates.items in
    let p = plain_proof c.args.proof.now in
    let blocks = block_parts (map plain_block c.args.proof.now.blocks.items) in
    let P : List (Vec (Link ℕ) Global) → Type 0 = λ zs. HasLeft th p (certificate_parts (plain_certificates zs) ++ blocks) at.self in
    subst P (drop_all at.links-index xs (omega (arith, c.loop-links-test.false, ap length c.deref-links-items.ensures.value))) (at.invariant th start)
