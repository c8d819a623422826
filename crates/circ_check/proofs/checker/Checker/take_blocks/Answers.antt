use Rattle.std.proofs.Common.{◌++◌, ◌+◌, ◌∙◌, List, map, drop, length, get_or, ap, subst, arith}
use Rattle.std.proofs.lemmas.List.{drop_all}
use Rattle.circ_term.proofs.Within.{drop_read}
use Rattle.circ_proof.specs.Parts.{Goals, step_parts, block_parts}
use Rattle.circ_proof.specs.PlainProof.{plain_names, plain_steps, plain_block, plain_proof}
use Rattle.circ_proof.specs.declared.proof.Block.{Block}
use Rattle.circ_check.specs.Watching.{HasLeft}
use Rattle.circ_check.proofs.Whole.{left_sound, left_ready, left_behind, left_taken}
use Rattle.circ_check.proofs.checker.Checker.take_blocks.Goals as goal

pub loop-block-init : goal.loop-block-init
loop-block-init c th h = h

pub begin_block-requires-clause-begun : goal.begin_block-requires-clause-begun
begin_block-requires-clause-begun c =
    let at = c.loop-block in
    let xs = c.args.proof.now.blocks.items in
    let x = c.block-item.result in
    let th = c.requires.0 in
    let p = plain_proof c.args.proof.now in
    let e = drop_read xs at.block-index x (omega (arith, c.loop-block-test.true, ap length c.deref-block-items.ensures.value))
    (c.block-item.is ∙ ap (λ ys. get_or ys at.block-index x) c.deref-block-items.ensures.value) in
    let P : List Block → Type 0 = λ zs. HasLeft th p (block_parts (map plain_block zs)) at.self in
    let h = subst P e (at.invariant th c.requires.1) in
    let rest = step_parts (plain_steps x.steps.items) ++ block_parts (map plain_block (drop (at.block-index + 1) xs)) in
    left_behind th p (Goals x.goals.items (map plain_names x.names.items)) rest at.self h

pub begin_block-requires-clause-names : goal.begin_block-requires-clause-names
begin_block-requires-clause-names c =
    let at = c.loop-block in
    let xs = c.args.proof.now.blocks.items in
    let x = c.block-item.result in
    let th = c.requires.0 in
    let p = plain_proof c.args.proof.now in
    let e = drop_read xs at.block-index x (omega (arith, c.loop-block-test.true, ap length c.deref-block-items.ensures.value))
    (c.block-item.is ∙ ap (λ ys. get_or ys at.block-index x) c.deref-block-items.ensures.value) in
    let P : List Block → Type 0 = λ zs. HasLeft th p (block_parts (map plain_block zs)) at.self in
    let h = subst P e (at.invariant th c.requires.1) in
    let rest = step_parts (plain_steps x.steps.items) ++ block_parts (map plain_block (drop (at.block-index + 1) xs)) in
    (x.goals.items, rw c.as_slice.ensures.value (left_ready th p (Goals x.goals.items (map plain_names x.names.items)) rest at.self h))

pub begin_block-requires-clause-sound : goal.begin_block-requires-clause-sound
begin_block-requires-clause-sound c =
    let at = c.loop-block in
    let p = plain_proof c.args.proof.now in
    left_sound c.requires.0 p (block_parts (map plain_block (drop at.block-index c.args.proof.now.blocks.items))) at.self (at.invariant c.requires.0 c.requires.1)

pub take_steps-requires : goal.take_steps-requires
take_steps-requires c =
    let at = c.loop-block in
    let xs = c.args.proof.now.blocks.items in
    let x = c.block-item.result in
    let th = c.requires.0 in
    let p = plain_proof c.args.proof.now in
    let e = drop_read xs at.block-index x (omega (arith, c.loop-block-test.true, ap length c.deref-block-items.ensures.value))
    (c.block-item.is ∙ ap (λ ys. get_or ys at.block-index x) c.deref-block-items.ensures.value) in
    let P : List Block → Type 0 = λ zs. HasLeft th p (block_parts (map plain_block zs)) at.self in
    let h = subst P e (at.invariant th c.requires.1) in
    let rest = block_parts (map plain_block (drop (at.block-index + 1) xs)) in
    let ready = left_ready th p (Goals x.goals.items (map plain_names x.names.items)) (step_parts (plain_steps x.steps.items) ++ rest) at.self h in
    let took = rw c.as_slice.ensures.value at c.in_ok-begin_block.ensures.took in
    let begun = left_taken th p (Goals x.goals.items (map plain_names x.names.items)) (step_parts (plain_steps x.steps.items) ++ rest) at.self h
    c.begin_block.new.self (took x.goals.items ready) in
    (th, p, rest, rw c.as_slice-in-loop-block.ensures.value begun)

pub loop-block-preserved : goal.loop-block-preserved
loop-block-preserved c th start =
    let at = c.loop-block in
    let xs = c.args.proof.now.blocks.items in
    let x = c.block-item.result in
    let p = plain_proof c.args.proof.now in
    let e = drop_read xs at.block-index x (omega (arith, c.loop-block-test.true, ap length c.deref-block-items.ensures.value))
    (c.block-item.is ∙ ap (λ ys. get_or ys at.block-index x) c.deref-block-items.ensures.value) in
    let P : List Block → Type 0 = λ zs. HasLeft th p (block_parts (map plain_block zs)) at.self in
    let h = subst P e (at.invariant th start) in
    let rest = block_parts (map plain_block (drop (at.block-index + 1) xs)) in
    let ready = left_ready th p (Goals x.goals.items (map plain_names x.names.items)) (step_parts (plain_steps x.steps.items) ++ rest) at.self h in
    let took = rw c.as_slice.ensures.value at c.in_ok-begin_block.ensures.took in
    let begun = left_taken th p (Goals x.goals.items (map plain_names x.names.items)) (step_parts (plain_steps x.steps.items) ++ rest) at.self h
    c.begin_block.new.self (took x.goals.items ready) in
    (rw c.as_slice-in-loop-block.ensures.value at c.in_ok-take_steps.ensures) th p rest begun

pub returns : goal.returns
returns c th start =
    let at = c.loop-block in
    let xs = c.args.proof.now.blocks.items in
    let p = plain_proof c.args.proof.now in
    let P : List Block → Type 0 = λ zs. HasLeft th p (block_parts (map plain_block zs)) at.self in
    subst P (drop_all at.block-index xs (omega (arith, c.loop-block-test.false, ap length c.deref-block-items.ensures.value))) (at.invariant th start)
