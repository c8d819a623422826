use Rattle.std.proofs.Common.{◌≡◌, ◌≤◌, ◌<◌, ◌+◌, ◌-◌, List, length, get_or, ap, sym, ◌∙◌, subst}
use Rattle.circ_theory.specs.Goal.{Goal}
use Rattle.circ_expansion.proofs.Numbers.{from_block, here_found, later_found}
use Rattle.circ_expand.proofs.goals.find_goal.Goals as goal

pub returns-in-Some : goal.returns-in-Some
returns-in-Some c =
    let n = c.loop-block.left in
    let g = c.in-Some.goal.now in
    let there = c.in-Some.ensures.lookup in
    let same = c.deref.ensures.value in
    let L : List Goal → Type 0 = λ gs. n < length gs in
    let G : List Goal → Type 0 = λ gs. g ≡ get_or gs n g in
    sym (here_found c.args.blocks.now c.loop-block.block-index n c.block-item.result g c.loop-block-test.true c.block-item.is (subst L same there.3.0)
    (subst G same there.1))
    ∙ c.loop-block.invariant

pub loop-block-preserved : goal.loop-block-preserved
loop-block-preserved c =
    let n = c.loop-block.left in
    let L : List Goal → Type 0 = λ gs. length gs ≤ n in
    ap (λ k. from_block c.args.blocks.now (c.loop-block.block-index + 1) (n - k)) (c.len-left.ensures
    ∙ sym (sym (ap length c.deref.ensures.value) ∙ c.deref.ensures.len))
    ∙ later_found c.args.blocks.now c.loop-block.block-index n c.block-item.result c.loop-block-test.true c.block-item.is
    (subst L c.deref.ensures.value c.in_default.ensures.lookup.3)
    ∙ c.loop-block.invariant
