use Rattle.std.proofs.Common.{◌≡◌, ◌+◌, List, map, drop, ap, sym, ◌∙◌, subst, arith}
use Rattle.std.specs.List.{AllByRecursion}
use Rattle.circ_theory.specs.Theory.{Theory}
use Rattle.circ_theory.specs.Goal.{Goal}
use Rattle.circ_plain_search.specs.PlainSearch.{IsSearchable}
use Rattle.circ_refute.specs.PlainRefutation.{Decision, refutations, unless_alike, goals_in}
use Rattle.circ_refute.specs.Plain.{plain_decision, plain_refuted}
use Rattle.circ_refute.proofs.Decisions.{all_of_block, block_next, not_alike}
use Rattle.circ_refute.proofs.refuter.Refuter.refute_blocks.Goals as goal

pub refute_block-requires-clause-goals : goal.refute_block-requires-clause-goals
refute_block-requires-clause-goals c =
    let th = c.args.self.now.theory.now in
    let all = all_of_block (IsSearchable th) c.args.blocks.now c.loop-block.block-index c.block-item.result c.requires.goals c.loop-block-test.true c.block-item.is in
    let P : List Goal → Type 0 = AllByRecursion (IsSearchable th) in
    let T : Theory → Type 0 = λ t. AllByRecursion (IsSearchable t) c.as_slice.result.now in
    subst T (sym (ap (λ t. t.now) c.loop-block.invariant.theory)) (subst P (sym c.as_slice.ensures.value) all)

pub returns-in_default : goal.returns-in_default
returns-in_default c =
    let th = c.args.self.now.theory.now in
    let l = c.loop-block in
    let x : Decision = plain_decision c.in_ok-decision.decision c.refute_block.new.self.rewrites c.refute_block.new.self.derives in
    let P : List Goal → Type 0 = λ gs. refutations th l.next l.self.derives l.self.rewrites gs ≡ x in
    let T : Theory → Type 0 = λ t. refutations t l.next l.self.derives l.self.rewrites c.as_slice.result.now ≡ x in
    let here = subst P c.as_slice.ensures.value (subst T (ap (λ t. t.now) l.invariant.theory) c.in_ok-decision.ensures.exact) in
    let next = block_next th l.next l.self.derives l.self.rewrites c.args.blocks.now l.block-index c.block-item.result c.loop-block-test.true c.block-item.is x here in
    record {
      exact = sym l.invariant.same ∙ next ∙ not_alike c.in_ok-decision.decision.refuted c.in_default.not-Alike x _;
      rewrites = omega (arith, c.in_ok-decision.ensures.rewrites, l.invariant.rewrites);
      derives = omega (arith, c.in_ok-decision.ensures.derives, l.invariant.derives);
    }

pub loop-block-preserved : goal.loop-block-preserved
loop-block-preserved c =
    let th = c.args.self.now.theory.now in
    let l = c.loop-block in
    let bs = c.args.blocks.now in
    let x : Decision = plain_decision c.in_ok-decision.decision c.refute_block.new.self.rewrites c.refute_block.new.self.derives in
    let rest : Decision = refutations th x.goal x.conclusion.derives x.conclusion.rewrites (goals_in (map (λ b. b.items) (drop (l.block-index + 1) bs))) in
    let P : List Goal → Type 0 = λ gs. refutations th l.next l.self.derives l.self.rewrites gs ≡ x in
    let T : Theory → Type 0 = λ t. refutations t l.next l.self.derives l.self.rewrites c.as_slice.result.now ≡ x in
    let here = subst P c.as_slice.ensures.value (subst T (ap (λ t. t.now) l.invariant.theory) c.in_ok-decision.ensures.exact) in
    let next = block_next th l.next l.self.derives l.self.rewrites bs l.block-index c.block-item.result c.loop-block-test.true c.block-item.is x here in
    let alike : unless_alike x.conclusion.refuted x rest ≡ rest = ap (λ r. unless_alike (plain_refuted r) x rest) c.in-Alike.is in
    record {
      theory = c.in_ok-decision.ensures.theory ∙ l.invariant.theory;
      reducer = c.in_ok-decision.ensures.reducer ∙ l.invariant.reducer;
      rewrites = omega (arith, c.in_ok-decision.ensures.rewrites, l.invariant.rewrites);
      derives = omega (arith, c.in_ok-decision.ensures.derives, l.invariant.derives);
      same = sym (next ∙ alike) ∙ l.invariant.same;
    }
