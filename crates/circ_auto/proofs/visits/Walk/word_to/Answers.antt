use Rattle.std.proofs.Common.{◌≡◌, ◌∷◌, [], ℕ, List, reverse, arith, sym, ap, subst, ◌∙◌}
use Rattle.std.proofs.lemmas.List.{reverse-append}
use Rattle.circ_auto.proofs.Shortest.{inside_list}
use Rattle.circ_auto.proofs.Keeping.{get_is}
use Rattle.circ_auto.proofs.Word.{Rest}
use Rattle.circ_auto.proofs.Ending.{one_back, all_back}
use Rattle.circ_auto.specs.Knows.{graph_of}
use Rattle.circ_auto.proofs.visits.Walk.word_to.Goals as goal

pub loop-at-smaller : goal.loop-at-smaller
loop-at-smaller c =
    let s = c.args.self.now in
    let r = c.loop-at.invariant in
    let there = get_is s.visits.items c.loop-at.at c.index-visit.result.now (inside_list s.visits.items c.loop-at.at r.visit r.there) c.index-visit.ensures in
    (one_back (graph_of s) s.visits.items s.seen.items c.args.goal.parent c.loop-at.at c.args.goal.point c.args.goal.depth (reverse c.loop-at.word.items) c.index-visit.result.now
    c.requires.0 r there (omega (arith, c.loop-at-test.true))).1

pub loop-at-preserved : goal.loop-at-preserved
loop-at-preserved c =
    let s = c.args.self.now in
    let r = c.loop-at.invariant in
    let there = get_is s.visits.items c.loop-at.at c.index-visit.result.now (inside_list s.visits.items c.loop-at.at r.visit r.there) c.index-visit.ensures in
    let P : List ℕ → Type 0 = λ w. Rest (graph_of s) s.visits.items c.index-visit.result.now.parent w c.args.goal.point c.args.goal.depth in
    let grown = ap reverse c.in_ok-push-2.ensures.items ∙ reverse-append c.loop-at.word.items (c.index-visit.result.now.letter ∷ []) in
    subst P (sym grown)
    (one_back (graph_of s) s.visits.items s.seen.items c.args.goal.parent c.loop-at.at c.args.goal.point c.args.goal.depth (reverse c.loop-at.word.items) c.index-visit.result.now
    c.requires.0 r there (omega (arith, c.loop-at-test.true))).0

pub returns : goal.returns
returns c =
    let s = c.args.self.now in
    let first : c.loop-at.at ≡ 0 = omega (arith, c.loop-at-test.false) in
    let P : ℕ → Type 0 = λ i. Rest (graph_of s) s.visits.items i (reverse c.loop-at.word.items) c.args.goal.point c.args.goal.depth in
    rw c.reverse.ensures.items
    (all_back (graph_of s) s.visits.items s.seen.items c.args.goal (reverse c.loop-at.word.items) c.requires.0 c.requires.1 (subst P first c.loop-at.invariant))
