use Rattle.std.proofs.Common.{◌≡◌, ◌∷◌, ◌++◌, ◌+◌, [], arith, ap, length, take, ◌-◌, map, drop, refl, sym, ◌∙◌, append_assoc}
use Rattle.circ_term.specs.Tree.{args_of, depth_of, trees_of}
use Rattle.circ_term.proofs.Trees.{list_of-trees_of}
use Rattle.circ_term.proofs.Within.{depth_at, drop_read}
use Rattle.circ_expansion.specs.Expand.{paths_of}
use Rattle.circ_uses.specs.Paths.{plain_paths, paths_from}
use Rattle.circ_uses.proofs.Finding.{from_first, from_next, drop_none, taken_off}
use Rattle.circ_uses.proofs.paths.+find.Goals as goal

pub find-find_in-requires : goal.find-find_in-requires
find-find_in-requires t c =
    let deep = ap depth_of c.in-Application.ensures.value in
    let there = ap (λ u. length (args_of u)) c.in-Application.ensures.value in
    let same = ap length (list_of-trees_of c.in-Application.args.now) in
    (omega (arith, deep), omega (arith, there, same, c.in-Application.ensures.few))

pub find_in-find-requires : goal.find_in-find-requires
find_in-find-requires t c =
    (omega (arith, depth_at c.args.terms.now c.loop-i.i c.index-terms-i.result (omega arith) c.index-terms-i.is), tt)

pub find_in-loop-i-init : goal.find_in-loop-i-init
find_in-loop-i-init t c =
    let ps = plain_paths c.args.paths.now.items in
    let h = c.args.here.now.items in
    record {
      kept = refl;
      found = ap (λ ts. ps ++ map (λ p. h ++ p) (paths_from 0 c.args.number c.args.sort (trees_of ts))) (drop_none c.args.terms.now)
          ∙ ap (λ xs. ps ++ map (λ p. h ++ p) xs) (from_first c.args.number c.args.sort (trees_of c.args.terms.now));
    }

pub find_in-loop-i-preserved : goal.find_in-loop-i-preserved
find_in-loop-i-preserved t c =
    let inv = c.loop-i.invariant in
    let h = c.args.here.now.items in
    let n = c.args.number in
    let s = c.args.sort in
    let i = c.loop-i.i in
    let x = c.index-terms-i.result in
    let rest = trees_of (drop (i + 1) c.args.terms.now) in
    let e = drop_read c.args.terms.now i x c.loop-i-test.true c.index-terms-i.is in
    let pushed : c.push.new.self.items ≡ h ++ i ∷ [] = c.in_ok-push.ensures.items ∙ ap (λ y. y ++ i ∷ []) inv.kept in
    let before = plain_paths c.loop-i.paths.items in
    record {
      kept = taken_off h c.pop.new.self.items c.find.new.here.items i (c.in_ok-find.ensures.kept ∙ pushed)
          (c.pop.ensures.rest ∙ ap (λ k. take (k - 1) c.find.new.here.items) c.find.new.here.ok.0);
      found = ap (λ y. y ++ map (λ p. h ++ p) (paths_from (i + 1) n s rest)) (c.in_ok-find.ensures.found
          ∙ ap (λ y. before ++ map (λ p. y ++ p) (paths_of n s x)) pushed)
          ∙ append_assoc before (map (λ p. (h ++ i ∷ []) ++ p) (paths_of n s x)) (map (λ p. h ++ p) (paths_from (i + 1) n s rest))
          ∙ ap (λ y. before ++ y) (sym (from_next h i n s x rest))
          ∙ ap (λ ts. before ++ map (λ p. h ++ p) (paths_from i n s (trees_of ts))) (sym e) ∙ inv.found;
    }
