use Rattle.std.proofs.Common.{◌≡◌, ◌+◌, ◌++◌, [], ◌∷◌, List, drop, map, ap, sym, ◌∙◌, append_assoc}
use Rattle.std.proofs.lemmas.List.{map-append}
use Rattle.circ_term.proofs.Within.{drop_read}
use Rattle.circ_pairs.specs.Pair.{Pair, pair_with}
use Rattle.circ_pairs.specs.Pairs.{plain_pair}
use Rattle.circ_pairs.specs.declared.pairs.Pair.{Pair as PairOfTerms}
use Rattle.circ_pairs.proofs.pairs.share_pairs.Goals as goal

pub loop-pair-preserved : goal.loop-pair-preserved
loop-pair-preserved c =
    let pairs = c.args.pairs.now in
    let i = c.loop-pair.pair-index in
    let read = drop_read pairs i c.pair-item.result c.loop-pair-test.true c.pair-item.is in
    let made : List PairOfTerms = c.loop-pair.made.items in
    let rest : List Pair = map plain_pair (drop (i + 1) pairs) in
    let y : PairOfTerms = record { left = c.in_ok-left.left; right = c.in_ok-right.right } in
    let same : plain_pair y ≡ plain_pair c.pair-item.result =
    ap (λ t. pair_with t c.in_ok-right.right) c.in_ok-left.ensures.same ∙ ap (pair_with c.pair-item.result.left) c.in_ok-right.ensures.same in
    ap (λ ps. map plain_pair ps ++ rest) c.in_ok-push.ensures.items ∙ ap (λ ps. ps ++ rest) (map-append plain_pair made (y ∷ []))
    ∙ append_assoc (map plain_pair made) (plain_pair y ∷ []) rest ∙ ap (λ z. map plain_pair made ++ z ∷ rest) same
    ∙ sym (ap (λ ps. map plain_pair made ++ map plain_pair ps) read) ∙ c.loop-pair.invariant
