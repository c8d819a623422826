use Rattle.std.proofs.Common.{◌*◌, ◌++◌, ◌∷◌, [], refl, ap, ap₂, ◌∙◌}
use Rattle.circ_auto.specs.declared.visits.Visit.{Visit}
use Rattle.circ_auto.specs.Graph.{Graph}
use Rattle.circ_auto.specs.Pairs.{pairs}
use Rattle.circ_auto.proofs.Product.{pairs_closed}
use Rattle.circ_auto.proofs.Ending.{begun_with}
use Rattle.circ_auto.proofs.pairs.begin.Goals as goal

pub returns-clause-knows : goal.returns-clause-knows
returns-clause-knows c =
    let g : Graph = pairs c.args.first.now c.args.second.now in
    let n : Visit = record { point = c.args.start; parent = 0; letter = 0; depth = 0 } in
    let closed = pairs_closed c.args.first.now c.args.second.now c.known.ensures c.known-2.ensures c.requires.same_letters in
    let visits = c.in_ok-push.ensures.items ∙ ap (λ xs. xs ++ n ∷ []) c.new-visits.ensures.items in
    begun_with g c.push.new.self.items c.in_ok-seen.seen.items _ c.args.start n closed visits (c.in_ok-seen.ensures.items_if_clones_equal (λ y e. e))
    (ap₂ (λ x y. x * y) c.state_count.ensures.count c.state_count-2.ensures.count) c.requires.start refl refl c.requires.no_goal
