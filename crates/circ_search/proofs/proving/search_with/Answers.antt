use Rattle.std.proofs.Common.{List, map}
use Rattle.circ_theory.specs.Goal.{Goal}
use Rattle.circ_search.proofs.proving.search_with.Goals as goal

pub search_from-found-requires-clause-start : goal.search_from-found-requires-clause-start
search_from-found-requires-clause-start c = record {
  blocks = map (λ b. b.items) c.args.blocks.now;
  searchable = c.requires.searchable;
  start = c.in_ok-state.ensures c.args.limits.now.derives;
}

pub returns : goal.returns
returns c =
    let bs : List (List Goal) = map (λ b. b.items) c.args.blocks.now in
    record { exact = c.search_from-found.ensures bs (c.in_ok-state.ensures c.args.limits.now.derives) }
