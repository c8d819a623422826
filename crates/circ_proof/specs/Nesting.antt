-- How deep conditions of links stand inside one another.
use Rattle.std.specs.Prelude.{ℕ, ◌+◌, max, List, [], ◌∷◌}
use Rattle.circ_proof.specs.Plain.{LinkOf, LinksOf, ChainsOf, ChainOf, Equation_link, Hypothesis_link, Assumption_link, Content_link, no_link, more_links, no_chain, more_chains}

-- the most conditions of links inside one another
abbrev pub nesting_limit : ℕ
nesting_limit = 8

abbrev mutual
  pub link_nesting : {T : Type 0} → LinkOf T → ℕ
  link_nesting (Equation_link number way path terms conds) = chains_nesting conds
  link_nesting (Hypothesis_link number way path terms conds) = chains_nesting conds
  link_nesting (Assumption_link number way path) = 0
  link_nesting (Content_link op path term) = 0

  pub row_nesting : {T : Type 0} → LinksOf T → ℕ
  row_nesting no_link = 0
  row_nesting (more_links l ls) = max (link_nesting l) (row_nesting ls)

  pub chains_nesting : {T : Type 0} → ChainsOf T → ℕ
  chains_nesting no_chain = 0
  chains_nesting (more_chains l r cs) = max (max (row_nesting l) (row_nesting r) + 1) (chains_nesting cs)

abbrev pub links_nesting : {T : Type 0} → List (LinkOf T) → ℕ
links_nesting [] = 0
links_nesting (l ∷ ls) = max (link_nesting l) (links_nesting ls)

abbrev pub chain_nesting : {T : Type 0} → ChainOf T → ℕ
chain_nesting c = max (links_nesting c.left) (links_nesting c.right)
