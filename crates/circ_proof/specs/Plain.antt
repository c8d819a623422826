-- Links, chains and whys as plain data, over any terms: the terms themselves, or their numbers in a table. A link by an equation or a hypothesis has a chain
-- for each of its conditions.
use Rattle.std.specs.Prelude.{ℕ, List, [], ◌∷◌, map}
use Rattle.circ_theory.specs.declared.way.Way.{Way}
use Rattle.circ_proof.specs.declared.links.Link.{Link, Equation', Hypothesis', Assumption, Content, Row_of-Link, end_of-Link, more_of-Link}
use Rattle.circ_proof.specs.declared.links.Link.{Row_of-Chain, end_of-Chain, more_of-Chain}
use Rattle.circ_proof.specs.declared.links.Chain.{Chain}
use Rattle.circ_proof.specs.declared.links.Why.{Why, Same, Split', Row_of-Why, end_of-Why, more_of-Why}

-- one step of rewriting at a path; links in a row; and for each condition the links on its two sides
mutual
  pub data LinkOf (T : Type 0) : Type 0 where
    Equation_link : (number : ℕ) (way : Way) (path : List ℕ) (terms : List T) (conds : ChainsOf T) → LinkOf T
    Hypothesis_link : (number : ℕ) (way : Way) (path : List ℕ) (terms : List T) (conds : ChainsOf T) → LinkOf T
    Assumption_link : (number : ℕ) (way : Way) (path : List ℕ) → LinkOf T
    Content_link : (op : ℕ) (path : List ℕ) (term : T) → LinkOf T

  pub data LinksOf (T : Type 0) : Type 0 where
    no_link : LinksOf T
    more_links : (first : LinkOf T) (rest : LinksOf T) → LinksOf T

  pub data ChainsOf (T : Type 0) : Type 0 where
    no_chain : ChainsOf T
    more_chains : (left right : LinksOf T) (rest : ChainsOf T) → ChainsOf T

-- the links on the two sides of a goal
pub record ChainOf (T : Type 0) : Type 0 where
  pub left : List (LinkOf T)
  pub right : List (LinkOf T)

-- why the two sides are equal: by a chain, or by a chain and then in each case of a term
mutual
  pub data WhyOf (T : Type 0) : Type 0 where
    Same_why : (chain : ChainOf T) → WhyOf T
    Split_why : (chain : ChainOf T) (term : T) (whys : WhysOf T) → WhyOf T

  pub data WhysOf (T : Type 0) : Type 0 where
    no_why : WhysOf T
    more_whys : (first : WhyOf T) (rest : WhysOf T) → WhysOf T

-- a list of links as a row, and back
abbrev pub row_of : {T : Type 0} → List (LinkOf T) → LinksOf T
row_of [] = no_link
row_of (l ∷ ls) = more_links l (row_of ls)

abbrev pub links_in : {T : Type 0} → LinksOf T → List (LinkOf T)
links_in no_link = []
links_in (more_links l ls) = l ∷ links_in ls

-- a list of chains as a row of them
abbrev pub chains_of : {T : Type 0} → List (ChainOf T) → ChainsOf T
chains_of [] = no_chain
chains_of (c ∷ cs) = more_chains (row_of c.left) (row_of c.right) (chains_of cs)

-- the chains of a link's conditions
abbrev pub chains_in : {T : Type 0} → LinkOf T → ChainsOf T
chains_in (Equation_link number way path terms conds) = conds
chains_in (Hypothesis_link number way path terms conds) = conds
chains_in (Assumption_link number way path) = no_chain
chains_in (Content_link op path term) = no_chain

-- The same over other terms: with the terms of a table for their numbers, or with their numbers for the terms.
abbrev mutual
  pub map_link : {T U : Type 0} → (T → U) → LinkOf T → LinkOf U
  map_link f (Equation_link number way path terms conds) = Equation_link number way path (map f terms) (map_chains f conds)
  map_link f (Hypothesis_link number way path terms conds) = Hypothesis_link number way path (map f terms) (map_chains f conds)
  map_link f (Assumption_link number way path) = Assumption_link number way path
  map_link f (Content_link op path term) = Content_link op path (f term)

  pub map_row : {T U : Type 0} → (T → U) → LinksOf T → LinksOf U
  map_row f no_link = no_link
  map_row f (more_links l ls) = more_links (map_link f l) (map_row f ls)

  pub map_chains : {T U : Type 0} → (T → U) → ChainsOf T → ChainsOf U
  map_chains f no_chain = no_chain
  map_chains f (more_chains l r cs) = more_chains (map_row f l) (map_row f r) (map_chains f cs)

abbrev pub map_chain : {T U : Type 0} → (T → U) → ChainOf T → ChainOf U
map_chain f c = record { left = map (map_link f) c.left; right = map (map_link f) c.right }

abbrev mutual
  pub map_why : {T U : Type 0} → (T → U) → WhyOf T → WhyOf U
  map_why f (Same_why chain) = Same_why (map_chain f chain)
  map_why f (Split_why chain term whys) = Split_why (map_chain f chain) (f term) (map_whys f whys)

  pub map_whys : {T U : Type 0} → (T → U) → WhysOf T → WhysOf U
  map_whys f no_why = no_why
  map_whys f (more_whys why rest) = more_whys (map_why f why) (map_whys f rest)

-- What contracts see of links and chains. Those inside a link lie in rows.
abbrev mutual
  pub plain_link : {T : Type 0} → Link T → LinkOf T
  plain_link (Equation' number way path terms shape row) = Equation_link number way path.items terms.items (plain_chain_row row)
  plain_link (Hypothesis' number way path terms shape row) = Hypothesis_link number way path.items terms.items (plain_chain_row row)
  plain_link (Assumption number way path) = Assumption_link number way path.items
  plain_link (Content op path term) = Content_link op path.items term

  pub plain_chain_row : {T : Type 0} {m : _} → Row_of-Chain T m → ChainsOf T
  plain_chain_row end_of-Chain = no_chain
  plain_chain_row (more_of-Chain shape left shape_right right rest) = more_chains (plain_link_row left) (plain_link_row right) (plain_chain_row rest)

  pub plain_link_row : {T : Type 0} {m : _} → Row_of-Link T m → LinksOf T
  plain_link_row end_of-Link = no_link
  plain_link_row (more_of-Link link rest) = more_links (plain_link link) (plain_link_row rest)

abbrev pub plain_links : {T : Type 0} → List (Link T) → List (LinkOf T)
plain_links ls = map plain_link ls

abbrev pub plain_chain : {T : Type 0} → Chain T → ChainOf T
plain_chain c = record { left = plain_links c.left.items; right = plain_links c.right.items }

abbrev pub plain_chains : {T : Type 0} → List (Chain T) → ChainsOf T
plain_chains cs = chains_of (map plain_chain cs)

-- and of whys, likewise
abbrev mutual
  pub plain_why : {T : Type 0} → Why T → WhyOf T
  plain_why (Same chain) = Same_why (plain_chain chain)
  plain_why (Split' chain term shape row) = Split_why (plain_chain chain) term (plain_why_row row)

  pub plain_why_row : {T : Type 0} {m : _} → Row_of-Why T m → WhysOf T
  plain_why_row end_of-Why = no_why
  plain_why_row (more_of-Why why rest) = more_whys (plain_why why) (plain_why_row rest)

abbrev pub plain_whys : {T : Type 0} → List (Why T) → WhysOf T
plain_whys [] = no_why
plain_whys (why ∷ rest) = more_whys (plain_why why) (plain_whys rest)
