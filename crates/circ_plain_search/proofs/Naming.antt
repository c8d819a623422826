-- What holds of each term of a list of links or steps, as it is asked for, holds of each term that these name.
use Rattle.std.proofs.Common.{List, [], ◌∷◌, ◌++◌, flat_map}
use Rattle.std.specs.List.{AllByRecursion}
use Rattle.circ_term.specs.Tree.{Tree}
use Rattle.circ_proof.specs.Plain.{LinkOf, LinksOf, ChainsOf, Equation_link, Hypothesis_link, Assumption_link, Content_link, no_link, more_links, no_chain, more_chains, ChainOf, WhyOf, WhysOf, Same_why, Split_why, no_why, more_whys}
use Rattle.circ_proof.specs.Link.{terms_of, row_terms, chains_terms, AllOfLink, AllOfRow, AllOfChains, AllOfLinks}
use Rattle.circ_proof.specs.Justified.{AllOfChain, AllOfWhy, AllOfWhys}
use Rattle.circ_proof.specs.Rules.{ProofStep, Simplify, Reduce, Derive, Cases, Done, AllOfStep}
use Rattle.circ_plain_search.specs.Numbering.{links_terms, chain_terms, why_terms, whys_terms, step_terms}
use Rattle.circ_plain_search.proofs.Led.{all_parts}

module _ (P : Tree → Type 0) where
  mutual
    link_all : (l : LinkOf Tree) → AllByRecursion P (terms_of l) → AllOfLink P l
    link_all (Equation_link n w q ts cs) a = let p = all_parts P ts (chains_terms cs) a in (p.0, chains_all cs p.1)
    link_all (Hypothesis_link n w q ts cs) a = let p = all_parts P ts (chains_terms cs) a in (p.0, chains_all cs p.1)
    link_all (Assumption_link n w q) a = tt
    link_all (Content_link f q t) a = a.0

    row_all : (ls : LinksOf Tree) → AllByRecursion P (row_terms ls) → AllOfRow P ls
    row_all no_link a = tt
    row_all (more_links l ls) a = let p = all_parts P (terms_of l) (row_terms ls) a in (link_all l p.0, row_all ls p.1)

    chains_all : (cs : ChainsOf Tree) → AllByRecursion P (chains_terms cs) → AllOfChains P cs
    chains_all no_chain a = tt
    chains_all (more_chains l r cs) a =
        let p = all_parts P (row_terms l) (row_terms r ++ chains_terms cs) a in
        let q = all_parts P (row_terms r) (chains_terms cs) p.1 in
        (row_all l p.0, row_all r q.0, chains_all cs q.1)

  pub links_all : (ls : List (LinkOf Tree)) → AllByRecursion P (links_terms ls) → AllOfLinks P ls
  links_all [] a = tt
  links_all (l ∷ ls) a = let p = all_parts P (terms_of l) (links_terms ls) a in (link_all l p.0, links_all ls p.1)

  chain_all : (c : ChainOf Tree) → AllByRecursion P (chain_terms c) → AllOfChain P c
  chain_all c a = let p = all_parts P (links_terms c.left) (links_terms c.right) a in (links_all c.left p.0, links_all c.right p.1)

  mutual
    why_all : (w : WhyOf Tree) → AllByRecursion P (why_terms w) → AllOfWhy P w
    why_all (Same_why c) a = chain_all c a
    why_all (Split_why c u ws) a = let p = all_parts P (chain_terms c) (u ∷ whys_terms ws) a in (chain_all c p.0, p.1.0, whys_all ws p.1.1)

    whys_all : (ws : WhysOf Tree) → AllByRecursion P (whys_terms ws) → AllOfWhys P ws
    whys_all no_why a = tt
    whys_all (more_whys w ws) a = let p = all_parts P (why_terms w) (whys_terms ws) a in (why_all w p.0, whys_all ws p.1)

  step_all : (s : ProofStep Tree) → AllByRecursion P (step_terms s) → AllOfStep P s
  step_all (Simplify c) a = chain_all c a
  step_all (Reduce w) a = why_all w a
  step_all Derive a = tt
  step_all (Cases u) a = a.0
  step_all Done a = tt

  pub steps_all : (ss : List (ProofStep Tree)) → AllByRecursion P (flat_map step_terms ss) → AllByRecursion (AllOfStep P) ss
  steps_all [] a = tt
  steps_all (s ∷ ss) a = let p = all_parts P (step_terms s) (flat_map step_terms ss) a in (step_all s p.0, steps_all ss p.1)
