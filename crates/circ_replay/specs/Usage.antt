-- A link by itself: what it leads to, and which terms its conditions ask to lead to one.
use Rattle.std.specs.Prelude.{List, [], ◌∷◌, Option, Some, None}
use Rattle.circ_term.specs.Tree.{Tree}
use Rattle.circ_theory.specs.Theory.{Pair}
use Rattle.circ_proof.specs.Plain.{LinkOf, LinksOf, ChainsOf, no_chain, more_chains, chains_in}
use Rattle.circ_proof.specs.Link.{Setting, Leads, RowLeads}

-- the sides of the pair lead to one term
abbrev pub Meets : Setting → (left right : LinksOf Tree) → Pair → Type 0
Meets c l r p = (m : Tree) × RowLeads c l p.left m × RowLeads c r p.right m

-- so do those of each pair, by its chain
abbrev pub AllMeet : Setting → List Pair → ChainsOf Tree → Type 0
AllMeet c [] no_chain = Unit {0}
AllMeet c [] (more_chains l r cs) = ⊥
AllMeet c (p ∷ ps) no_chain = ⊥
AllMeet c (p ∷ ps) (more_chains l r cs) = Meets c l r p × AllMeet c ps cs

-- the link leads from t to u where its chains let these pairs meet, and else nowhere
pub record IsUse (c : Setting) (l : LinkOf Tree) (t u : Tree) (pairs : List Pair) : Type 0 where
  pub leads : AllMeet c pairs (chains_in l) → Leads c l t u
  pub only : (v : Tree) → Leads c l t v → AllMeet c pairs (chains_in l)

-- a term to which a link leads where the sides of these pairs lead to one term
pub record Use : Type 0 where
  pub term : Tree
  pub conds : List Pair

-- what the link leads to and its pairs, or that it leads nowhere
abbrev pub Uses : Setting → LinkOf Tree → Tree → Option Use → Type 0
Uses c l t None = (u : Tree) → Leads c l t u → ⊥
Uses c l t (Some x) = IsUse c l t x.term x.conds

-- a term to which a link without conditions leads
abbrev pub unconditional : Tree → Use
unconditional t = record { term = t; conds = [] }
