-- Links without conditions, as they lie in memory.
use Rattle.std.proofs.Common.{◌≡◌, ℕ, Bool, true, false, ◌==◌, List, [], ◌∷◌, length, Vec, Global, refl, ap, sym, ◌∙◌, arith}
use Rattle.std.proofs.lemmas.Bool.{eqb-true}
use Rattle.circ_term.specs.Tree.{Tree}
use Rattle.circ_theory.specs.declared.way.Way.{Way}
use Rattle.circ_proof.specs.Plain.{plain_link, plain_chains}
use Rattle.circ_proof.specs.declared.links.Chain.{Chain}
use Rattle.circ_proof.specs.declared.links.Link.{Equation, Hypothesis}
use Rattle.circ_proof.proofs.Rows.{equation_plain, hypothesis_plain}
use Rattle.circ_conditional_search.specs.Versions.{has_no_chain, is_plain_link}

pub no_chains : (cs : List (Chain Tree)) → (length cs == 0) ≡ has_no_chain (plain_chains cs)
no_chains [] = refl
no_chains (c ∷ cs) = go (length (c ∷ cs) == 0) refl
  where
    go : (b : Bool) → (length (c ∷ cs) == 0) ≡ b → b ≡ false
    go true e = absurd (let z = eqb-true (length (c ∷ cs)) 0 e in omega (arith, z))
    go false e = refl

pub equation_bare : (number : ℕ) (way : Way) (path : _) (terms : Vec Tree Global) (conds : Vec (Chain Tree) Global)
    → (length conds.items == 0) ≡ is_plain_link (plain_link (Equation number way path terms conds))
equation_bare number way path terms conds = no_chains conds.items ∙ sym (ap is_plain_link (equation_plain number way path terms conds))

pub hypothesis_bare : (number : ℕ) (way : Way) (path : _) (terms : Vec Tree Global) (conds : Vec (Chain Tree) Global)
    → (length conds.items == 0) ≡ is_plain_link (plain_link (Hypothesis number way path terms conds))
hypothesis_bare number way path terms conds = no_chains conds.items ∙ sym (ap is_plain_link (hypothesis_plain number way path terms conds))
