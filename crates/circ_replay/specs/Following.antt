-- What following links and whys answers.
use Rattle.std.specs.Prelude.{List, Option, Some, None}
use Rattle.circ_term.specs.Tree.{Tree}
use Rattle.circ_theory.specs.Theory.{Pair}
use Rattle.circ_theory.specs.Pairs.{plain_pair}
use Rattle.circ_theory.specs.Pairs.{PairOfTerms}
use Rattle.circ_proof.specs.Plain.{LinkOf, ChainOf}
use Rattle.circ_proof.specs.Runs.{Runs}
use Rattle.circ_proof.specs.Link.{Setting, Leads}
use Rattle.circ_proof.specs.Justified.{ChainLeads}

-- the one term that the link leads to, or that there is none
abbrev pub Follows : Setting → LinkOf Tree → Tree → Option Tree → Type 0
Follows c l t None = (u : Tree) → Leads c l t u → ⊥
Follows c l t (Some u) = Leads c l t u

-- the one term that the links lead to, one after another, or that there is none
abbrev pub FollowsAll : Setting → List (LinkOf Tree) → Tree → Option Tree → Type 0
FollowsAll c ls t None = (u : Tree) → Runs (Leads c) ls t u → ⊥
FollowsAll c ls t (Some u) = Runs (Leads c) ls t u

-- the one pair that the chain leads to, or that there is none
abbrev pub FollowsChain : Setting → ChainOf Tree → Pair → Option PairOfTerms → Type 0
FollowsChain c chain p None = (q : Pair) → ChainLeads (Leads c) chain p q → ⊥
FollowsChain c chain p (Some q) = ChainLeads (Leads c) chain p (plain_pair q)
