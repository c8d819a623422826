-- Conditions of links that are open, the outermost first.
use Rattle.std.specs.Prelude.{◌≡◌, ℕ, Bool, true, false, List, [], ◌∷◌, Some, None}
use Rattle.circ_proof.specs.Plain.{LinkOf, ChainOf}
use Rattle.circ_grammar.specs.Machine.{in_last, in_chain}
use Rattle.circ_grammar.specs.Now.{Now, Joining}

-- the part under way inside conditions with these chains
abbrev pub nested : Now → List (ChainOf ℕ) → Now
nested n [] = n
nested n (c ∷ cs) = nested (Joining n c) cs

-- the last link has the chain of one condition more, or can have none
abbrev pub GivesLast : Bool → (old : List (LinkOf ℕ)) → ChainOf ℕ → (new : List (LinkOf ℕ)) → Type 0
GivesLast true old c new = in_last old c ≡ Some new
GivesLast false old c new = in_last old c ≡ None

abbrev pub GivesChain : Bool → (old : ChainOf ℕ) → ChainOf ℕ → (new : ChainOf ℕ) → Type 0
GivesChain true old c new = in_chain old c ≡ Some new
GivesChain false old c new = in_chain old c ≡ None
