-- Open splits, as a reader keeps them: the innermost last.
use Rattle.std.specs.Prelude.{ℕ, ◌+◌, List, [], ◌∷◌, Option, Some, None, cond, nat_eq}
use Rattle.circ_proof.specs.Plain.{WhyOf, Split_why, plain_chain, plain_whys}
use Rattle.circ_proof.specs.Counting.{why_count}
use Rattle.circ_grammar.specs.Machine.{OpenSplit, open_split, push_why, empty}
use Rattle.circ_grammar.specs.Now.{Now, Stepping, Reducing}
use Rattle.circ_proof.specs.Rules.{Reduce}
use Rattle.circ_proof_text.specs.Parts.{Part, Step}
use Rattle.circ_file.specs.declared.splits.OpenSplit.{OpenSplit as CodeSplit}

abbrev pub plain_split : CodeSplit → OpenSplit
plain_split s = open_split (plain_chain s.chain) s.term s.count (plain_whys s.whys.items)

-- the splits, the innermost first, and then the splits k
abbrev pub tops : List CodeSplit → List OpenSplit → List OpenSplit
tops [] k = k
tops (s ∷ ss) k = tops ss (plain_split s ∷ k)

-- a whole why is given to the innermost split: the splits that are still open, and the why that none waits for
abbrev pub given : List OpenSplit → WhyOf ℕ → List OpenSplit × Option (WhyOf ℕ)
given [] w = ([], Some w)
given (s ∷ ss) w = cond (nat_eq (why_count s.whys + 1) s.count) (given ss (Split_why s.chain s.term (push_why s.whys w)))
    (open_split s.chain s.term s.count (push_why s.whys w) ∷ ss, None)

-- the part that is under way then
abbrev pub now_given : List OpenSplit × Option (WhyOf ℕ) → Now
now_given (ss, Some w) = Stepping
now_given (ss, None) = Reducing ss empty

-- the part that is whole then, if one is
abbrev pub parts_given : List OpenSplit × Option (WhyOf ℕ) → List Part
parts_given (ss, Some w) = Step (Reduce w) ∷ []
parts_given (ss, None) = []
