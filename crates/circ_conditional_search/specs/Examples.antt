-- The theory GATE and goals that try the definitions, with what a search of them finds.
use Rattle.std.specs.Prelude.{ℕ, ◌+◌, zero, suc, Bool, List, [], ◌∷◌, ◌++◌, codes, Option, Some, None, Result, Ok, Err}
use Rattle.circ_term.specs.Tree.{Tree}
use Rattle.circ_theory.specs.Theory.{Theory, pair_with, Pair}
use Rattle.circ_theory.specs.Examples.{plain_op}
use Rattle.circ_theory.specs.Goal.{Equation}
use Rattle.circ_theory.specs.Goal.{Goal}
use Rattle.circ_proof.specs.Proof.{Block, steps_in}
use Rattle.circ_proof.specs.Rules.{ProofStep, Derive}
use Rattle.circ_plain_search.specs.Examples.{bits, equation, on_two, zero_bit, one_bit, hd, tl, x, s}
use Rattle.circ_plain_search.specs.Examples.{limits}
use Rattle.circ_plain_search.specs.Numbering.{Found, Proved, Special, special}
use Rattle.circ_plain_search.specs.Search.{Standing, Ending, start}
use Rattle.circ_conditional_search.specs.Search.{Manner, turn_trying}
use Rattle.circ_conditional_search.specs.Versions.{versioned_found}

-- what is found, where the search ends within so many turns
abbrev pub found_by_trying : (turns : ℕ) → Theory → Special → Manner → Result Standing Ending → Option Found
found_by_trying n th s m (Err e) = Some (versioned_found s e)
found_by_trying zero th s m (Ok st) = None
found_by_trying (suc n) th s m (Ok st) = found_by_trying n th s m (turn_trying th s.places m st)

abbrev pub manner : (steps derives : ℕ) → (split : Bool) → Manner
manner steps derives split = record { limits = limits steps derives; split = split }

-- the search of these blocks, within twenty turns
abbrev pub search_trying : Theory → Special → Manner → List (List Goal) → Option Found
search_trying th s m blocks = found_by_trying 20 th s m (Ok (start m.limits blocks))

abbrev pub equation_if : Tree → Tree → List Pair → Equation
equation_if l r conds = record (equation l r) { conds = conds }

abbrev pub gate : Tree → Tree → Tree
gate b t = on_two 10 1 b t

-- hd(gate(X, S)) = hd(S) if X = 1, hd(gate(X, S)) = 0 if X = 0, tl(gate(X, S)) = gate(X, tl(S))
abbrev pub gates : Theory
gates = record bits {
  name = codes "GATE";
  signature = record bits.signature { ops = bits.signature.ops ++ plain_op (codes "gate") (0 ∷ 1 ∷ []) 1 ∷ [] };
  equations = bits.equations
      ++ equation_if (hd (gate x s)) (hd s) (pair_with x one_bit ∷ []) ∷ equation_if (hd (gate x s)) zero_bit (pair_with x zero_bit ∷ [])
      ∷ equation (tl (gate x s)) (gate x (tl s)) ∷ [];
}

abbrev pub no_places : Special
no_places = special [] []

-- the steps and the Derive steps of a proof
abbrev pub derives_in : List (ProofStep ℕ) → ℕ
derives_in [] = 0
derives_in (Derive ∷ xs) = suc (derives_in xs)
derives_in (x ∷ xs) = derives_in xs

abbrev pub all_derives_in : List Block → ℕ
all_derives_in [] = 0
all_derives_in (b ∷ bs) = derives_in b.steps + all_derives_in bs

abbrev pub step_counts : Option Found → Option (ℕ × ℕ)
step_counts (Some (Proved p)) = Some (steps_in p.blocks, all_derives_in p.blocks)
step_counts x = None
