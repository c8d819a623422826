-- Goals as lines: those of a proof, and those that its blocks derived; and pairs.
use Rattle.std.specs.Prelude.{ℕ, ◌+◌, List, [], ◌∷◌, ◌++◌, flat_map, codes, decimal}
use Rattle.circ_theory.specs.Signature.{Signature}
use Rattle.circ_theory.specs.Theory.{Pair}
use Rattle.circ_theory.specs.Goal.{Goal}
use Rattle.circ_mixfix.specs.Printing.{text_of_pair, text_of_goal}

-- a pair as a line that begins with a label
abbrev pub pair_line : (label : List ℕ) → Signature → Pair → List ℕ
pair_line label sig p = label ++ text_of_pair sig p ++ codes "\n"

abbrev pub pair_lines : (label : List ℕ) → Signature → List Pair → List ℕ
pair_lines label sig ps = flat_map (pair_line label sig) ps

-- a goal, with its conditions, as a line that begins with a label
abbrev pub labelled_goal : (label : List ℕ) → Signature → Goal → List ℕ
labelled_goal label sig g = label ++ text_of_goal sig g ++ codes "\n"

abbrev pub labelled_goals : (label : List ℕ) → Signature → List Goal → List ℕ
labelled_goals label sig gs = flat_map (labelled_goal label sig) gs

-- the goals of a proof
abbrev pub goal_lines : Signature → List Goal → List ℕ
goal_lines sig goals = labelled_goals (codes "goal: ") sig goals

-- the goals of lists of goals, one a line
abbrev pub all_goal_lines : Signature → List (List Goal) → List ℕ
all_goal_lines sig goals = flat_map (goal_lines sig) goals

-- the number of a block, and the goals that it derived
abbrev pub block_lines : Signature → (number : ℕ) → List Goal → List ℕ
block_lines sig n derived = codes "block " ++ decimal n ++ codes "\n" ++ labelled_goals (codes "pair: ") sig derived

-- what each block derived; blocks are numbered from n
abbrev pub relation_lines : Signature → (n : ℕ) → List (List Goal) → List ℕ
relation_lines sig n [] = []
relation_lines sig n (ds ∷ dss) = block_lines sig n ds ++ relation_lines sig (n + 1) dss
