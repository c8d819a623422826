-- What is answered by what a search finds, with its text and what is stored.
use Rattle.std.specs.Prelude.{◌≡◌, ◌+◌, ℕ, List, [], ◌∷◌, ◌++◌, length, map, Some, None, false, nat_lt, if◌then◌else◌, codes, decimal}
use Rattle.circ_term.specs.Tree.{Tree}
use Rattle.circ_theory.specs.Signature.{Signature}
use Rattle.circ_theory.specs.Theory.{Theory, Pair}
use Rattle.circ_theory.specs.Goal.{Goal}
use Rattle.circ_mixfix.specs.Printing.{text_of_term}
use Rattle.circ_proof.specs.Proof.{Block, Proof, steps_in}
use Rattle.circ_proof.specs.Rules.{ProofStep, Derive}
use Rattle.circ_proof_text.specs.ProofText.{proof_text}
use Rattle.circ_show.specs.GoalsText.{pair_lines, all_goal_lines}
use Rattle.circ_plain_search.specs.Numbering.{Found, Proved, LongTable, Stuck, Spent, TooBig, TooDeep}
use Rattle.circ_attempt.specs.RewritingSearch.{RewritingSearch}
use Rattle.circ_attempt.specs.Search.{Conduct}
use Rattle.circ_status.specs.Texts.{too_long_text, spent_text, too_big_text, too_deep_text}
use Rattle.circ_status.specs.declared.status.Status.TheVariants as status
use Rattle.circ_status.specs.Ending.{stored_as, Ending, ending}

abbrev pub derives_among : List (ProofStep ℕ) → ℕ
derives_among [] = 0
derives_among (Derive ∷ ss) = derives_among ss + 1
derives_among (_ ∷ ss) = derives_among ss

-- the number of Derive steps
abbrev pub derives_in : List Block → ℕ
derives_in [] = 0
derives_in (b ∷ bs) = derives_among b.steps + derives_in bs

abbrev pub counts_text : (steps derives : ℕ) → List ℕ
counts_text s d = codes "steps: " ++ decimal s ++ codes "\nderives: " ++ decimal d ++ codes "\n"

-- what is printed of a proof that was found: its goals, and how many steps and Derive steps it has
abbrev pub proved_text : Signature → Proof → List ℕ
proved_text sig p =
    codes "proved\n" ++ all_goal_lines sig (map (λ b. b.goals) p.blocks) ++ counts_text (steps_in p.blocks) (derives_in p.blocks)

abbrev pub side_line : (label : List ℕ) → Signature → Tree → List ℕ
side_line label sig t = label ++ text_of_term sig false t ++ codes "\n"

-- what is printed of a goal that the search cannot do: its block, its sides as they stand, and the cases that are assumed
abbrev pub stuck_text : Signature → (block : ℕ) → (left right : Tree) → (assumptions : List Pair) → List ℕ
stuck_text sig block s t A =
    codes "stuck in block " ++ decimal block ++ codes "\n" ++ side_line (codes "left: ") sig s ++ side_line (codes "right: ") sig t
    ++ pair_lines (codes "case: ") sig A

-- A proof is stored, unless its text is longer than a file may be.
abbrev pub proof_ending : Signature → (name : List ℕ) → Proof → Ending
proof_ending sig name p =
    if nat_lt 67108864 (length (proof_text p)) then ending (status.TooLong 3 (length (proof_text p))) (too_long_text 3) None
    else ending status.Ok (proved_text sig p) (Some (stored_as name (proof_text p)))

-- What is answered by what the search finds. The text of a table that is too long would be too long.
abbrev pub found_ending : Signature → (name : List ℕ) → Found → Ending
found_ending sig name (Proved p) = proof_ending sig name p
found_ending sig name (LongTable n) = ending (status.TooLong 3 67108865) (too_long_text 3) None
found_ending sig name (Stuck b g s t A) = ending (status.Stuck b g) (stuck_text sig b s t A) None
found_ending sig name (Spent r d n) = ending (status.Spent r d n) (spent_text r d n) None
found_ending sig name (TooBig n) = ending (status.TooBig n) (too_big_text n) None
found_ending sig name (TooDeep n) = ending (status.TooDeep n) (too_deep_text n) None

-- The search for a proof of a script's goals ends so.
pub record SearchEnds (th : Theory) (conduct : Conduct) (name : List ℕ) (blocks : List (List Goal)) (e : Ending) : Type 0 where
  pub found : Found
  pub search : RewritingSearch th blocks conduct found
  pub is : found_ending th.signature name found ≡ e
