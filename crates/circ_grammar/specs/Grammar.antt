-- A proof as its lines write it, with the numbers of its table for terms, and its lines in their order.
use Rattle.std.specs.Prelude.{◌≡◌, ℕ, ◌<◌, List, [], ◌∷◌, ◌++◌, length, Bool, true, false}
use Rattle.std.specs.List.{AllByRecursion}
use Rattle.circ_proof.specs.Plain.{LinkOf, LinksOf, ChainsOf, Equation_link, Hypothesis_link, Assumption_link, Content_link, no_link, more_links, no_chain}
use Rattle.circ_proof.specs.Plain.{more_chains, chains_in, ChainOf, WhyOf, WhysOf, Same_why, Split_why, no_why, more_whys}
use Rattle.circ_proof.specs.Proof.{GoalNames}
use Rattle.circ_proof.specs.Counting.{why_count}
use Rattle.circ_line.specs.Line.{TableLine, Line, head_line, table_line, place_line, certificate_line, block_line, goal_line, given_line, simplify_line}
use Rattle.circ_line.specs.Line.{reduce_line, derive_line, cases_line, done_line, same_line, split_line, if_line, left_line, right_line, end_line}

pub data NumberedStep : Type 0 where
  Simplify_step : ChainOf ℕ → NumberedStep
  Reduce_step : WhyOf ℕ → NumberedStep
  Derive_step : NumberedStep
  Cases_step : (term : ℕ) → NumberedStep

-- A block's last step is Done, which is not among its steps here.
pub record NumberedBlock : Type 0 where
  pub goals : List GoalNames
  pub steps : List NumberedStep

-- the lines of the table, with the version that the first line names
pub record NumberedTable : Type 0 where
  pub version : ℕ
  pub lines : List TableLine

pub record NumberedProof : Type 0 where
  pub table : NumberedTable
  pub places : List (ℕ × ℕ)
  pub certificates : List (List (LinkOf ℕ))
  pub blocks : List NumberedBlock

-- Each word below gives the lines of a thing and then the lines k.

abbrev pub lines_of : {A : Type 0} → (A → List Line → List Line) → List A → List Line → List Line
lines_of f [] k = k
lines_of f (x ∷ xs) k = f x (lines_of f xs k)

abbrev pub table_lines : TableLine → List Line → List Line
table_lines t k = table_line t ∷ k

abbrev pub place_lines : ℕ × ℕ → List Line → List Line
place_lines p k = place_line p.0 p.1 ∷ k

abbrev pub head_lines : NumberedTable → List Line → List Line
head_lines t k = head_line t.version ∷ lines_of table_lines t.lines k

-- a link without the chains of its conditions, as its own line has it
abbrev pub bare : {T : Type 0} → LinkOf T → LinkOf T
bare (Equation_link number way path terms conds) = Equation_link number way path terms no_chain
bare (Hypothesis_link number way path terms conds) = Hypothesis_link number way path terms no_chain
bare (Assumption_link number way path) = Assumption_link number way path
bare (Content_link op path term) = Content_link op path term

abbrev pub is_no_chain : {T : Type 0} → ChainsOf T → Bool
is_no_chain no_chain = true
is_no_chain (more_chains left right rest) = false

abbrev pub is_bare : {T : Type 0} → LinkOf T → Bool
is_bare l = is_no_chain (chains_in l)

-- the chains of conditions, each between `if` and `same`, those of a link after its own line
abbrev mutual
  pub conds_lines : ChainsOf ℕ → List Line → List Line
  conds_lines no_chain k = k
  conds_lines (more_chains left right rest) k = if_line ∷ left_row left (right_row right (same_line ∷ conds_lines rest k))

  pub left_row : LinksOf ℕ → List Line → List Line
  left_row no_link k = k
  left_row (more_links l ls) k = left_line (bare l) ∷ link_conds l (left_row ls k)

  pub right_row : LinksOf ℕ → List Line → List Line
  right_row no_link k = k
  right_row (more_links l ls) k = right_line (bare l) ∷ link_conds l (right_row ls k)

  pub link_conds : LinkOf ℕ → List Line → List Line
  link_conds (Equation_link number way path terms conds) k = conds_lines conds k
  link_conds (Hypothesis_link number way path terms conds) k = conds_lines conds k
  link_conds (Assumption_link number way path) k = k
  link_conds (Content_link op path term) k = k

abbrev pub left_lines : LinkOf ℕ → List Line → List Line
left_lines l k = left_line (bare l) ∷ link_conds l k

abbrev pub right_lines : LinkOf ℕ → List Line → List Line
right_lines l k = right_line (bare l) ∷ link_conds l k

abbrev pub given_lines : ℕ × ℕ → List Line → List Line
given_lines p k = given_line p.0 p.1 ∷ k

abbrev pub goal_lines : GoalNames → List Line → List Line
goal_lines g k = goal_line g.left g.right ∷ lines_of given_lines g.conds k

abbrev pub chain_lines : ChainOf ℕ → List Line → List Line
chain_lines c k = lines_of left_lines c.left (lines_of right_lines c.right k)

abbrev mutual
  pub why_lines : WhyOf ℕ → List Line → List Line
  why_lines (Same_why c) k = chain_lines c (same_line ∷ k)
  why_lines (Split_why c t ws) k = chain_lines c (split_line t (why_count ws) ∷ whys_lines ws k)

  pub whys_lines : WhysOf ℕ → List Line → List Line
  whys_lines no_why k = k
  whys_lines (more_whys w ws) k = why_lines w (whys_lines ws k)

abbrev pub step_lines : NumberedStep → List Line → List Line
step_lines (Simplify_step c) k = simplify_line ∷ chain_lines c k
step_lines (Reduce_step w) k = reduce_line ∷ why_lines w k
step_lines Derive_step k = derive_line ∷ k
step_lines (Cases_step term) k = cases_line term ∷ k

abbrev pub certificate_lines : List (LinkOf ℕ) → List Line → List Line
certificate_lines ls k = certificate_line ∷ lines_of left_lines ls k

abbrev pub block_lines : NumberedBlock → List Line → List Line
block_lines b k = block_line ∷ lines_of goal_lines b.goals (lines_of step_lines b.steps (done_line ∷ k))

-- the lines of a proof: the head with the table, the places, the certificates, the blocks, the end
abbrev pub proof_lines : NumberedProof → List Line
proof_lines p = head_lines p.table (lines_of place_lines p.places
    (lines_of certificate_lines p.certificates (lines_of block_lines p.blocks (end_line ∷ []))))

abbrev pub HasGoals : NumberedBlock → Type 0
HasGoals b = 0 < length b.goals

-- There is at least one block, and in each block at least one goal.
abbrev pub HasParts : NumberedProof → Type 0
HasParts p = (0 < length p.blocks) × AllByRecursion HasGoals p.blocks

-- The lines are the first lines of some proof.
abbrev pub BeginsProof : List Line → Type 0
BeginsProof ls = (p : NumberedProof) × (later : List Line) × HasParts p × (proof_lines p ≡ ls ++ later)
