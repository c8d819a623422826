-- The proof that a search has found, with the numbers of its terms in its table.
use Rattle.std.specs.Prelude.{ℕ, ◌+◌, Bool, true, false, if◌then◌else◌, nat_lt, List, [], ◌∷◌, ◌++◌, map, length, flat_map}
use Rattle.circ_term.specs.Tree.{Tree}
use Rattle.circ_theory.specs.Theory.{Pair}
use Rattle.circ_theory.specs.Goal.{Goal}
use Rattle.circ_special.specs.declared.place.Place.{Place}
use Rattle.circ_proof.specs.Plain.{LinkOf, ChainOf, WhyOf, WhysOf, Same_why, Split_why, no_why, more_whys, map_link}
use Rattle.circ_proof.specs.Link.{terms_of}
use Rattle.circ_proof.specs.Table.{added, number_in, term_limit}
use Rattle.circ_proof.specs.Rules.{ProofStep, Simplify, Reduce, Derive, Cases, Done, map_step}
use Rattle.circ_proof.specs.Proof.{GoalNames, Block, Proof}
use Rattle.circ_plain_search.specs.Search.{ProvedBlock, Ending, All_done, Is_stuck, Is_spent, Is_too_big, Is_too_deep}

-- the table of a builder that is asked for these terms, one after another
abbrev pub asked_for : (table : List Tree) → List Tree → List Tree
asked_for table [] = table
asked_for table (t ∷ ts) = asked_for (added table t) ts

-- The terms in the order in which they are asked for: links, chains, whys and steps in the order of their lines.

abbrev pub links_terms : List (LinkOf Tree) → List Tree
links_terms ls = flat_map terms_of ls

abbrev pub chain_terms : ChainOf Tree → List Tree
chain_terms c = links_terms c.left ++ links_terms c.right

abbrev mutual
  pub why_terms : WhyOf Tree → List Tree
  why_terms (Same_why c) = chain_terms c
  why_terms (Split_why c u ws) = chain_terms c ++ (u ∷ whys_terms ws)

  pub whys_terms : WhysOf Tree → List Tree
  whys_terms no_why = []
  whys_terms (more_whys w ws) = why_terms w ++ whys_terms ws

abbrev pub step_terms : ProofStep Tree → List Tree
step_terms (Simplify c) = chain_terms c
step_terms (Reduce w) = why_terms w
step_terms Derive = []
step_terms (Cases u) = u ∷ []
step_terms Done = []

abbrev pub side_terms : Pair → List Tree
side_terms p = p.left ∷ p.right ∷ []

-- a goal's left side, its right side, and its conditions
abbrev pub goal_terms : Goal → List Tree
goal_terms g = g.left ∷ g.right ∷ flat_map side_terms g.conds

-- a block's goals, then its steps
abbrev pub block_terms : ProvedBlock → List Tree
block_terms b = flat_map goal_terms b.goals ++ flat_map step_terms b.steps

-- the blocks in order, then the certificates
abbrev pub proof_terms : List ProvedBlock → (certificates : List (List (LinkOf Tree))) → List Tree
proof_terms bs cs = flat_map block_terms bs ++ flat_map links_terms cs

-- Each term by its number in the table. The proof has version 1, as it has no conditions and no case steps.

abbrev pub pair_name : (table : List Tree) → Pair → ℕ × ℕ
pair_name table p = (number_in table p.left, number_in table p.right)

abbrev pub goal_name : (table : List Tree) → Goal → GoalNames
goal_name table g = record { conds = map (pair_name table) g.conds; left = number_in table g.left; right = number_in table g.right }

abbrev pub numbered_links : (table : List Tree) → List (LinkOf Tree) → List (LinkOf ℕ)
numbered_links table ls = map (map_link (number_in table)) ls

abbrev pub numbered_steps : (table : List Tree) → List (ProofStep Tree) → List (ProofStep ℕ)
numbered_steps table xs = map (map_step (number_in table)) xs

abbrev pub numbered_block : (table : List Tree) → ProvedBlock → Block
numbered_block table b = record { goals = b.goals; names = map (goal_name table) b.goals; steps = numbered_steps table b.steps }

abbrev pub numbered_proof : (table : List Tree) → List Place → (certificates : List (List (LinkOf Tree))) → List ProvedBlock → Proof
numbered_proof table G cs bs =
    record { version = 1; table = table; places = G; certificates = map (numbered_links table) cs; blocks = map (numbered_block table) bs }

-- the table of a proof
abbrev pub table_for : (certificates : List (List (LinkOf Tree))) → List ProvedBlock → List Tree
table_for cs bs = asked_for [] (proof_terms bs cs)

abbrev pub proof_with : List Place → (certificates : List (List (LinkOf Tree))) → List ProvedBlock → Proof
proof_with G cs bs = numbered_proof (table_for cs bs) G cs bs

-- the greatest special set and its certificates
pub record Special : Type 0 where
  pub places : List Place
  pub certificates : List (List (LinkOf Tree))

abbrev pub special : List Place → List (List (LinkOf Tree)) → Special
special G cs = record { places = G; certificates = cs }

-- The set with its certificates where a hidden hypothesis was used at a path that is not empty, and no places otherwise.
abbrev pub needed : Bool → Special → Special
needed true s = s
needed false s = special [] []

-- What a search finds: a proof; a proof whose table is too long, with the first length that is; or why there is none.
pub data Found : Type 0 where
  Proved : (proof : Proof) → Found
  LongTable : (terms : ℕ) → Found
  Stuck : (block goal : ℕ) (left right : Tree) (assumptions : List Pair) → Found
  Spent : (rewrites derives steps : ℕ) → Found
  TooBig : (nodes : ℕ) → Found
  TooDeep : (depth : ℕ) → Found

-- the proof, unless its table is too long
abbrev pub proved_or_long : Proof → Found
proved_or_long p = if nat_lt term_limit (length p.table) then LongTable (term_limit + 1) else Proved p

abbrev pub found_of : Special → Ending → Found
found_of s (All_done bs d m deep) = proved_or_long (proof_with (needed deep s).places (needed deep s).certificates bs)
found_of s (Is_stuck b g t u A) = Stuck b g t u A
found_of s (Is_spent r d m) = Spent r d m
found_of s (Is_too_big n) = TooBig n
found_of s (Is_too_deep n) = TooDeep n
