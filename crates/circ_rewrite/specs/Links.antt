-- Traces as links of a proof.
use Rattle.std.specs.Prelude.{◌≡◌, ℕ, List, map, Some}
use Rattle.std.specs.List.{slice_get}
use Rattle.circ_term.specs.Tree.{Tree, sort_of}
use Rattle.circ_theory.specs.Signature.{IsWellSorted}
use Rattle.circ_theory.specs.Theory.{Theory, goal_of, IsVisible, IsWellSortedGoal}
use Rattle.circ_theory.specs.Goal.{Equation}
use Rattle.circ_theory.specs.Goal.{Goal}
use Rattle.circ_theory.specs.declared.way.Way.TheVariants.{Forth}
use Rattle.circ_proof.specs.Plain.{LinkOf, LinksOf, ChainsOf, Equation_link, Hypothesis_link, Assumption_link, Content_link, no_link, more_links, no_chain, more_chains}
use Rattle.circ_proof.specs.Link.{Setting, Leads}
use Rattle.circ_proof.specs.Runs.{Runs}
use Rattle.circ_rewrite.specs.Replacement.{Reason, By_rule, By_assumption, By_content, Traces, no_trace, more_traces, Passes, no_pass, more_passes, Traced}
use Rattle.circ_rewrite.specs.Due.{rule_goal, IsRewriteRule}
use Rattle.circ_rewrite.specs.declared.parts.Rule.{Rule}
use Rattle.circ_rewrite.specs.declared.parts.RuleName.{RuleName}
use Rattle.circ_rewrite.specs.declared.parts.RuleName.TheVariants as name

-- the link by a rule of this name
abbrev pub rule_link : RuleName → (path : List ℕ) (terms : List Tree) → ChainsOf Tree → LinkOf Tree
rule_link (name.Equation number) path terms conds = Equation_link number Forth path terms conds
rule_link (name.Lemma number) path terms conds = Hypothesis_link number Forth path terms conds

-- the link that records the same replacement; traces in a row; and the chains that record why conditions hold
abbrev mutual
  pub link_by : (path : List ℕ) → Reason → LinkOf Tree
  link_by path (By_rule name terms conds) = rule_link name path terms (chains_by conds)
  link_by path (By_assumption number) = Assumption_link number Forth path
  link_by path (By_content op term) = Content_link op path term

  pub row_by : Traces → LinksOf Tree
  row_by no_trace = no_link
  row_by (more_traces path reason rest) = more_links (link_by path reason) (row_by rest)

  pub chains_by : Passes → ChainsOf Tree
  chains_by no_pass = no_chain
  chains_by (more_passes left right rest) = more_chains (row_by left) (row_by right) (chains_by rest)

abbrev pub link_of : Traced → LinkOf Tree
link_of tr = link_by tr.path tr.reason

-- the equation of this number says this; or the goal of this number is it, and is visible
abbrev pub IsNamed : Theory → (goals : List Goal) → RuleName → Goal → Type 0
IsNamed th goals (name.Equation number) g = (e : Equation) × (slice_get th.equations number ≡ Some e) × (goal_of e ≡ g)
IsNamed th goals (name.Lemma number) g = (slice_get goals number ≡ Some g) × IsVisible th (sort_of g.left)

-- A rule of a theory and of earlier goals: a rewrite rule, well-sorted, and what its name says.
pub record IsRuleOf (th : Theory) (goals : List Goal) (r : Rule) : Type 0 where
  pub rewrites : IsRewriteRule r
  pub sorted : IsWellSortedGoal th (rule_goal r)
  pub named : IsNamed th goals r.name (rule_goal r)

-- The traces are links that lead from t to u, which is well-sorted and of t's sort.
pub record AreLinks (c : Setting) (traces : List Traced) (t u : Tree) : Type 0 where
  pub lead : Runs (Leads c) (map link_of traces) t u
  pub well_sorted : IsWellSorted c.theory.signature u
  pub same_sort : sort_of u ≡ sort_of t
