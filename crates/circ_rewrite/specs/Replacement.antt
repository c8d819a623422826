-- Replacements in terms, and how they are recorded.
use Rattle.std.specs.Prelude.{ℕ, List, [], ◌∷◌}
use Rattle.circ_term.specs.Tree.{Tree}
use Rattle.circ_rewrite.specs.declared.parts.RuleName.{RuleName}

-- why a term is replaced: by a rule with these terms for its variables, by an assumption, or by the canonical form under an operator;
-- traces in a row; and for each condition of a rule the traces on its two sides
mutual
  pub data Reason : Type 0 where
    By_rule : (name : RuleName) (terms : List Tree) (conds : Passes) → Reason
    By_assumption : (number : ℕ) → Reason
    By_content : (op : ℕ) (term : Tree) → Reason

  pub data Traces : Type 0 where
    no_trace : Traces
    more_traces : (path : List ℕ) (reason : Reason) (rest : Traces) → Traces

  pub data Passes : Type 0 where
    no_pass : Passes
    more_passes : (left right : Traces) (rest : Passes) → Passes

-- a replacement of a term by a new one
pub record Replacement : Type 0 where
  pub reason : Reason
  pub new : Tree

-- a replacement of the subterm at a path
pub record Placed : Type 0 where
  pub path : List ℕ
  pub replacement : Replacement

-- a replacement that was made
pub record Traced : Type 0 where
  pub path : List ℕ
  pub reason : Reason

abbrev pub placed : List ℕ → Replacement → Placed
placed p r = record { path = p; replacement = r }

-- the same replacement, in a term that has this one as its argument i
abbrev pub below : ℕ → Placed → Placed
below i q = placed (i ∷ q.path) q.replacement

abbrev pub traced : Placed → Traced
traced q = record { path = q.path; reason = q.replacement.reason }

-- a list of traces as a row
abbrev pub trace_row : List Traced → Traces
trace_row [] = no_trace
trace_row (tr ∷ ts) = more_traces tr.path tr.reason (trace_row ts)
