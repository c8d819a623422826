-- The state of a memo at work.
use Rattle.std.specs.Prelude.{◌≤◌, ℕ, List}
use Rattle.circ_term.specs.Growing.{Grows}
use Rattle.circ_term.specs.Tree.{Tree}
use Rattle.circ_nodes.specs.Built.{AreBuilt}
use Rattle.circ_due.specs.Chosen.{IsReady, due_by}
use Rattle.circ_due.specs.declared.means.Means.{Means}
use Rattle.circ_memo.specs.Keeping.{AreKept, Stays}
use Rattle.circ_memo.specs.Value.{Rewriting}
use Rattle.circ_memo.specs.declared.store.Store.{Store}

-- what contracts see
abbrev pub rewriting : Means → Rewriting
rewriting m = record { theory = m.theory.now; rules = m.rules.items; assumptions = m.assumptions }

-- the means are right for the terms, and so is all that is kept
pub record IsStore (m : Means) (s : Store) : Type 0 where
  pub ready : IsReady s.nodes m
  pub kept : AreKept (due_by m) s.nodes s.entries

-- the store is right, and so are the terms that were built of its numbers
pub record IsAtWork (m : Means) (s : Store) (terms : List (ℕ × Tree)) : Type 0 where
  pub store : IsStore m s
  pub built : AreBuilt s.nodes terms

-- terms may have been added, and more may be kept
pub record Extends (old new : Store) : Type 0 where
  pub grows : Grows old.nodes new.nodes
  pub stays : Stays old.entries new.entries

-- the work has gone on: the store is right and extends the one before, and no more is left of the budget than there was
pub record HasWorked (m : Means) (old new : Store) (budget left : ℕ) : Type 0 where
  pub store : IsStore m new
  pub extends : Extends old new
  pub less : left ≤ budget
