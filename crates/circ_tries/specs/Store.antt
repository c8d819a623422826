-- What is known of interned terms.
use Rattle.std.specs.Prelude.{◌≡◌, ◌⊎◌, ◌≤◌, ◌<◌, ◌^◌, ℕ, zero, suc, Bool, true, false, List, [], ◌∷◌, Option}
use Rattle.std.specs.List.{list_all}
use Rattle.circ_term.specs.Growing.{Grows}
use Rattle.circ_term.specs.Tree.{Tree, Trees, App}
use Rattle.circ_rewrite.specs.Replacement.{Replacement}
use Rattle.circ_rewrite.specs.Standing.{IsSettled}
use Rattle.circ_nodes.specs.Built.{AreBuilt}
use Rattle.circ_nodes.specs.Named.{IsNamed, AreNamed}
use Rattle.circ_due.specs.Chosen.{IsReady, due_by}
use Rattle.circ_due.specs.declared.means.Means.{Means}
use Rattle.circ_tries.specs.declared.store.Store.{Store}

-- whether the term of a number is known to be normal wherever it stands
abbrev pub still_at : List Bool → ℕ → Bool
still_at [] n = false
still_at (b ∷ bs) zero = b
still_at (b ∷ bs) (suc n) = still_at bs n

-- the same is known of each term
abbrev pub HasSameStill : (old new : List Bool) → Type 0
HasSameStill old new = (n : ℕ) → still_at new n ≡ still_at old n

-- it is known of this term, and of the others what was known
abbrev pub PutsStill : (number : ℕ) → (old new : List Bool) → Type 0
PutsStill number old new = (n : ℕ) → (n ≡ number) ⊎ (still_at new n ≡ still_at old n)

-- each argument is known to be normal
abbrev pub HasStillArgs : (nodes : List Tree) → List Bool → (number : ℕ) → Type 0
HasStillArgs nodes still n = (ns : List ℕ) × (list_all (still_at still) ns ≡ true)
    × ((f s : ℕ) (ts : Trees) → IsNamed nodes n (App f s ts) → AreNamed nodes ns ts)

-- what is known is right: where `due` tells what any rule would do whose left side matches, nothing is due in the term
abbrev pub AreStill : (due : Tree → Option Replacement) → (nodes : List Tree) → List Bool → Type 0
AreStill due nodes still = (n : ℕ) → still_at still n ≡ true → (t : Tree) × IsNamed nodes n t × IsSettled due t

-- the means are right for the terms, and so is all that is known
pub record IsStore (m : Means) (s : Store) : Type 0 where
  pub ready : IsReady s.nodes m
  pub right : AreStill (due_by m) s.nodes s.still.items
  pub built : AreBuilt s.nodes s.terms

-- the work may begin on a store, with so many tries around it and with this budget
pub record IsReadyToWork (m : Means) (s : Store) (around budget : ℕ) : Type 0 where
  pub store : IsStore m s
  pub tries : around ≤ 8
  pub fits : budget < 2 ^ 64

-- the work has gone on: the store is right, its table has grown, and no more is left of the budget than there was
pub record HasWorked (m : Means) (old new : Store) (budget left : ℕ) : Type 0 where
  pub store : IsStore m new
  pub grows : Grows old.nodes new.nodes
  pub less : left ≤ budget
