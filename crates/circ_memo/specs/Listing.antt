-- Listing the traces of a term that stands at a path.
use Rattle.std.specs.Prelude.{◌≡◌, ℕ, List, length, Option, Some, None}
use Rattle.std.specs.Option.{option_map_or}
use Rattle.circ_term.specs.Tree.{Tree, Trees, App, list_of}
use Rattle.circ_rewrite.specs.Replacement.{Replacement, Traced}
use Rattle.circ_rewrite.specs.Standing.{IsSettled}
use Rattle.circ_nodes.specs.Named.{IsNamed}
use Rattle.circ_chain.specs.Listed.{Lists, ListsThrough}
use Rattle.circ_memo.specs.Keeping.{kept_at}
use Rattle.circ_memo.specs.declared.parts.Entry.{Entry}

-- how many replacements are kept of a number
abbrev pub count_at : List (Option Entry) → ℕ → ℕ
count_at es n = option_map_or (λ e. e.count) (kept_at es n) 0

module _ (due : Tree → Option Replacement) where
  -- the traces from t to its normal form are listed
  abbrev pub ListsAll : (p : List ℕ) → Tree → (old new : List Traced) → Type 0
  ListsAll p t old new = (v : Tree) × IsSettled due v × Lists due p t v old new

  -- those to the term of the next number, or to the normal form
  abbrev pub ListsStep : (nodes : List Tree) → (p : List ℕ) → Tree → (old new : List Traced) → Option ℕ → Type 0
  ListsStep nodes p t old new None = ListsAll p t old new
  ListsStep nodes p t old new (Some m) = (x : Tree) × IsNamed nodes m x × Lists due p t x old new

  -- those in all arguments
  abbrev pub ListsArgs : (p : List ℕ) → Tree → (old new : List Traced) → Type 0
  ListsArgs p t old new = (f s : ℕ) × (ts us : Trees) × (t ≡ App f s ts) × ListsThrough due p f s (length (list_of ts)) ts us old new
