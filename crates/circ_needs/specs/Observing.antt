-- Derivatives by the operator directly above the hole.
use Rattle.std.specs.Prelude.{◌≡◌, ◌<◌, ℕ, ◌+◌, List, [], ◌∷◌, ◌++◌, nat_eq, Some, Vec, length}
use Rattle.std.proofs.Common.{Global}
use Rattle.std.specs.List.{slice_get, Contains}
use Rattle.std.specs.Map.{lookup}
use Rattle.std.specs.Option.{option_map_or}
use Rattle.circ_term.specs.Tree.{Tree, Trees, Var, App, at}
use Rattle.circ_theory.specs.Theory.{Derivative}
use Rattle.circ_needs.specs.declared.observers.Look.{Look}

abbrev pub Looks : Type 0
Looks = List (ℕ × Vec Look Global)

-- what is kept under an operator
abbrev pub looks_at : Looks → (op : ℕ) → List Look
looks_at m f = option_map_or (λ v. v.items) (lookup (nat_eq f) m) []

abbrev pub look : (number steps : ℕ) → Look
look k n = record { number = k; steps = n }

-- what was kept stays
abbrev pub Adds : (old new : Looks) → Type 0
Adds old new = (f : ℕ) (x : Look) → Contains (looks_at old f) x → Contains (looks_at new f) x

-- a variable 0 of any sort
abbrev pub IsHole : Tree → Type 0
IsHole t = (h : ℕ) × (t ≡ Var 0 h)

-- Each hole in t, i steps below the operator f in it, is kept under f, and so is how far it is from the root, from which t is so far.
abbrev pub IsFound : Look → Looks → Tree → Type 0
IsFound x m t = (r : List ℕ) (i f s h : ℕ) (ts : Trees) → at t r ≡ Some (App f s ts) → at t (r ++ i ∷ []) ≡ Some (Var 0 h)
    → Contains (looks_at m f) (look x.number (x.steps + length r))

-- the same of an argument of f
abbrev pub IsArgFound : (op : ℕ) → Look → Looks → Tree → Type 0
IsArgFound f x m t = (IsHole t → Contains (looks_at m f) x) × IsFound (look x.number (x.steps + 1)) m t

abbrev pub AreArgsFound : (op : ℕ) → Look → Looks → List Tree → Type 0
AreArgsFound f x m ts = (i : ℕ) (t : Tree) → slice_get ts i ≡ Some t → IsArgFound f x m t

-- the row has each derivative whose hole is directly below f, and how far the hole is from the root
abbrev pub IsRow : List Derivative → (op : ℕ) → List Look → Type 0
IsRow ds f xs = (k : ℕ) (d : Derivative) → slice_get ds k ≡ Some d → (r : List ℕ) (i s h : ℕ) (ts : Trees) → at d.body r ≡ Some (App f s ts)
    → at d.body (r ++ i ∷ []) ≡ Some (Var 0 h) → Contains xs (look k (1 + length r))

abbrev pub AreFound : List Derivative → Looks → Type 0
AreFound ds m = (f : ℕ) → IsRow ds f (looks_at m f)

-- the same of the first n derivatives
abbrev pub AreFoundTo : List Derivative → (n : ℕ) → Looks → Type 0
AreFoundTo ds n m = (k : ℕ) (d : Derivative) → k < n → slice_get ds k ≡ Some d → IsFound (look k 1) m d.body
