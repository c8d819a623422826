-- A term with another argument.
use Rattle.std.specs.Prelude.{◌≡◌, ℕ, zero, suc, ◌<◌, ◌≤◌, List, [], ◌∷◌, length, slice_set, Some, None, refl}
use Rattle.std.specs.Option.{option_and_then}
use Rattle.std.specs.List.{slice_get, AllByRecursion}
use Rattle.std.proofs.Common.{ap, sym, ◌∙◌, arith, get_or}
use Rattle.std.proofs.lemmas.List.{length-set}
use Rattle.std.proofs.lemmas.Option.{slice_get-get_or, same_Some}
use Rattle.circ_term.specs.Tree.{Tree, Trees, App, Var, list_of, trees_of, args_of, put_at, with_arg, replaced}
use Rattle.circ_term.proofs.Trees.{trees_of-list_of}
use Rattle.circ_nodes.specs.Named.{IsNamed, AreNamed, tree_at}
use Rattle.circ_nodes.proofs.Located.{named_tree, tree_named}
use Rattle.circ_nodes.proofs.Numbers.{are_named_at, are_named_length, are_named_set, points_none, all_below}

-- a list with another element at a place

pub set_read : (ns : List ℕ) (i m : ℕ) → i < length ns → slice_get (slice_set ns i m) i ≡ Some m
set_read [] i m h = absurd (omega (arith, h))
set_read (n ∷ ns) zero m h = refl
set_read (n ∷ ns) (suc i) m h = set_read ns i m (omega (arith, h))

set_same : {X : Type 0} (xs : List X) (i : ℕ) (x : X) → slice_get xs i ≡ Some x → slice_set xs i x ≡ xs
set_same [] i x h = refl
set_same (y ∷ xs) zero x h = ap (λ z. z ∷ xs) (sym (same_Some y x h))
set_same (y ∷ xs) (suc i) x h = ap (λ zs. y ∷ zs) (set_same xs i x h)

-- the first are the same

abbrev pub AgreeUpTo : (xs ys : List ℕ) → ℕ → Type 0
AgreeUpTo xs ys i = (n : ℕ) → n < i → get_or xs n 0 ≡ get_or ys n 0

-- the term with another argument

module _ (nodes : List Tree) (p f s : ℕ) (ns : List ℕ) (i m : ℕ) (there : p < length nodes) (new : m < length nodes)
    (shape : (t : Tree) → IsNamed nodes p t → (ts : Trees) × (t ≡ App f s ts) × AreNamed nodes ns ts) where
  abbrev own : (ts : Trees) × (tree_at nodes p ≡ App f s ts) × AreNamed nodes ns ts
  own = shape (tree_at nodes p) (tree_named nodes p there)

  abbrev pub other_args : Trees
  other_args = put_at own.0 i (tree_at nodes m)

  pub other_named : AreNamed nodes (slice_set ns i m) other_args
  other_named = are_named_set nodes ns own.0 i m (tree_at nodes m) own.2 (tree_named nodes m new)

  pub few_other : (k : ℕ) → ((t : Tree) → IsNamed nodes p t → length (args_of t) ≤ k) → length (slice_set ns i m) ≤ k
  few_other k few =
      let l = are_named_length nodes ns own.0 own.2 in
      let e = ap (λ t. length (args_of t)) own.1 in
      let most = few (tree_at nodes p) (tree_named nodes p there) in
      omega (arith, l, e, most, length-set ns i m)

  pub all_other : AllByRecursion (λ n. n < length nodes) (slice_set ns i m)
  all_other = all_below nodes (slice_set ns i m) other_args other_named

  pub replaced_here : i < length ns → replaced (tree_at nodes p) (i ∷ []) (tree_at nodes m) ≡ Some (App f s other_args)
  replaced_here within =
      let n = get_or ns i 0 in
      let a = are_named_at nodes ns own.0 i n own.2 (slice_get-get_or ns i 0 within) in
      ap (λ t. replaced t (i ∷ []) (tree_at nodes m)) own.1
      ∙ ap (λ o. with_arg (App f s own.0) i (option_and_then (λ x. Some (tree_at nodes m)) o)) a.1

  pub replaced_nowhere : length ns ≤ i → replaced (tree_at nodes p) (i ∷ []) (tree_at nodes m) ≡ None
  replaced_nowhere beyond =
      ap (λ t. replaced t (i ∷ []) (tree_at nodes m)) own.1
      ∙ ap (λ o. with_arg (App f s own.0) i (option_and_then (λ x. Some (tree_at nodes m)) o)) (points_none nodes ns own.0 i own.2 beyond)

  -- the argument is there already
  pub replaced_same : i < length ns → get_or ns i 0 ≡ m → replaced (tree_at nodes p) (i ∷ []) (tree_at nodes m) ≡ Some (tree_at nodes p)
  replaced_same within same =
      let read : slice_get ns i ≡ Some m = slice_get-get_or ns i 0 within ∙ ap Some same in
      let a = are_named_at nodes ns own.0 i m own.2 read in
      let one : tree_at nodes m ≡ a.0 = named_tree nodes m a.0 a.2 in
      let args : other_args ≡ own.0 = ap trees_of (ap (slice_set (list_of own.0) i) one ∙ set_same (list_of own.0) i a.0 a.1) ∙ trees_of-list_of own.0 in
      replaced_here within ∙ ap (λ us. Some (App f s us)) args ∙ ap Some (sym own.1)

-- a variable has no argument
pub replaced_variable : (t u : Tree) (n s i : ℕ) → t ≡ Var n s → replaced t (i ∷ []) u ≡ None
replaced_variable t u n s i e = ap (λ x. replaced x (i ∷ []) u) e
