-- Terms that are added one after another.
use Rattle.std.specs.Prelude.{◌≡◌, ◌+◌, ◌<◌, ◌≤◌, ℕ, Bool, true, false, if◌then◌else◌, Option, Some, None, Result, Ok, Err, List, [], ◌∷◌, ◌++◌, length, drop}
use Rattle.std.proofs.Common.{ap, sym, subst, ◌∙◌, arith, get_or, length-append}
use Rattle.std.specs.List.{AllByRecursion}
use Rattle.circ_term.specs.Tree.{Tree, Trees, Var, App, args_of, trees_of, depth_of, depths_of}
use Rattle.circ_term.proofs.Trees.{list_of-trees_of, trees_of-list_of}
use Rattle.circ_term.specs.Growing.{Grows}
use Rattle.circ_term.proofs.Within.{drop_read}
use Rattle.circ_proof.specs.Table.{has, entered, added, all_added, Numbers, term_limit}
use Rattle.circ_proof.proofs.Tables.{all_added_grows, all_added_have, grows_length}
use Rattle.circ_replay.specs.Growing.{NumbersSoFar}
use Rattle.circ_replay.proofs.Keyed.{added_last}

pub too_many : (table : List Tree) (t : Tree) (ts : Trees) → term_limit < length (added table t) → term_limit < length (all_added (added table t) ts)
too_many table t ts h =
    let l = grows_length (added table t) (all_added (added table t) ts) (all_added_grows (added table t) ts) in omega (arith, l, h)

-- at a term of a list
pub next_added : (table : List Tree) (ts : List Tree) (i : ℕ) (t : Tree) → i < length ts → t ≡ get_or ts i t
    → all_added table (trees_of (drop i ts)) ≡ all_added (added table t) (trees_of (drop (i + 1) ts))
next_added table ts i t h e = ap (λ us. all_added table (trees_of us)) (drop_read ts i t h e)

-- a term, once its arguments are added
pub term_added : {E : Type 0} (old mid new : List Tree) (t : Tree) → mid ≡ all_added old (trees_of (args_of t)) → (r : Result (Option ℕ) E)
    → Numbers mid new (entered mid t) t r → NumbersSoFar old new t r
term_added {E = E} old mid new t m r x = go r x
  where
    whole : entered mid t ≡ added old t
    whole = ap (λ table. entered table t) m ∙ sym (added_last old t)

    on : new ≡ mid → Grows old new
    on e = let P : List Tree → Type 0 = Grows old in subst P (sym (e ∙ m)) (all_added_grows old (trees_of (args_of t)))

    go : (r : Result (Option ℕ) E) → Numbers mid new (entered mid t) t r → NumbersSoFar old new t r
    go (Ok (Some n)) x = (x.0 ∙ whole, x.1)
    go (Ok None) x = let P : List Tree → Type 0 = λ table. term_limit < length table in (on x.0, subst P whole x.1)
    go (Err e) x = on x

entered_longer : (table : List Tree) (t : Tree) → length table ≤ length (entered table t)
entered_longer table t = go (has table t)
  where
    go : (b : Bool) → length table ≤ length (if b then table else table ++ t ∷ [])
    go true = omega arith
    go false = let l = length-append table (t ∷ []) in omega (arith, l)

-- there is no room for the term, as there is none for its arguments
pub term_too_many : (old : List Tree) (t : Tree) → term_limit < length (all_added old (trees_of (args_of t))) → term_limit < length (added old t)
term_too_many old t h =
    let P : List Tree → Type 0 = λ x. term_limit < length x in
    subst P (sym (added_last old t)) (let l = entered_longer (all_added old (trees_of (args_of t))) t in omega (arith, l, h))

pub args_added : (old : List Tree) (t : Tree) → AllByRecursion (λ a. has (all_added old (trees_of (args_of t))) a ≡ true) (args_of t)
args_added old t =
    let P : List Tree → Type 0 = λ ts. AllByRecursion (λ a. has (all_added old (trees_of (args_of t))) a ≡ true) ts in
    subst P (list_of-trees_of (args_of t)) (all_added_have old (trees_of (args_of t)))

pub args_less : (t : Tree) → depths_of (trees_of (args_of t)) < depth_of t
args_less (Var n s) = omega arith
args_less (App f s ts) = let e = ap depths_of (trees_of-list_of ts) in omega (arith, e)
