-- Members of lists of bodies, and numbers of lists.
use Rattle.std.proofs.Common.{◌≡◌, ◌<◌, ◌≤◌, ◌+◌, ℕ, zero, suc, max, List, [], ◌∷◌, ◌++◌, map, drop, length, slice_index_or, Option, Some, None, refl, ap, sym, ◌∙◌, arith}
use Rattle.std.specs.List.{slice_get, AllByRecursion, Contains}
use Rattle.circ_term.specs.Tree.{Tree, Trees, App, args_of, trees_of}
use Rattle.std.proofs.lemmas.List.{length-map}
use Rattle.circ_term.proofs.Trees.{list_of-trees_of}
use Rattle.circ_nodes.specs.Named.{tree_at, IsNamed, AreNamed}
use Rattle.circ_nodes.proofs.Located.{tree_named, trees_named}
use Rattle.circ_nodes.proofs.Numbers.{all_below}
use Rattle.circ_proof.proofs.Members.{nothing, pick}
use Rattle.circ_certificates.specs.Covering.{below}

-- ---- members

pub later : {X : Type 0} (x y : X) (xs : List X) → Contains xs x → Contains (y ∷ xs) x
later x y xs c = (suc c.0, omega (arith, c.1), c.2)

pub first : {X : Type 0} (x : X) (xs : List X) → Contains (x ∷ xs) x
first x xs = (0, omega arith, refl)

-- the arguments at a place

pub in_below : (i : ℕ) (bs : List Tree) (b u : Tree) → Contains bs b → slice_get (args_of b) i ≡ Some u → Contains (below i bs) u
in_below i [] b u c e = nothing b c
in_below i (x ∷ bs) b u c e =
    pick (λ g. slice_get (args_of g) i ≡ Some u → Contains (below i (x ∷ bs)) u) x b bs here (λ d f. go (slice_get (args_of x) i) refl (in_below i bs b u d f)) c e
  where
    here : slice_get (args_of x) i ≡ Some u → Contains (below i (x ∷ bs)) u
    here f = rw f (first u (below i bs))

    go : (o : Option Tree) → slice_get (args_of x) i ≡ o → Contains (below i bs) u → Contains (below i (x ∷ bs)) u
    go None f d = rw f d
    go (Some y) f d = rw f (later u y (below i bs) d)

-- a term of which this is an argument
pub record Above (i : ℕ) (bs : List Tree) (u : Tree) : Type 0 where
  pub term : Tree
  pub member : Contains bs term
  pub argument : slice_get (args_of term) i ≡ Some u

above_later : (i : ℕ) (bs : List Tree) (x u : Tree) → Above i bs u → Above i (x ∷ bs) u
above_later i bs x u h = record { term = h.term; member = later h.term x bs h.member; argument = h.argument }

pub from_below : (i : ℕ) (bs : List Tree) (u : Tree) → Contains (below i bs) u → Above i bs u
from_below i [] u c = nothing u c
from_below i (x ∷ bs) u c = go (slice_get (args_of x) i) refl c (λ d. above_later i bs x u (from_below i bs u d))
  where
    go : (o : Option Tree) → slice_get (args_of x) i ≡ o → Contains (below i (x ∷ bs)) u → (Contains (below i bs) u → Above i (x ∷ bs) u) → Above i (x ∷ bs) u
    go None f d rest = rest (rw f at d)
    go (Some y) f d rest = pick (λ g. Above i (x ∷ bs) g) y u (below i bs) (record { term = x; member = first x bs; argument = f }) rest (rw f at d)

-- ---- numbers

-- above each of the numbers
abbrev pub above : List ℕ → ℕ
above [] = 0
above (n ∷ ns) = max (n + 1) (above ns)

pub above_each : (ns : List ℕ) (i : ℕ) → i < length ns → slice_index_or ns i 0 < above ns
above_each [] i h = absurd (omega (arith, h))
above_each (m ∷ ns) zero h = omega arith
above_each (m ∷ ns) (suc i) h = let ih = above_each ns i (omega (arith, h)) in omega (arith, ih)

pub above_least : (ns : List ℕ) (k : ℕ) → AllByRecursion (λ n. n < k) ns → above ns ≤ k
above_least [] k a = omega arith
above_least (n ∷ ns) k a = let one = a.0 in let ih = above_least ns k a.1 in omega (arith, one, ih)

pub all_there : (k : ℕ) (ns : List ℕ) (i : ℕ) → AllByRecursion (λ n. n < k) ns → i < length ns → slice_index_or ns i 0 < k
all_there k [] i a h = absurd (omega (arith, h))
all_there k (n ∷ ns) zero a h = a.0
all_there k (n ∷ ns) (suc i) a h = all_there k ns i a.1 (omega (arith, h))

pub drop_here : (xs : List ℕ) (i : ℕ) → i < length xs → drop i xs ≡ slice_index_or xs i 0 ∷ drop (i + 1) xs
drop_here [] i h = absurd (omega (arith, h))
drop_here (x ∷ xs) zero h = refl
drop_here (x ∷ xs) (suc i) h = let e : suc i + 1 ≡ suc (i + 1) = omega arith in rw e (drop_here xs i (omega (arith, h)))

pub one_more : {X : Type 0} (P : X → Type 0) (xs : List X) (x : X) → AllByRecursion P xs → P x → AllByRecursion P (xs ++ x ∷ [])
one_more P [] x a p = (p, tt)
one_more P (y ∷ xs) x a p = (a.0, one_more P xs x a.1 p)

-- the arguments of a term that is taken apart
pub args_there : (nodes : List Tree) (p f s : ℕ) (ns : List ℕ) → p < length nodes
    → ((t : Tree) → IsNamed nodes p t → (ts : Trees) × (t ≡ App f s ts) × AreNamed nodes ns ts)
    → AllByRecursion (λ n. n < length nodes) ns × (tree_at nodes p ≡ App f s (trees_of (map (tree_at nodes) ns)))
args_there nodes p f s ns there shape =
    let h = shape (tree_at nodes p) (tree_named nodes p there) in
    (all_below nodes ns h.0 h.2, h.1 ∙ ap (App f s) (sym (trees_named nodes ns h.0 h.2)))

pub args_counted : (nodes : List Tree) (t : Tree) (f s : ℕ) (ns : List ℕ) → t ≡ App f s (trees_of (map (tree_at nodes) ns)) → length (args_of t) ≡ length ns
args_counted nodes t f s ns e =
    ap (λ u. length (args_of u)) e ∙ ap length (list_of-trees_of (map (tree_at nodes) ns)) ∙ length-map ns (tree_at nodes)
