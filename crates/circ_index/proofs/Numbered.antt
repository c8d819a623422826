-- What is seen of a term by its number.
use Rattle.std.proofs.Common.{◌≡◌, ℕ, ◌<◌, true, List, [], ◌∷◌, ◌++◌, append_assoc, length, map, get_or, refl, ap, sym, ◌∙◌, arith}
use Rattle.std.proofs.lemmas.Bool.{eq-eqb}
use Rattle.circ_term.specs.Tree.{Tree, Trees, App, none, more, trees_of, size_of, is_ground}
use Rattle.circ_nodes.specs.Named.{AreNamed, tree_at}
use Rattle.circ_nodes.proofs.Located.{named_tree, trees_named}
use Rattle.circ_index.specs.Keys.{root, first_root}
use Rattle.circ_index.specs.Paths.{child_in, listed, staying, going, after, after_all, closed}
use Rattle.circ_index.specs.declared.paths.Branch.{Branch}
use Rattle.circ_index.specs.declared.paths.Spot.{Spot}
use Rattle.circ_index.specs.declared.paths.TheConstants.{STAR}

-- an application by the numbers of its arguments
pub application_at : (nodes : List Tree) (n : ℕ) (ns : List ℕ) (f s : ℕ) (ts : Trees) → tree_at nodes n ≡ App f s ts → AreNamed nodes ns ts
    → tree_at nodes n ≡ App f s (trees_of (map (tree_at nodes) ns))
application_at nodes n ns f s ts is named = is ∙ ap (App f s) (sym (trees_named nodes ns ts named))

first_root_named : (nodes : List Tree) (ns : List ℕ) (f s : ℕ) (ts : Trees) → AreNamed nodes ns ts → 0 < length ns → root (tree_at nodes (get_or ns 0 0)) ≡ first_root (App f s ts)
first_root_named nodes [] f s ts named h = absurd (omega (arith, h))
first_root_named nodes (n ∷ ns) f s none named h = absurd named
first_root_named nodes (n ∷ ns) f s (more t ts) named h = ap root (named_tree nodes n t named.0)

pub first_root_at : (nodes : List Tree) (n : ℕ) (ns : List ℕ) (f s : ℕ) (ts : Trees) → tree_at nodes n ≡ App f s ts → AreNamed nodes ns ts → 0 < length ns
    → root (tree_at nodes (get_or ns 0 0)) ≡ first_root (tree_at nodes n)
first_root_at nodes n ns f s ts is named h = first_root_named nodes ns f s ts named h ∙ ap first_root (sym is)

-- where the paths go over an application, one part after the other
pub after_application : (bs : List Branch) (from : List Spot) (f s : ℕ) (ts : Trees) (t : Tree) (old one two inside ends new : List Spot) → t ≡ App f s ts
    → one ≡ old ++ staying from → two ≡ one ++ going bs STAR from → inside ≡ going bs f from → ends ≡ after_all bs inside ts → new ≡ two ++ ends
    → new ≡ old ++ after bs from t
after_application bs from f s ts t old one two inside ends new is a b i e n =
    let st = staying from in
    let go = going bs STAR from in
    n ∙ ap (λ xs. xs ++ ends) (b ∙ ap (λ xs. xs ++ go) a ∙ append_assoc old st go) ∙ append_assoc old (st ++ go) ends
    ∙ ap (λ xs. old ++ ((st ++ go) ++ xs)) (e ∙ ap (λ ps. after_all bs ps ts) i)
    ∙ ap (λ x. old ++ after bs from x) (sym is)

-- the nodes at which a long side without variables ends
pub closed_ground : (bs : List Branch) (t : Tree) (p : Spot) (old one two : List ℕ) (size : ℕ) → p.left ≡ 0 → is_ground t ≡ true → size ≡ size_of t
    → one ≡ old ++ listed (child_in bs p.node STAR) → two ≡ one ++ listed (child_in bs p.node size) → two ≡ old ++ closed bs t p
closed_ground bs t p old one two size z g s a b =
    let star = listed (child_in bs p.node STAR) in
    let is : closed bs t p ≡ star ++ listed (child_in bs p.node (size_of t)) = rw (eq-eqb p.left 0 z, g) refl in
    b ∙ ap (λ xs. xs ++ listed (child_in bs p.node size)) a ∙ append_assoc old star (listed (child_in bs p.node size))
    ∙ ap (λ m. old ++ (star ++ listed (child_in bs p.node m))) s ∙ ap (λ xs. old ++ xs) (sym is)
