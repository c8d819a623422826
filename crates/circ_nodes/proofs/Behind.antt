-- The terms with some roots.
use Rattle.std.proofs.Common.{◌≡◌, ℕ, zero, suc, ◌+◌, ◌≤◌, List, [], ◌∷◌, ◌++◌, length, take, refl, ap, sym, ◌∙◌, arith, length-append}
use Rattle.std.proofs.lemmas.List.{take_all, take-append-le}
use Rattle.circ_term.specs.Tree.{Tree, App}
use Rattle.circ_nodes.specs.Rows.{PlainRoot, variable, application}
use Rattle.circ_nodes.specs.Roots.{root_tree, trees_behind, trees_with, HasRoot}
use Rattle.circ_nodes.proofs.Located.{trees_named}

-- a root that is there is that of one term
pub root_is : (nodes : List Tree) (p : PlainRoot) (t : Tree) → HasRoot nodes p t → t ≡ root_tree nodes p
root_is nodes (variable n s) t h = h
root_is nodes (application f s ns) t h = h.1 ∙ ap (App f s) (sym (trees_named nodes ns h.0 h.2))

behind_push : (nodes : List Tree) (rs : List PlainRoot) (r : PlainRoot)
    → trees_behind nodes (rs ++ r ∷ []) ≡ trees_behind nodes rs ++ root_tree (trees_behind nodes rs) r ∷ []
behind_push nodes [] r = refl
behind_push nodes (x ∷ rs) r = behind_push (nodes ++ root_tree nodes x ∷ []) rs r

-- the term of a root that goes last goes last
pub trees_pushed : (roots new : List PlainRoot) (r : PlainRoot) (t : Tree) → HasRoot (trees_with roots) r t → new ≡ roots ++ r ∷ []
    → trees_with new ≡ trees_with roots ++ t ∷ []
trees_pushed roots new r t h e =
    ap trees_with e ∙ behind_push [] roots r ∙ ap (λ x. trees_with roots ++ x ∷ []) (sym (root_is (trees_with roots) r t h))

behind_front : (nodes : List Tree) (rs : List PlainRoot) (c : ℕ) → c ≤ length nodes → take c (trees_behind nodes rs) ≡ take c nodes
behind_front nodes [] c h = refl
behind_front nodes (r ∷ rs) c h =
    let t = root_tree nodes r in
    let l = length-append nodes (t ∷ []) in
    behind_front (nodes ++ t ∷ []) rs c (omega (arith, l, h)) ∙ take-append-le c nodes (t ∷ []) h

behind_take : (nodes : List Tree) (rs : List PlainRoot) (c : ℕ) → take (length nodes + c) (trees_behind nodes rs) ≡ trees_behind nodes (take c rs)
behind_take nodes [] zero = take_all (length nodes + 0) nodes (omega arith)
behind_take nodes [] (suc c) = take_all (length nodes + suc c) nodes (omega arith)
behind_take nodes (r ∷ rs) zero =
    behind_front nodes (r ∷ rs) (length nodes + 0) (omega arith) ∙ take_all (length nodes + 0) nodes (omega arith)
behind_take nodes (r ∷ rs) (suc c) =
    let t = root_tree nodes r in
    let l = length-append nodes (t ∷ []) in
    let same : length nodes + suc c ≡ length (nodes ++ t ∷ []) + c = omega (arith, l) in
    ap (λ n. take n (trees_behind (nodes ++ t ∷ []) rs)) same ∙ behind_take (nodes ++ t ∷ []) rs c

-- the first terms are those with the first roots
pub trees_cut : (roots new : List PlainRoot) (c : ℕ) → new ≡ take c roots → trees_with new ≡ take c (trees_with roots)
trees_cut roots new c e =
    let same : length {A = Tree} [] + c ≡ c = omega arith in
    ap trees_with e ∙ sym (ap (λ n. take n (trees_with roots)) (sym same) ∙ behind_take [] roots c)
