-- Comparing terms by number.
use Rattle.std.proofs.Common.{◌≡◌, ℕ, zero, suc, ◌+◌, ◌≤◌, ◌<◌, Ordering, Less, Equal, Greater, List, [], ◌∷◌, map, length, min, drop, get_or, refl, ap, sym, subst, ◌∙◌, arith}
use Rattle.std.specs.Ordering.{nat_cmp, ordering_then}
use Rattle.std.proofs.lemmas.List.{drop_more, length-map}
use Rattle.circ_term.specs.Tree.{Tree, Trees, Var, App, trees_of, depth_of, depths_of}
use Rattle.circ_term.specs.Order.{tree_cmp, trees_cmp}
use Rattle.circ_term.proofs.Order.{tree_same, tree_equal}
use Rattle.circ_term.proofs.Within.{cmp_rest}
use Rattle.circ_nodes.specs.Named.{IsNamed, AreNamed, IsOnce, tree_at}
use Rattle.circ_nodes.proofs.Located.{tree_named, trees_named}

pub vars_told : (t u : Tree) (n s m k : ℕ) (x y r : Ordering) → t ≡ Var n s → u ≡ Var m k → x ≡ nat_cmp n m → y ≡ nat_cmp s k → r ≡ ordering_then x y
    → r ≡ tree_cmp t u
vars_told t u n s m k x y r e d p q h = rw (e, d) (h ∙ ap (λ o. ordering_then o y) p ∙ ap (ordering_then (nat_cmp n m)) q)

pub apps_told : (t u : Tree) (f s g k : ℕ) (ts us : Trees) (x y z r : Ordering) → t ≡ App f s ts → u ≡ App g k us → x ≡ nat_cmp f g → x ≡ Equal
    → y ≡ trees_cmp ts us → z ≡ nat_cmp s k → r ≡ ordering_then y z → r ≡ tree_cmp t u
apps_told t u f s g k ts us x y z r e d p i q w h =
    let same : nat_cmp f g ≡ Equal = sym p ∙ i in
    rw (e, d, same) (h ∙ ap (λ o. ordering_then o z) q ∙ ap (ordering_then (trees_cmp ts us)) w)

apart_first : (a b : Ordering) → (a ≡ Equal → ⊥) → a ≡ ordering_then a b
apart_first Less b n = refl
apart_first Equal b n = absurd (n refl)
apart_first Greater b n = refl

-- what is not Equal decides, whatever comes behind
pub decided_then : (r a b : Ordering) → r ≡ a → (r ≡ Equal → ⊥) → r ≡ ordering_then a b
decided_then r a b e n = e ∙ apart_first a b (λ q. n (e ∙ q))

pub apps_apart : (t u : Tree) (f s g k : ℕ) (ts us : Trees) (x : Ordering) → t ≡ App f s ts → u ≡ App g k us → x ≡ nat_cmp f g → (x ≡ Equal → ⊥)
    → x ≡ tree_cmp t u
apps_apart t u f s g k ts us x e d p n =
    let P : Ordering → Type 0 = λ o. x ≡ ordering_then o (ordering_then (trees_cmp ts us) (nat_cmp s k)) in
    rw (e, d) (subst P p (apart_first x (ordering_then (trees_cmp ts us) (nat_cmp s k)) n))

-- an application, by the numbers of its arguments
pub named_app : (nodes : List Tree) (t : Tree) (f s : ℕ) (ns : List ℕ) → ((ts : Trees) × (t ≡ App f s ts) × AreNamed nodes ns ts)
    → t ≡ App f s (trees_of (map (tree_at nodes) ns))
named_app nodes t f s ns h = h.1 ∙ ap (App f s) (sym (trees_named nodes ns h.0 h.2))

-- an argument is less deep
pub arg_less : (nodes : List Tree) (ns : List ℕ) (i : ℕ) → i < length ns → depth_of (tree_at nodes (get_or ns i 0)) ≤ depths_of (trees_of (map (tree_at nodes) ns))
arg_less nodes [] i h = absurd (omega arith)
arg_less nodes (n ∷ ns) zero h = omega arith
arg_less nodes (n ∷ ns) (suc i) h = omega (arith, arg_less nodes ns i (omega arith))

pub numbers_apart : (nodes : List Tree) (n m : ℕ) → IsOnce nodes → n < length nodes → m < length nodes → (n ≡ m → ⊥)
    → tree_cmp (tree_at nodes n) (tree_at nodes m) ≡ Equal → ⊥
numbers_apart nodes n m once h k apart e =
    let P : Tree → Type 0 = λ t. IsNamed nodes m t in
    apart (once n m (tree_at nodes n) (tree_named nodes n h)
    (subst P (sym (tree_equal (tree_at nodes n) (tree_at nodes m) e)) (tree_named nodes m k)))

-- ---- lists of numbers

pub map_drop : (nodes : List Tree) (ns : List ℕ) (i : ℕ) → map (tree_at nodes) (drop i ns) ≡ drop i (map (tree_at nodes) ns)
map_drop nodes ns zero = refl
map_drop nodes [] (suc i) = refl
map_drop nodes (n ∷ ns) (suc i) = map_drop nodes ns i

abbrev cmp_from : (nodes : List Tree) (xs ys : List ℕ) → ℕ → Ordering
cmp_from nodes xs ys i = trees_cmp (trees_of (map (tree_at nodes) (drop i xs))) (trees_of (map (tree_at nodes) (drop i ys)))

cmp_here : (nodes : List Tree) (xs ys : List ℕ) (i : ℕ) → i < length xs → i < length ys
    → cmp_from nodes xs ys i ≡ ordering_then (tree_cmp (tree_at nodes (get_or xs i 0)) (tree_at nodes (get_or ys i 0))) (cmp_from nodes xs ys (i + 1))
cmp_here nodes xs ys i h k = rw (drop_more xs i 0 h, drop_more ys i 0 k) refl

pub cmp_next : (nodes : List Tree) (xs ys : List ℕ) (i : ℕ) → i < length xs → i < length ys → get_or xs i 0 ≡ get_or ys i 0
    → cmp_from nodes xs ys (i + 1) ≡ cmp_from nodes xs ys i
cmp_next nodes xs ys i h k e =
    let same : tree_cmp (tree_at nodes (get_or xs i 0)) (tree_at nodes (get_or ys i 0)) ≡ Equal =
    ap (λ n. tree_cmp (tree_at nodes n) (tree_at nodes (get_or ys i 0))) e ∙ tree_same (tree_at nodes (get_or ys i 0)) in
    sym (cmp_here nodes xs ys i h k ∙ ap (λ o. ordering_then o (cmp_from nodes xs ys (i + 1))) same)

pub cmp_decided : (nodes : List Tree) (xs ys : List ℕ) (i : ℕ) (r : Ordering) → i < length xs → i < length ys
    → r ≡ tree_cmp (tree_at nodes (get_or xs i 0)) (tree_at nodes (get_or ys i 0))
    → (tree_cmp (tree_at nodes (get_or xs i 0)) (tree_at nodes (get_or ys i 0)) ≡ Equal → ⊥) → r ≡ cmp_from nodes xs ys i
cmp_decided nodes xs ys i r h k e n =
    e ∙ apart_first (tree_cmp (tree_at nodes (get_or xs i 0)) (tree_at nodes (get_or ys i 0))) (cmp_from nodes xs ys (i + 1)) n ∙ sym (cmp_here nodes xs ys i h k)

pub cmp_end : (nodes : List Tree) (xs ys : List ℕ) (i : ℕ) → i ≤ length xs → i ≤ length ys → min (length xs) (length ys) ≤ i
    → nat_cmp (length xs) (length ys) ≡ cmp_from nodes xs ys i
cmp_end nodes xs ys i h k m =
    let p : length (map (tree_at nodes) xs) ≡ length xs = length-map xs (tree_at nodes) in
    let q : length (map (tree_at nodes) ys) ≡ length ys = length-map ys (tree_at nodes) in
    rw (map_drop nodes xs i, map_drop nodes ys i, ← p, ← q)
    (cmp_rest (map (tree_at nodes) xs) (map (tree_at nodes) ys) i (omega arith) (omega arith) (omega arith))
