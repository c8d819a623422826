-- Variables, terms and derivatives by number.
use Rattle.std.proofs.Common.{◌≡◌, ◌<◌, ◌≤◌, ℕ, zero, suc, ◌+◌, List, [], ◌∷◌, ◌++◌, map, drop, length, get_or, Option, Some, None, refl, ap, sym, subst, ◌∙◌, arith}
use Rattle.std.specs.List.{slice_get, AllByRecursion}
use Rattle.std.specs.Option.{IfSome}
use Rattle.std.proofs.lemmas.Option.{same_Some}
use Rattle.circ_term.specs.Growing.{Grows}
use Rattle.circ_term.specs.Tree.{Tree, Var, more, trees_of, sort_of}
use Rattle.circ_theory.specs.Theory.{Derivative}
use Rattle.circ_theory.specs.Variables.{FitVariables, numbered}
use Rattle.circ_theory.specs.Fresh.{variables_from, FitDerivative, FitSome}
use Rattle.circ_nodes.specs.Named.{IsNamed, AreNamed, tree_at}
use Rattle.circ_nodes.proofs.Located.{named_tree}
use Rattle.circ_nodes.proofs.Numbers.{named_later, are_named_later}
use Rattle.circ_shared.specs.Patterns.{variable_trees}
use Rattle.circ_shared.proofs.Sharing.{term_later}
use Rattle.circ_steps.specs.declared.derivative.SharedDerivative.{SharedDerivative}
use Rattle.circ_steps.specs.Derivatives.{IsDerivativeAt, AreDerivativesAt}

-- the variables of sorts, as terms
pub trees_numbered : (k : ℕ) (ss : List ℕ) → trees_of (variables_from k ss) ≡ variable_trees (numbered k ss)
trees_numbered k [] = refl
trees_numbered k (s ∷ ss) = ap (more (Var k s)) (trees_numbered (k + 1) ss)

-- the terms of these numbers
pub terms_named : (nodes : List Tree) (ns : List ℕ) (ts : List Tree) → AreNamed nodes ns (trees_of ts) → map (tree_at nodes) ns ≡ ts
terms_named nodes [] [] h = refl
terms_named nodes [] (t ∷ ts) h = absurd h
terms_named nodes (n ∷ ns) [] h = absurd h
terms_named nodes (n ∷ ns) (t ∷ ts) h =
    ap (λ x. x ∷ map (tree_at nodes) ns) (named_tree nodes n t h.0) ∙ ap (λ xs. t ∷ xs) (terms_named nodes ns ts h.1)

-- terms of these sorts fit variables of these sorts
pub fits_numbered : (k : ℕ) (ts : List Tree) (ss : List ℕ) → map sort_of ts ≡ ss → FitVariables (numbered k ss) ts
fits_numbered k ts ss e = subst (λ xs. FitVariables (numbered k xs) ts) e (go k ts)
  where
    go : (k : ℕ) (ts : List Tree) → FitVariables (numbered k (map sort_of ts)) ts
    go k [] = tt
    go k (t ∷ ts) = (refl, go (k + 1) ts)

-- ---- variables, entered one after another

-- the first i are entered
pub record AreEntered (k : ℕ) (ss : List ℕ) (nodes : List Tree) (i : ℕ) (ns : List ℕ) : Type 0 where
  pub done : List Tree
  pub named : AreNamed nodes ns (trees_of done)
  pub rest : done ++ variables_from (k + i) (drop i ss) ≡ variables_from k ss

pub entered_none : (k : ℕ) (ss : List ℕ) (nodes : List Tree) → AreEntered k ss nodes 0 []
entered_none k ss nodes = record { done = []; named = tt; rest = ap (λ m. variables_from m ss) (omega arith) }

named_push : (nodes : List Tree) (ns : List ℕ) (ts : List Tree) (n : ℕ) (t : Tree) → AreNamed nodes ns (trees_of ts) → IsNamed nodes n t
    → AreNamed nodes (ns ++ n ∷ []) (trees_of (ts ++ t ∷ []))
named_push nodes [] [] n t a h = (h, tt)
named_push nodes [] (u ∷ ts) n t a h = absurd a
named_push nodes (m ∷ ns) [] n t a h = absurd a
named_push nodes (m ∷ ns) (u ∷ ts) n t a h = (a.0, named_push nodes ns ts n t a.1 h)

behind : {X : Type 0} (xs ys : List X) (x : X) → (xs ++ x ∷ []) ++ ys ≡ xs ++ x ∷ ys
behind [] ys x = refl
behind (y ∷ xs) ys x = ap (λ zs. y ∷ zs) (behind xs ys x)

drop_next : (ss : List ℕ) (i : ℕ) → i < length ss → drop i ss ≡ get_or ss i 0 ∷ drop (i + 1) ss
drop_next [] i h = absurd (omega (arith, h))
drop_next (s ∷ ss) zero h = refl
drop_next (s ∷ ss) (suc i) h = let e : suc i + 1 ≡ suc (i + 1) = omega arith in rw e (drop_next ss i (omega (arith, h)))

pub entered_next : (k : ℕ) (ss : List ℕ) (old new : List Tree) (g : Grows old new) (i m : ℕ) (ns ms : List ℕ) (n s : ℕ) → i < length ss → s ≡ get_or ss i 0
    → m ≡ k + i → IsNamed new n (Var m s) → ms ≡ ns ++ n ∷ [] → AreEntered k ss old i ns → AreEntered k ss new (i + 1) ms
entered_next k ss old new g i m ns ms n s b read is named put e =
    let t : Tree = Var (k + i) s in
    let is_t : IsNamed new n t = subst (λ x. IsNamed new n (Var x s)) is named in
    let P : List ℕ → Type 0 = λ xs. AreNamed new xs (trees_of (e.done ++ t ∷ [])) in
    let here : drop i ss ≡ s ∷ drop (i + 1) ss = drop_next ss i b ∙ ap (λ x. x ∷ drop (i + 1) ss) (sym read) in
    let next : k + i + 1 ≡ k + (i + 1) = omega arith in
    record {
      done = e.done ++ t ∷ [];
      named = subst P (sym put) (named_push new ns e.done n t (are_named_later old new ns (trees_of e.done) g e.named) is_t);
      rest =
          behind e.done (variables_from (k + (i + 1)) (drop (i + 1) ss)) t
          ∙ ap (λ x. e.done ++ t ∷ variables_from x (drop (i + 1) ss)) (sym next)
          ∙ ap (λ xs. e.done ++ variables_from (k + i) xs) (sym here) ∙ e.rest;
    }

pub entered_all : (k : ℕ) (ss : List ℕ) (nodes : List Tree) (i : ℕ) (ns : List ℕ) → length ss ≤ i → AreEntered k ss nodes i ns
    → AreNamed nodes ns (trees_of (variables_from k ss))
entered_all k ss nodes i ns h e =
    let P : List Tree → Type 0 = λ ts. AreNamed nodes ns (trees_of ts) in
    subst P (sym (nil_right e.done) ∙ ap (λ xs. e.done ++ variables_from (k + i) xs) (sym (none_left ss i h)) ∙ e.rest) e.named
  where
    nil_right : (ts : List Tree) → ts ++ [] ≡ ts
    nil_right [] = refl
    nil_right (t ∷ ts) = ap (λ xs. t ∷ xs) (nil_right ts)

    none_left : (ss : List ℕ) (i : ℕ) → length ss ≤ i → drop i ss ≡ []
    none_left [] zero h = refl
    none_left [] (suc i) h = refl
    none_left (s ∷ ss) zero h = absurd (omega (arith, h))
    none_left (s ∷ ss) (suc i) h = none_left ss i (omega (arith, h))

-- ---- derivatives, one after another

pub derivative_later : (old new : List Tree) (g : Grows old new) (d : Derivative) (x : SharedDerivative) → IsDerivativeAt old d x → IsDerivativeAt new d x
derivative_later old new g d x h = record {
  body = named_later old new x.body d.body g h.body;
  hole = named_later old new x.hole (Var 0 d.hole) g h.hole;
  params = are_named_later old new x.params.items _ g h.params;
}

pub derivatives_later : (old new : List Tree) (g : Grows old new) (ds : List Derivative) (xs : List SharedDerivative) → AreDerivativesAt old ds xs
    → AreDerivativesAt new ds xs
derivatives_later old new g [] [] h = tt
derivatives_later old new g [] (x ∷ xs) h = absurd h
derivatives_later old new g (d ∷ ds) [] h = absurd h
derivatives_later old new g (d ∷ ds) (x ∷ xs) h = (derivative_later old new g d x h.0, derivatives_later old new g ds xs h.1)

pub derivatives_length : (nodes : List Tree) (ds : List Derivative) (xs : List SharedDerivative) → AreDerivativesAt nodes ds xs → length xs ≡ length ds
derivatives_length nodes [] [] h = refl
derivatives_length nodes [] (x ∷ xs) h = absurd h
derivatives_length nodes (d ∷ ds) [] h = absurd h
derivatives_length nodes (d ∷ ds) (x ∷ xs) h = ap suc (derivatives_length nodes ds xs h.1)

pub derivative_at : (nodes : List Tree) (ds : List Derivative) (xs : List SharedDerivative) (i : ℕ) (d : Derivative) (x : SharedDerivative)
    → AreDerivativesAt nodes ds xs → slice_get ds i ≡ Some d → x ≡ get_or xs i x → IsDerivativeAt nodes d x
derivative_at nodes [] xs i d x h e r = absurd (cc)
derivative_at nodes (c ∷ ds) [] i d x h e r = absurd h
derivative_at nodes (c ∷ ds) (y ∷ xs) zero d x h e r =
    subst (λ z. IsDerivativeAt nodes d z) (sym r) (subst (λ z. IsDerivativeAt nodes z y) (same_Some c d e) h.0)
derivative_at nodes (c ∷ ds) (y ∷ xs) (suc i) d x h e r = derivative_at nodes ds xs i d x h.1 e r

-- those of the first i derivatives are entered
abbrev pub FirstAt : (ds : List Derivative) (nodes : List Tree) (i : ℕ) → List SharedDerivative → Type 0
FirstAt ds nodes zero [] = Unit {0}
FirstAt ds nodes zero (x ∷ xs) = ⊥
FirstAt [] nodes (suc i) xs = ⊥
FirstAt (d ∷ ds) nodes (suc i) [] = ⊥
FirstAt (d ∷ ds) nodes (suc i) (x ∷ xs) = IsDerivativeAt nodes d x × FirstAt ds nodes i xs

pub first_next : (ds : List Derivative) (old new : List Tree) (g : Grows old new) (i : ℕ) (xs : List SharedDerivative) (d : Derivative) (x : SharedDerivative)
    → slice_get ds i ≡ Some d → IsDerivativeAt new d x → FirstAt ds old i xs → FirstAt ds new (i + 1) (xs ++ x ∷ [])
first_next [] old new g i xs d x e h f = absurd (cc)
first_next (c ∷ ds) old new g zero [] d x e h f = (subst (λ z. IsDerivativeAt new z x) (sym (same_Some c d e)) h, tt)
first_next (c ∷ ds) old new g zero (y ∷ xs) d x e h f = absurd f
first_next (c ∷ ds) old new g (suc i) [] d x e h f = absurd f
first_next (c ∷ ds) old new g (suc i) (y ∷ xs) d x e h f =
    let n : suc i + 1 ≡ suc (i + 1) = omega arith in
    rw n (derivative_later old new g c y f.0, first_next ds old new g i xs d x e h f.1)

pub first_all : (ds : List Derivative) (nodes : List Tree) (i : ℕ) (xs : List SharedDerivative) → length ds ≤ i → FirstAt ds nodes i xs → AreDerivativesAt nodes ds xs
first_all [] nodes zero [] e f = tt
first_all [] nodes zero (x ∷ xs) e f = absurd f
first_all [] nodes (suc i) xs e f = absurd f
first_all (d ∷ ds) nodes zero xs e f = absurd (omega (arith, e))
first_all (d ∷ ds) nodes (suc i) [] e f = absurd f
first_all (d ∷ ds) nodes (suc i) (x ∷ xs) e f = (f.0, first_all ds nodes i xs (omega (arith, e)) f.1)

-- ---- numbers that are there stay there

pub all_later : (old new : List Tree) (g : Grows old new) (ns : List ℕ) → AllByRecursion (λ n. n < length old) ns → AllByRecursion (λ n. n < length new) ns
all_later old new g [] a = tt
all_later old new g (n ∷ ns) a = (term_later old new g n a.0, all_later old new g ns a.1)

-- a derivative that terms fit is there
pub the_fit : (o : Option Derivative) (ts : List Tree) (t : Tree) → FitSome o ts t → (d : Derivative) × (o ≡ Some d) × FitDerivative d ts t
the_fit None ts t h = absurd h
the_fit (Some d) ts t h = (d, refl, h)

pub if_some_to : {X : Type 0} (P Q : X → Type 0) (o : Option X) → IfSome o P → ((x : X) → o ≡ Some x → P x → Q x) → IfSome o Q
if_some_to P Q None h f = tt
if_some_to P Q (Some x) h f = f x refl h
