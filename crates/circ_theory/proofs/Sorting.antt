-- The sorts of subterms, of replacements, and of the sides of an equation.
use Rattle.std.specs.Prelude.{◌≡◌, ℕ, zero, suc, List, [], ◌∷◌, Some, refl}
use Rattle.std.specs.List.{slice_get}
use Rattle.std.proofs.lemmas.Option.{same_Some}
use Rattle.std.proofs.Common.{ap, sym, ◌∙◌, subst}
use Rattle.circ_term.specs.Tree.{Tree, Trees, App, none, more, sort_of, list_of, at, put_at, replaced}
use Rattle.circ_term.proofs.Trees.{trees_of-list_of}
use Rattle.circ_term.specs.Substitution.{Substitution, instance}
use Rattle.circ_term.proofs.Paths.{Down, down, Deeper, deeper}
use Rattle.circ_theory.specs.Signature.{Signature, IsWellSorted, HaveSorts, IsSubstitution}
use Rattle.circ_pairs.specs.Pair.{Pair}
use Rattle.circ_theory.specs.Theory.{Theory, IsWellSortedPair}
use Rattle.circ_theory.specs.Rewriting.{from_side, to_side}
use Rattle.circ_theory.specs.declared.way.Way.{Way}
use Rattle.circ_theory.specs.declared.way.Way.TheVariants.{Forth, Back}
use Rattle.circ_theory.proofs.Instances.{sort_of-instance_by}

-- an argument of a well-sorted term
pub arg_well_sorted : (th : Theory) (ts : Trees) (ss : List ℕ) (i : ℕ) (x : Tree)
    → HaveSorts th.signature ts ss → slice_get (list_of ts) i ≡ Some x → IsWellSorted th.signature x
arg_well_sorted th none ss i x h g = absurd (cc)
arg_well_sorted th (more t ts) [] i x h g = absurd h
arg_well_sorted th (more t ts) (s ∷ ss) zero x h g = let P : Tree → Type 0 = IsWellSorted th.signature in subst P (same_Some t x g) h.1
arg_well_sorted th (more t ts) (s ∷ ss) (suc i) x h g = arg_well_sorted th ts ss i x h.2 g

-- an argument in place of another of its sort
pub put_well_sorted : (th : Theory) (ts : Trees) (ss : List ℕ) (i : ℕ) (x y : Tree)
    → HaveSorts th.signature ts ss → slice_get (list_of ts) i ≡ Some x → sort_of y ≡ sort_of x → IsWellSorted th.signature y
    → HaveSorts th.signature (put_at ts i y) ss
put_well_sorted th none [] i x y h g s w = tt
put_well_sorted th none (k ∷ ss) i x y h g s w = absurd h
put_well_sorted th (more t ts) [] i x y h g s w = absurd h
put_well_sorted th (more t ts) (k ∷ ss) zero x y h g s w = rw (trees_of-list_of ts) (s ∙ ap sort_of (sym (same_Some t x g)) ∙ h.0, w, h.2)
put_well_sorted th (more t ts) (k ∷ ss) (suc i) x y h g s w = (h.0, h.1, put_well_sorted th ts ss i x y h.2 g s w)

-- a subterm of a well-sorted term is well-sorted
pub at_sorted : (th : Theory) (p : List ℕ) (t a : Tree) → IsWellSorted th.signature t → at t p ≡ Some a → IsWellSorted th.signature a
at_sorted th [] t a w e = let P : Tree → Type 0 = IsWellSorted th.signature in subst P (same_Some t a e) w
at_sorted th (i ∷ p) t a w e =
    let d : Down t i p a = down t i p a e in
    let whole : IsWellSorted th.signature (App d.op d.sort d.args) = rw d.is at w in
    at_sorted th p d.arg a (arg_well_sorted th d.args whole.0.args i d.arg whole.3 d.got) d.there

-- u is well-sorted, and of the sort of t
pub record KeepsSort (th : Theory) (t u : Tree) : Type 0 where
  pub well_sorted : IsWellSorted th.signature u
  pub same_sort : sort_of u ≡ sort_of t

-- a term in which a subterm is replaced by one of its sort
pub replaced_sorted : (th : Theory) (p : List ℕ) (t a b u : Tree)
    → IsWellSorted th.signature t → at t p ≡ Some a → KeepsSort th a b → replaced t p b ≡ Some u → KeepsSort th t u
replaced_sorted th [] t a b u w g k r =
    let P : Tree → Type 0 = λ x. KeepsSort th x b in
    let Q : Tree → Type 0 = KeepsSort th t in
    subst Q (same_Some b u r) (subst P (sym (same_Some t a g)) k)
replaced_sorted th (i ∷ p) t a b u w g k r =
    let d : Deeper t i p b u = deeper t i p b u r in
    let whole : IsWellSorted th.signature (App d.op d.sort d.args) = rw d.is at w in
    let below : at d.arg p ≡ Some a = rw (d.is, d.got) at g in
    let arg : IsWellSorted th.signature d.arg = arg_well_sorted th d.args whole.0.args i d.arg whole.3 d.got in
    let new : KeepsSort th d.arg d.new = replaced_sorted th p d.arg a b d.new arg below k d.made in
    let sorts = put_well_sorted th d.args whole.0.args i d.arg d.new whole.3 d.got new.same_sort new.well_sorted in
    let P : Tree → Type 0 = λ x. KeepsSort th x u in
    let Q : Tree → Type 0 = KeepsSort th (App d.op d.sort d.args) in
    subst P (sym d.is) (subst Q (sym d.whole) (record { well_sorted = (whole.0, whole.1, whole.2, sorts); same_sort = refl }))

-- the side that is looked for, and the side that replaces it
pub sorted_from : (sig : Signature) (w : Way) (p : Pair) → IsWellSortedPair sig p → IsWellSorted sig (from_side w p)
sorted_from sig Forth p h = h.left
sorted_from sig Back p h = h.right

pub sorted_to : (sig : Signature) (w : Way) (p : Pair) → IsWellSortedPair sig p → IsWellSorted sig (to_side w p)
sorted_to sig Forth p h = h.right
sorted_to sig Back p h = h.left

pub sort_to : (sig : Signature) (w : Way) (p : Pair) → IsWellSortedPair sig p → sort_of (to_side w p) ≡ sort_of (from_side w p)
sort_to sig Forth p h = h.same_sort
sort_to sig Back p h = sym h.same_sort

-- instances of the two sides have one sort
pub sort_instances : (sig : Signature) (w : Way) (p : Pair) (σ : Substitution) → IsWellSortedPair sig p → IsSubstitution sig σ
    → sort_of (instance σ (to_side w p)) ≡ sort_of (instance σ (from_side w p))
sort_instances sig w p σ h i =
    sort_of-instance_by sig σ (to_side w p) i (sorted_to sig w p h) ∙ sort_to sig w p h
    ∙ sym (sort_of-instance_by sig σ (from_side w p) i (sorted_from sig w p h))
