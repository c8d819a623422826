-- Replacing a subterm by a derivable one gives a derivable term.
use Rattle.std.specs.Prelude.{◌≡◌, ℕ, zero, suc, List, [], ◌∷◌, Some}
use Rattle.std.specs.List.{slice_get}
use Rattle.std.proofs.lemmas.Option.{same_Some}
use Rattle.std.proofs.Common.{sym, subst}
use Rattle.circ_term.specs.Tree.{Tree, Trees, App, none, more, sort_of, list_of, at, put_at, replaced}
use Rattle.circ_term.proofs.Trees.{trees_of-list_of}
use Rattle.circ_term.proofs.Paths.{Deeper, deeper}
use Rattle.circ_theory.specs.Signature.{IsWellSorted, HaveSorts}
use Rattle.circ_pairs.specs.Pair.{Pair}
use Rattle.circ_theory.specs.Theory.{Theory}
use Rattle.circ_theory.proofs.Sorting.{arg_well_sorted, put_well_sorted, replaced_sorted}
use Rattle.circ_theory.specs.Derivable.{Derivable, by_same, by_operator, DerivableAll, no_args, more_args}

-- each argument is derivable from itself
pub all_same : (th : Theory) (H : List Pair) (ts : Trees) (ss : List ℕ) → HaveSorts th.signature ts ss → DerivableAll th H ts ts
all_same th H none ss h = no_args
all_same th H (more t ts) [] h = absurd h
all_same th H (more t ts) (s ∷ ss) h = more_args (by_same t h.1) (all_same th H ts ss h.2)

pub one_differs : (th : Theory) (H : List Pair) (ts : Trees) (ss : List ℕ) (i : ℕ) (a b : Tree)
    → HaveSorts th.signature ts ss → slice_get (list_of ts) i ≡ Some a → Derivable th H a b → DerivableAll th H ts (put_at ts i b)
one_differs th H none ss i a b h g d = no_args
one_differs th H (more t ts) [] i a b h g d = absurd h
one_differs th H (more t ts) (s ∷ ss) zero a b h g d =
    let P : Tree → Type 0 = λ x. Derivable th H x b in
    rw (trees_of-list_of ts) (more_args (subst P (sym (same_Some t a g)) d) (all_same th H ts ss h.2))
one_differs th H (more t ts) (s ∷ ss) (suc i) a b h g d = more_args (by_same t h.1) (one_differs th H ts ss i a b h.2 g d)

-- replacing a subterm by one that is derivable from it
replaced_derivable : (th : Theory) (H : List Pair) (p : List ℕ) (t a b u : Tree)
    → IsWellSorted th.signature t → at t p ≡ Some a → IsWellSorted th.signature b → sort_of b ≡ sort_of a → Derivable th H a b → replaced t p b ≡ Some u
    → Derivable th H t u
replaced_derivable th H [] t a b u w g wb sb d r =
    let P : Tree → Type 0 = λ x. Derivable th H x b in
    let Q : Tree → Type 0 = Derivable th H t in
    subst Q (same_Some b u r) (subst P (sym (same_Some t a g)) d)
replaced_derivable th H (i ∷ p) t a b u w g wb sb d r =
    let e : Deeper t i p b u = deeper t i p b u r in
    let whole : IsWellSorted th.signature (App e.op e.sort e.args) = rw e.is at w in
    let below : at e.arg p ≡ Some a = rw (e.is, e.got) at g in
    let arg : IsWellSorted th.signature e.arg = arg_well_sorted th e.args whole.0.args i e.arg whole.3 e.got in
    let new = replaced_sorted th p e.arg a b e.new arg below (record { well_sorted = wb; same_sort = sb }) e.made in
    let sorts = put_well_sorted th e.args whole.0.args i e.arg e.new whole.3 e.got new.same_sort new.well_sorted in
    let one = one_differs th H e.args whole.0.args i e.arg e.new whole.3 e.got (replaced_derivable th H p e.arg a b e.new arg below wb sb d e.made) in
    let P : Tree → Type 0 = λ x. Derivable th H x u in
    let Q : Tree → Type 0 = Derivable th H (App e.op e.sort e.args) in
    subst P (sym e.is) (subst Q (sym e.whole) (by_operator e.op e.sort whole (whole.0, whole.1, whole.2, sorts) one))

-- u is derivable from t, well-sorted, and of its sort
pub record KeepsDerivable (th : Theory) (H : List Pair) (t u : Tree) : Type 0 where
  pub derivable : Derivable th H t u
  pub well_sorted : IsWellSorted th.signature u
  pub same_sort : sort_of u ≡ sort_of t

pub replaced_keeps : (th : Theory) (H : List Pair) (p : List ℕ) (t a b u : Tree)
    → IsWellSorted th.signature t → at t p ≡ Some a → IsWellSorted th.signature b → sort_of b ≡ sort_of a → Derivable th H a b → replaced t p b ≡ Some u
    → KeepsDerivable th H t u
replaced_keeps th H p t a b u w g wb sb d r =
    let sorts = replaced_sorted th p t a b u w g (record { well_sorted = wb; same_sort = sb }) r in
    record { derivable = replaced_derivable th H p t a b u w g wb sb d r; well_sorted = sorts.well_sorted; same_sort = sorts.same_sort }
