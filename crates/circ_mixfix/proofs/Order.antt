-- The order of lists of terms.
use Rattle.std.proofs.Common.{◌≡◌, ◌≢◌, Ordering, Less, Equal, Greater, sym, ◌∙◌, ap, refl}
use Rattle.std.specs.Ordering.{nat_cmp, ordering_then, ordering_reverse}
use Rattle.std.specs.Cmp.{then_flip}
use Rattle.std.specs.FinMap.{nat_cmp-IsAntisymmetric}
use Rattle.std.proofs.lemmas.Cmp.{nat_cmp_total}
use Rattle.circ_term.specs.Tree.{Tree, Trees, Var, App, none, more}
use Rattle.circ_term.specs.Order.{tree_cmp, trees_cmp}

both_flip : (a b c d : Ordering) → a ≡ ordering_reverse c → b ≡ ordering_reverse d → ordering_then a b ≡ ordering_reverse (ordering_then c d)
both_flip a b c d e f = ap (λ x. ordering_then x b) e ∙ ap (ordering_then (ordering_reverse c)) f ∙ then_flip c d

both_equal : (a b : Ordering) → ordering_then a b ≡ Equal → (a ≡ Equal) × (b ≡ Equal)
both_equal Less b e = absurd (cc)
both_equal Equal b e = (refl, e)
both_equal Greater b e = absurd (cc)

mutual
  tree_flip : (t u : Tree) → tree_cmp t u ≡ ordering_reverse (tree_cmp u t)
  tree_flip (Var n s) (Var m k) = both_flip (nat_cmp n m) (nat_cmp s k) (nat_cmp m n) (nat_cmp k s) (nat_cmp_total.antisymm n m) (nat_cmp_total.antisymm s k)
  tree_flip (Var n s) (App g k us) = refl
  tree_flip (App f s ts) (Var m k) = refl
  tree_flip (App f s ts) (App g k us) =
      both_flip (nat_cmp f g) (ordering_then (trees_cmp ts us) (nat_cmp s k)) (nat_cmp g f) (ordering_then (trees_cmp us ts) (nat_cmp k s)) (nat_cmp_total.antisymm f g)
      (both_flip (trees_cmp ts us) (nat_cmp s k) (trees_cmp us ts) (nat_cmp k s) (trees_flip ts us) (nat_cmp_total.antisymm s k))

  pub trees_flip : (ts us : Trees) → trees_cmp ts us ≡ ordering_reverse (trees_cmp us ts)
  trees_flip none none = refl
  trees_flip none (more u us) = refl
  trees_flip (more t ts) none = refl
  trees_flip (more t ts) (more u us) = both_flip (tree_cmp t u) (trees_cmp ts us) (tree_cmp u t) (trees_cmp us ts) (tree_flip t u) (trees_flip ts us)

mutual
  tree_equal : (t u : Tree) → tree_cmp t u ≡ Equal → t ≡ u
  tree_equal (Var n s) (Var m k) e =
      let h = both_equal (nat_cmp n m) (nat_cmp s k) e in
      ap (λ x. Var x s) (nat_cmp-IsAntisymmetric n m h.0) ∙ ap (Var m) (nat_cmp-IsAntisymmetric s k h.1)
  tree_equal (Var n s) (App g k us) e = absurd (cc)
  tree_equal (App f s ts) (Var m k) e = absurd (cc)
  tree_equal (App f s ts) (App g k us) e =
      let h = both_equal (nat_cmp f g) (ordering_then (trees_cmp ts us) (nat_cmp s k)) e in
      let i = both_equal (trees_cmp ts us) (nat_cmp s k) h.1 in
      ap (λ x. App x s ts) (nat_cmp-IsAntisymmetric f g h.0) ∙ ap (λ x. App g x ts) (nat_cmp-IsAntisymmetric s k i.1) ∙ ap (App g k) (trees_equal ts us i.0)

  pub trees_equal : (ts us : Trees) → trees_cmp ts us ≡ Equal → ts ≡ us
  trees_equal none none e = refl
  trees_equal none (more u us) e = absurd (cc)
  trees_equal (more t ts) none e = absurd (cc)
  trees_equal (more t ts) (more u us) e =
      let h = both_equal (tree_cmp t u) (trees_cmp ts us) e in
      ap (λ x. more x ts) (tree_equal t u h.0) ∙ ap (more u) (trees_equal ts us h.1)

-- a list does not come before itself
pub trees_apart : (ts us : Trees) → trees_cmp ts us ≡ Less → ts ≢ us
trees_apart ts us e q =
    let z : trees_cmp us us ≡ Less = ap (λ x. trees_cmp x us) (sym q) ∙ e in
    let f = trees_flip us us in
    absurd (let y = rw z at f in cc y)

-- and one comes before the other the other way round
pub trees_less : (ts us : Trees) → trees_cmp ts us ≡ Greater → trees_cmp us ts ≡ Less
trees_less ts us e = trees_flip us ts ∙ ap ordering_reverse e
