-- What looking finds is due at the root of the subterm at its path.
use Rattle.std.proofs.Common.{◌≡◌, ◌⊎◌, inl, inr, ℕ, ◌+◌, zero, suc, List, [], ◌∷◌, Option, Some, None, refl, ap, sym, subst, ◌∙◌, arith}
use Rattle.std.specs.List.{slice_get}
use Rattle.circ_term.specs.Tree.{Tree, Trees, Var, App, none, more, list_of, at, walk}
use Rattle.circ_rewrite.specs.Replacement.{Replacement, Placed, placed, below}
use Rattle.circ_conditional_norm.specs.Norm.{look, looks, look_from, looks_from}
use Rattle.circ_conditional_norm.specs.Work.{Work, Made, map_found, LeavesAtMost}
use Rattle.circ_conditional_norm.proofs.Working.{found_map, found_next, map_leaves, next_leaves}

module _ (due : (budget : ℕ) → Tree → Work (Option Replacement)) where
  -- the replacement is due at the root of the subterm at its path, with some budget, of which this is left
  abbrev pub IsDueAt : Tree → Placed → (left : ℕ) → Type 0
  IsDueAt t q l = (a : Tree) × (at t q.path ≡ Some a) × (k : ℕ) × (due k a ≡ Made (Some q.replacement) l)

  -- the same in one of these arguments, the first of which has the number j
  abbrev IsDueIn : (j : ℕ) → Trees → Placed → (left : ℕ) → Type 0
  IsDueIn j ts q l = (i : ℕ) × (x : Tree) × (r : Placed) × (slice_get (list_of ts) i ≡ Some x) × (q ≡ below (j + i) r) × IsDueAt x r l

  at_root : (t : Tree) (k : ℕ) (q : Placed) (l : ℕ) → map_found (placed []) (due k t) ≡ Made (Some q) l → IsDueAt t q l
  at_root t k q l e =
      let h = found_map (placed []) (due k t) q l e in
      subst (λ p. IsDueAt t p l) h.2 (t, refl, k, h.1)

  in_whole : (f s : ℕ) (ts : Trees) (q : Placed) (l : ℕ) → IsDueIn 0 ts q l → IsDueAt (App f s ts) q l
  in_whole f s ts q l h =
      let z : 0 + h.0 ≡ h.0 = omega arith in
      let is : below h.0 h.2 ≡ q = ap (λ j. below j h.2) (sym z) ∙ sym h.4 in
      subst (λ p. IsDueAt (App f s ts) p l) is (h.5.0, ap (λ o. walk o h.2.path) h.3 ∙ h.5.1, h.5.2, h.5.3)

  first_in : (j : ℕ) (t : Tree) (ts : Trees) (r q : Placed) (l : ℕ) → below j r ≡ q → IsDueAt t r l → IsDueIn j (more t ts) q l
  first_in j t ts r q l e h =
      let z : j ≡ j + 0 = omega arith in
      (0, t, r, refl, sym e ∙ ap (λ i. below i r) z, h)

  later_in : (j : ℕ) (t : Tree) (ts : Trees) (q : Placed) (l : ℕ) → IsDueIn (j + 1) ts q l → IsDueIn j (more t ts) q l
  later_in j t ts q l h =
      let z : j + 1 + h.0 ≡ j + suc h.0 = omega arith in
      (suc h.0, h.1, h.2, h.3, h.4 ∙ ap (λ i. below i h.2) z, h.5)

  mutual
    look_there : (t : Tree) (k : ℕ) (q : Placed) (l : ℕ) → look due t k ≡ Made (Some q) l → IsDueAt t q l
    look_there (Var n s) k q l e = at_root (Var n s) k q l e
    look_there (App f s ts) k q l e = go (found_next (looks due 0 ts k) (λ m. map_found (placed []) (due m (App f s ts))) q l e) (looks_in 0 ts k q l)
      where
        go : (looks due 0 ts k ≡ Made (Some q) l) ⊎ ((m : ℕ) × (looks due 0 ts k ≡ Made None m) × (map_found (placed []) (due m (App f s ts)) ≡ Made (Some q) l))
            → (looks due 0 ts k ≡ Made (Some q) l → IsDueIn 0 ts q l) → IsDueAt (App f s ts) q l
        go (inl x) ih = in_whole f s ts q l (ih x)
        go (inr x) ih = at_root (App f s ts) x.0 q l x.2

    looks_in : (j : ℕ) (ts : Trees) (k : ℕ) (q : Placed) (l : ℕ) → looks due j ts k ≡ Made (Some q) l → IsDueIn j ts q l
    looks_in j none k q l e = absurd (cc)
    looks_in j (more t ts) k q l e =
        go (found_next (map_found (below j) (look due t k)) (looks due (j + 1) ts) q l e) (λ r x. look_there t k r l x) (λ m x. looks_in (j + 1) ts m q l x)
      where
        go : (map_found (below j) (look due t k) ≡ Made (Some q) l)
            ⊎ ((m : ℕ) × (map_found (below j) (look due t k) ≡ Made None m) × (looks due (j + 1) ts m ≡ Made (Some q) l))
            → ((r : Placed) → look due t k ≡ Made (Some r) l → IsDueAt t r l) → ((m : ℕ) → looks due (j + 1) ts m ≡ Made (Some q) l → IsDueIn (j + 1) ts q l)
            → IsDueIn j (more t ts) q l
        go (inl x) here later =
            let h = found_map (below j) (look due t k) q l x in
            first_in j t ts h.0 q l h.2 (here h.0 h.1)
        go (inr x) here later = later_in j t ts q l (later x.0 x.2)

  mutual
    pub look_from_there : (p : List ℕ) (t : Tree) (k : ℕ) (q : Placed) (l : ℕ) → look_from due p t k ≡ Made (Some q) l → IsDueAt t q l
    look_from_there [] t k q l e = look_there t k q l e
    look_from_there (i ∷ p) (Var n s) k q l e = absurd (cc)
    look_from_there (i ∷ p) (App f s ts) k q l e =
        go (found_next (looks_from due i p 0 ts k) (λ m. map_found (placed []) (due m (App f s ts))) q l e) (looks_from_in i p 0 ts k q l)
      where
        go : (looks_from due i p 0 ts k ≡ Made (Some q) l)
            ⊎ ((m : ℕ) × (looks_from due i p 0 ts k ≡ Made None m) × (map_found (placed []) (due m (App f s ts)) ≡ Made (Some q) l))
            → (looks_from due i p 0 ts k ≡ Made (Some q) l → IsDueIn 0 ts q l) → IsDueAt (App f s ts) q l
        go (inl x) ih = in_whole f s ts q l (ih x)
        go (inr x) ih = at_root (App f s ts) x.0 q l x.2

    looks_from_in : (i : ℕ) (p : List ℕ) (j : ℕ) (ts : Trees) (k : ℕ) (q : Placed) (l : ℕ) → looks_from due i p j ts k ≡ Made (Some q) l → IsDueIn j ts q l
    looks_from_in zero p j none k q l e = absurd (cc)
    looks_from_in (suc i) p j none k q l e = absurd (cc)
    looks_from_in zero p j (more t ts) k q l e =
        go (found_next (map_found (below j) (look_from due p t k)) (looks due (j + 1) ts) q l e) (λ r x. look_from_there p t k r l x)
      where
        go : (map_found (below j) (look_from due p t k) ≡ Made (Some q) l)
            ⊎ ((m : ℕ) × (map_found (below j) (look_from due p t k) ≡ Made None m) × (looks due (j + 1) ts m ≡ Made (Some q) l))
            → ((r : Placed) → look_from due p t k ≡ Made (Some r) l → IsDueAt t r l)
            → IsDueIn j (more t ts) q l
        go (inl x) here =
            let h = found_map (below j) (look_from due p t k) q l x in
            first_in j t ts h.0 q l h.2 (here h.0 h.1)
        go (inr x) here = later_in j t ts q l (looks_in (j + 1) ts x.0 q l x.2)
    looks_from_in (suc i) p j (more t ts) k q l e = later_in j t ts q l (looks_from_in i p (j + 1) ts k q l e)

  -- ---- what is left

  module _ (fall : (k : ℕ) (t : Tree) → LeavesAtMost k (due k t)) where
    root_leaves : (t : Tree) (k : ℕ) → LeavesAtMost k (map_found (placed []) (due k t))
    root_leaves t k = map_leaves (placed []) (due k t) k (fall k t)

    mutual
      look_leaves : (t : Tree) (k : ℕ) → LeavesAtMost k (look due t k)
      look_leaves (Var n s) k = root_leaves (Var n s) k
      look_leaves (App f s ts) k = next_leaves (looks due 0 ts k) (λ l. map_found (placed []) (due l (App f s ts))) k (looks_leaves 0 ts k) (root_leaves (App f s ts))

      pub looks_leaves : (i : ℕ) (ts : Trees) (k : ℕ) → LeavesAtMost k (looks due i ts k)
      looks_leaves i none k = omega arith
      looks_leaves i (more t ts) k =
          next_leaves (map_found (below i) (look due t k)) (looks due (i + 1) ts) k (map_leaves (below i) (look due t k) k (look_leaves t k)) (looks_leaves (i + 1) ts)

    mutual
      pub look_from_leaves : (p : List ℕ) (t : Tree) (k : ℕ) → LeavesAtMost k (look_from due p t k)
      look_from_leaves [] t k = look_leaves t k
      look_from_leaves (i ∷ p) (Var n s) k = omega arith
      look_from_leaves (i ∷ p) (App f s ts) k =
          next_leaves (looks_from due i p 0 ts k) (λ l. map_found (placed []) (due l (App f s ts))) k (looks_from_leaves i p 0 ts k) (root_leaves (App f s ts))

      looks_from_leaves : (i : ℕ) (p : List ℕ) (j : ℕ) (ts : Trees) (k : ℕ) → LeavesAtMost k (looks_from due i p j ts k)
      looks_from_leaves zero p j none k = omega arith
      looks_from_leaves (suc i) p j none k = omega arith
      looks_from_leaves zero p j (more t ts) k =
          next_leaves (map_found (below j) (look_from due p t k)) (looks due (j + 1) ts) k (map_leaves (below j) (look_from due p t k) k (look_from_leaves p t k))
          (looks_leaves (j + 1) ts)
      looks_from_leaves (suc i) p j (more t ts) k = looks_from_leaves i p (j + 1) ts k
