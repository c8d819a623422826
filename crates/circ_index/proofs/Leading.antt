-- Where a pattern can become a term, the term leads to the pattern's leaf.
use Rattle.std.proofs.Common.{◌≡◌, ℕ, Bool, true, false, ◌==◌, if◌then◌else◌, List, [], ◌∷◌, ◌++◌, map, Option, Some, None, refl, ap, sym, subst, ◌∙◌, inl, inr}
use Rattle.std.specs.Option.{option_and_then}
use Rattle.std.proofs.lemmas.Option.{same_Some}
use Rattle.circ_term.specs.Tree.{Tree, Trees, Var, App, none, more, is_ground}
use Rattle.circ_term.specs.Substitution.{Substitution, instance, instances}
use Rattle.circ_term.proofs.Instances.{instance-is_ground}
use Rattle.circ_index.specs.OneOf.{IsOneOf}
use Rattle.circ_index.proofs.Seeking.{one_of_front, one_of_behind}
use Rattle.circ_index.specs.Paths.{child_in, leaf_in, by_branch, end_of, end_of_all, side_end_at, side_end, side_symbol, spot, key_of_left, key_of_pair, listed, staying, gone, going, resting, after, after_all, closed, closed_all, side_after, leaves_in, keys_of_term, keys_of_two}
use Rattle.circ_index.specs.declared.paths.Branch.{Branch}
use Rattle.circ_index.specs.declared.paths.Spot.{Spot}
use Rattle.circ_index.specs.declared.paths.Paths.{Paths}
use Rattle.circ_index.specs.declared.paths.TheConstants.{STAR, ROOT}

one_of_listed : {X : Type 0} (o : Option X) (x : X) → o ≡ Some x → IsOneOf x (listed o)
one_of_listed None x e = absurd (cc)
one_of_listed (Some y) x e = inl (sym (same_Some y x e))

one_of_map : {X Y : Type 0} (f : X → Y) (xs : List X) (x : X) → IsOneOf x xs → IsOneOf (f x) (map f xs)
one_of_map f [] x h = absurd h
one_of_map f (y ∷ xs) x (inl e) = inl (ap f e)
one_of_map f (y ∷ xs) x (inr h) = inr (one_of_map f xs x h)

-- one that goes no further stays among them
stays : (ps : List Spot) (p : Spot) → IsOneOf p ps → (p.left == 0) ≡ true → IsOneOf p (staying ps)
stays [] p h e = absurd h
stays (q ∷ ps) p (inl i) e =
    let here : (q.left == 0) ≡ true = ap (λ r. r.left == 0) (sym i) ∙ e in
    one_of_front p (if q.left == 0 then q ∷ [] else []) (staying ps) (rw here (inl i))
stays (q ∷ ps) p (inr h) e = one_of_behind p (if q.left == 0 then q ∷ [] else []) (staying ps) (stays ps p h e)

-- one that goes by a branch
goes : (bs : List Branch) (s : ℕ) (ps : List Spot) (p q : Spot) → IsOneOf p ps → (p.left == 0) ≡ false → by_branch bs s p ≡ Some q → IsOneOf q (going bs s ps)
goes bs s [] p q h e b = absurd h
goes bs s (r ∷ ps) p q (inl i) e b =
    let here : gone bs s p ≡ Some q = rw e b in
    one_of_front q (listed (gone bs s r)) (going bs s ps) (one_of_listed (gone bs s r) q (ap (gone bs s) (sym i) ∙ here))
goes bs s (r ∷ ps) p q (inr h) e b = one_of_behind q (listed (gone bs s r)) (going bs s ps) (goes bs s ps p q h e b)

rests : (bs : List Branch) (ps : List Spot) (p q : Spot) (b : Bool) → IsOneOf p ps → (p.left == 0) ≡ b → (if b then Some p else by_branch bs STAR p) ≡ Some q
    → IsOneOf q (resting bs ps)
rests bs ps p q true h z e = one_of_front q (staying ps) (going bs STAR ps) (subst (λ r. IsOneOf r (staying ps)) (same_Some p q e) (stays ps p h z))
rests bs ps p q false h z e = one_of_behind q (staying ps) (going bs STAR ps) (goes bs STAR ps p q h z e)

rest_after : (bs : List Branch) (ps : List Spot) (q : Spot) (t : Tree) → IsOneOf q (resting bs ps) → IsOneOf q (after bs ps t)
rest_after bs ps q (Var n s) h = h
rest_after bs ps q (App f s ts) h = one_of_front q (resting bs ps) (after_all bs (going bs f ps) ts) h

mutual
  pub leads : (bs : List Branch) (ps : List Spot) (p q : Spot) (τ : Substitution) (l : Tree) → IsOneOf p ps → end_of bs p l ≡ Some q
      → IsOneOf q (after bs ps (instance τ l))
  leads bs ps p q τ (Var n s) h e = rest_after bs ps q (τ n s) (rests bs ps p q (p.left == 0) h refl e)
  leads bs ps p q τ (App f s ls) h e =
      go (p.left == 0) refl e (λ z k. leads_all bs (going bs f ps) (by_branch bs f p) q τ ls (λ r i. goes bs f ps p r h z i) k)
    where
      go : (b : Bool) → (p.left == 0) ≡ b → (if b then Some p else end_of_all bs (by_branch bs f p) ls) ≡ Some q
          → ((p.left == 0) ≡ false → end_of_all bs (by_branch bs f p) ls ≡ Some q → IsOneOf q (after_all bs (going bs f ps) (instances τ ls)))
          → IsOneOf q (resting bs ps ++ after_all bs (going bs f ps) (instances τ ls))
      go true z k inside = one_of_front q (resting bs ps) (after_all bs (going bs f ps) (instances τ ls)) (rests bs ps p q true h z k)
      go false z k inside = one_of_behind q (resting bs ps) (after_all bs (going bs f ps) (instances τ ls)) (inside z k)

  pub leads_all : (bs : List Branch) (ps : List Spot) (o : Option Spot) (q : Spot) (τ : Substitution) (ls : Trees) → ((p : Spot) → o ≡ Some p → IsOneOf p ps)
      → end_of_all bs o ls ≡ Some q → IsOneOf q (after_all bs ps (instances τ ls))
  leads_all bs ps o q τ none h e = h q e
  leads_all bs ps o q τ (more l ls) h e =
      leads_all bs (after bs ps (instance τ l)) (option_and_then (λ p. end_of bs p l) o) q τ ls (λ r i. next o h (λ p a k. leads bs ps p r τ l a k) i) e
    where
      next : {r : Spot} (u : Option Spot) → ((p : Spot) → u ≡ Some p → IsOneOf p ps)
          → ((p : Spot) → IsOneOf p ps → end_of bs p l ≡ Some r → IsOneOf r (after bs ps (instance τ l)))
          → option_and_then (λ p. end_of bs p l) u ≡ Some r → IsOneOf r (after bs ps (instance τ l))
      next None k f i = absurd (cc)
      next (Some p) k f i = f p (k p refl) i

-- ---- sides

ends_at : (bs : List Branch) (τ : Substitution) (l : Tree) (p : Spot) (m : ℕ) (b g : Bool) → (p.left == 0) ≡ b → is_ground l ≡ g → side_end_at bs l p ≡ Some m
    → IsOneOf m (closed bs (instance τ l) p)
ends_at bs τ l p m false g z k e =
    let here : Some p.node ≡ Some m = rw z at e in
    let list : closed bs (instance τ l) p ≡ p.node ∷ [] = rw z refl in
    subst (IsOneOf m) (sym list) (inl (sym (same_Some p.node m here)))
ends_at bs τ l p m true true z k e =
    let same : instance τ l ≡ l = instance-is_ground τ l k in
    let here : child_in bs p.node (side_symbol l) ≡ Some m = rw z at e in
    let list : closed bs l p ≡ listed (child_in bs p.node STAR) ++ listed (child_in bs p.node (side_symbol l)) = rw (z, k) refl in
    subst (λ t. IsOneOf m (closed bs t p)) (sym same)
    (subst (IsOneOf m) (sym list) (one_of_behind m (listed (child_in bs p.node STAR)) _ (one_of_listed (child_in bs p.node (side_symbol l)) m here)))
ends_at bs τ l p m true false z k e =
    let star : side_symbol l ≡ STAR = rw k refl in
    let here : child_in bs p.node STAR ≡ Some m = ap (child_in bs p.node) (sym star) ∙ (rw z at e) in
    let t = instance τ l in
    let list : closed bs t p ≡ listed (child_in bs p.node STAR) ++ (if is_ground t then listed (child_in bs p.node (side_symbol t)) else []) = rw z refl in
    subst (IsOneOf m) (sym list) (one_of_front m (listed (child_in bs p.node STAR)) _ (one_of_listed (child_in bs p.node STAR) m here))

closes : (bs : List Branch) (t : Tree) (ps : List Spot) (p : Spot) (m : ℕ) → IsOneOf p ps → IsOneOf m (closed bs t p) → IsOneOf m (closed_all bs t ps)
closes bs t [] p m h e = absurd h
closes bs t (q ∷ ps) p m (inl i) e = one_of_front m (closed bs t q) (closed_all bs t ps) (subst (λ r. IsOneOf m (closed bs t r)) i e)
closes bs t (q ∷ ps) p m (inr h) e = one_of_behind m (closed bs t q) (closed_all bs t ps) (closes bs t ps p m h e)

pub side_leads : (bs : List Branch) (ns : List ℕ) (n m : ℕ) (τ : Substitution) (l : Tree) → IsOneOf n ns → side_end bs n l ≡ Some m
    → IsOneOf m (side_after bs ns (instance τ l))
side_leads bs ns n m τ l h e = go (end_of bs (spot n) l) refl e
  where
    go : (o : Option Spot) → end_of bs (spot n) l ≡ o → option_and_then (side_end_at bs l) o ≡ Some m → IsOneOf m (side_after bs ns (instance τ l))
    go None z k = absurd (cc)
    go (Some p) z k =
        closes bs (instance τ l) (after bs (map spot ns) (instance τ l)) p m (leads bs (map spot ns) (spot n) p τ l (one_of_map spot ns n h) z)
        (ends_at bs τ l p m (p.left == 0) (is_ground l) refl refl k)

leaf_leads : (ls ns : List ℕ) (n k : ℕ) → IsOneOf n ns → leaf_in ls n ≡ Some k → IsOneOf k (leaves_in ls ns)
leaf_leads ls [] n k h e = absurd h
leaf_leads ls (m ∷ ns) n k (inl i) e = one_of_front k (listed (leaf_in ls m)) (leaves_in ls ns) (one_of_listed (leaf_in ls m) k (ap (leaf_in ls) (sym i) ∙ e))
leaf_leads ls (m ∷ ns) n k (inr h) e = one_of_behind k (listed (leaf_in ls m)) (leaves_in ls ns) (leaf_leads ls ns n k h e)

pub left_leads : (x : Paths) (τ : Substitution) (l t : Tree) (k : ℕ) → key_of_left x l ≡ Some k → instance τ l ≡ t → IsOneOf k (keys_of_term x t)
left_leads x τ l t k e made = subst (λ u. IsOneOf k (keys_of_term x u)) made (go (side_end x.branches.keys ROOT l) refl e)
  where
    go : (o : Option ℕ) → side_end x.branches.keys ROOT l ≡ o → option_and_then (leaf_in x.leaves.keys) o ≡ Some k → IsOneOf k (keys_of_term x (instance τ l))
    go None z h = absurd (cc)
    go (Some m) z h =
        leaf_leads x.leaves.keys (side_after x.branches.keys (ROOT ∷ []) (instance τ l)) m k (side_leads x.branches.keys (ROOT ∷ []) ROOT m τ l (inl refl) z) h

pub pair_leads : (x : Paths) (τ : Substitution) (p : Tree × Tree) (a b : Tree) (k : ℕ) → key_of_pair x p ≡ Some k → instance τ p.0 ≡ a → instance τ p.1 ≡ b
    → IsOneOf k (keys_of_two x a b)
pair_leads x τ p a b k e one other =
    subst (λ u. IsOneOf k (keys_of_two x u b)) one (subst (λ u. IsOneOf k (keys_of_two x (instance τ p.0) u)) other (go (side_end bs ROOT p.0) refl e))
  where
    bs : List Branch
    bs = x.branches.keys

    middle : List ℕ
    middle = side_after bs (ROOT ∷ []) (instance τ p.0)

    last : (n : ℕ) → IsOneOf n middle → (o : Option ℕ) → side_end bs n p.1 ≡ o → option_and_then (leaf_in x.leaves.keys) o ≡ Some k
        → IsOneOf k (keys_of_two x (instance τ p.0) (instance τ p.1))
    last n h None z i = absurd (cc)
    last n h (Some m) z i = leaf_leads x.leaves.keys (side_after bs middle (instance τ p.1)) m k (side_leads bs middle n m τ p.1 h z) i

    go : (o : Option ℕ) → side_end bs ROOT p.0 ≡ o → option_and_then (leaf_in x.leaves.keys) (option_and_then (λ n. side_end bs n p.1) o) ≡ Some k
        → IsOneOf k (keys_of_two x (instance τ p.0) (instance τ p.1))
    go None z i = absurd (cc)
    go (Some n) z i = last n (side_leads bs (ROOT ∷ []) ROOT n τ p.0 (inl refl) z) (side_end bs n p.1) refl i
