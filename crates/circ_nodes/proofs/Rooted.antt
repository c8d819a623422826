-- Terms are found by their roots.
use Rattle.std.specs.Prelude.{◌≡◌, ℕ, zero, suc, ◌+◌, ◌<◌, ◌≤◌, List, [], ◌∷◌, ◌++◌, length, Some, None, refl}
use Rattle.std.specs.List.{slice_get}
use Rattle.std.proofs.Common.{ap, sym, subst, ◌∙◌, arith, get_or, length-append, take, min, ◌⊎◌, inl, inr}
use Rattle.std.proofs.lemmas.List.{length-take}
use Rattle.std.proofs.lemmas.Option.{slice_get_within, slice_get_read, same_Some}
use Rattle.circ_term.specs.Tree.{Tree, Trees, Var, App, none, more, args_of}
use Rattle.circ_term.specs.Limits.{argument_limit}
use Rattle.circ_nodes.specs.declared.rows.Weight.{Weight}
use Rattle.circ_term.specs.Growing.{Grows}
use Rattle.circ_nodes.specs.Named.{IsNamed, AreNamed, IsOnce}
use Rattle.std.specs.List.{AllByRecursion}
use Rattle.circ_nodes.specs.Rows.{PlainRoot, variable, application, arguments}
use Rattle.circ_nodes.specs.Roots.{HasRoot, HasWeight, Finds, IsKept}
use Rattle.circ_nodes.proofs.Numbers.{named_below, there_named, are_named_one, are_named_length, are_named_later, all_below}
use Rattle.circ_nodes.proofs.Places.{get_there, get_last, taken_get, get_taken}

-- a term has one root, and a root is that of one term

numbers_once : (nodes : List Tree) → IsOnce nodes → (ns ms : List ℕ) (ts : Trees) → AreNamed nodes ns ts → AreNamed nodes ms ts → ns ≡ ms
numbers_once nodes once [] [] none g h = refl
numbers_once nodes once [] (m ∷ ms) none g h = absurd h
numbers_once nodes once (n ∷ ns) ms none g h = absurd g
numbers_once nodes once [] ms (more t ts) g h = absurd g
numbers_once nodes once (n ∷ ns) [] (more t ts) g h = absurd h
numbers_once nodes once (n ∷ ns) (m ∷ ms) (more t ts) g h =
    ap (λ x. x ∷ ns) (once n m t g.0 h.0) ∙ ap (λ xs. m ∷ xs) (numbers_once nodes once ns ms ts g.1 h.1)

same_parts : (f g s k : ℕ) (ts us : Trees) → App f s ts ≡ App g k us → (f ≡ g) × (s ≡ k) × (ts ≡ us)
same_parts f g s k ts us e = (cc, cc, cc)

pub root_once : (nodes : List Tree) → IsOnce nodes → (p q : PlainRoot) (t : Tree) → HasRoot nodes p t → HasRoot nodes q t → p ≡ q
root_once nodes once (variable n s) (variable m k) t g h = let e : Var n s ≡ Var m k = sym g ∙ h in cc
root_once nodes once (variable n s) (application f k ms) t g h = absurd (let e : Var n s ≡ App f k h.0 = sym g ∙ h.1 in cc)
root_once nodes once (application f s ns) (variable m k) t g h = absurd (let e : Var m k ≡ App f s g.0 = sym h ∙ g.1 in cc)
root_once nodes once (application f s ns) (application g k ms) t a b =
    let same = same_parts f g s k a.0 b.0 (sym a.1 ∙ b.1) in
    let P : Trees → Type 0 = AreNamed nodes ns in
    let numbers = numbers_once nodes once ns ms b.0 (subst P same.2 a.2) b.2 in
    ap (λ x. application x s ns) same.0 ∙ ap (λ x. application g x ns) same.1 ∙ ap (application g k) numbers

pub root_of_one : (nodes : List Tree) (p : PlainRoot) (t u : Tree) → HasRoot nodes p t → HasRoot nodes p u → t ≡ u
root_of_one nodes (variable n s) t u g h = g ∙ sym h
root_of_one nodes (application f s ns) t u g h = g.1 ∙ ap (App f s) (are_named_one nodes ns g.0 h.0 g.2 h.2) ∙ sym h.1

-- the weight of one is that of the other
pub weight_same : (nodes : List Tree) (p : PlainRoot) (t u : Tree) (w : Weight) → HasRoot nodes p t → HasRoot nodes p u → HasWeight w t → HasWeight w u
weight_same nodes p t u w g h own = subst (λ x. HasWeight w x) (root_of_one nodes p t u g h) own

pub root_few : (nodes : List Tree) (p : PlainRoot) (t : Tree) → HasRoot nodes p t → length (args_of t) ≤ argument_limit
root_few nodes (variable n s) t h = rw h (omega arith)
root_few nodes (application f s ns) t h = let l = are_named_length nodes ns h.0 h.2 in rw h.1 (omega (arith, l, h.3))

root_below : (nodes : List Tree) (p : PlainRoot) (t : Tree) → HasRoot nodes p t → AllByRecursion (λ m. m < length nodes) (arguments p)
root_below nodes (variable n s) t h = tt
root_below nodes (application f s ns) t h = all_below nodes ns h.0 h.2

root_later : (old new : List Tree) (p : PlainRoot) (t : Tree) → Grows old new → HasRoot old p t → HasRoot new p t
root_later old new (variable n s) t g h = h
root_later old new (application f s ns) t g h = (h.0, h.1, are_named_later old new ns h.0 g h.2, h.3)

below_at : (n : ℕ) (ns : List ℕ) (i m : ℕ) → AllByRecursion (λ j. j < n) ns → slice_get ns i ≡ Some m → m < n
below_at n [] i m h e = absurd (cc)
below_at n (x ∷ ns) zero m h e = let b = h.0 in omega (arith, b, same_Some x m e)
below_at n (x ∷ ns) (suc i) m h e = below_at n ns i m h.1 e

-- what the look-up of a root answers

module _ {nodes : List Tree} {roots : List PlainRoot} {weights : List Weight} (k : IsKept nodes roots weights) where
  pub root_at : (n : ℕ) (t : Tree) → IsNamed nodes n t → (r : PlainRoot) × (slice_get roots n ≡ Some r) × HasRoot nodes r t
  root_at n t h =
      let b = named_below nodes n t h in
      let r = get_there roots n (omega (arith, b, k.long)) in
      (r.0, r.1, k.rooted n r.0 t r.1 h)

  -- the root that is read beside a term
  pub root_read : (n : ℕ) (t : Tree) (r : PlainRoot) → IsNamed nodes n t → r ≡ get_or roots n r → HasRoot nodes r t
  root_read n t r h e =
      let b = named_below nodes n t h in
      k.rooted n r t (slice_get_read roots (length roots) n r refl (omega (arith, b, k.long)) e) h

  -- so is the weight
  pub weight_read : (n : ℕ) (t : Tree) (w : Weight) → IsNamed nodes n t → w ≡ get_or weights n w → HasWeight w t
  weight_read n t w h e =
      let b = named_below nodes n t h in
      k.weighs n w t (slice_get_read weights (length weights) n w refl (omega (arith, b, k.weighted)) e) h

  pub arguments_read : (n : ℕ) (r : PlainRoot) → n < length nodes → r ≡ get_or roots n r → AllByRecursion (λ m. m < n) (arguments r)
  arguments_read n r b e = k.before n r (slice_get_read roots (length roots) n r refl (omega (arith, b, k.long)) e)

  module _ (r : PlainRoot) (t : Tree) (root : HasRoot nodes r t) where
    -- a number with this root is that of the term
    pub found : (n : ℕ) → slice_get roots n ≡ Some r → IsNamed nodes n t
    found n e =
        let b = slice_get_within roots n r e in
        let there = there_named nodes n (omega (arith, b, k.long)) in
        let Q : Tree → Type 0 = IsNamed nodes n in
        subst Q (root_of_one nodes r there.0 t (k.rooted n r there.0 e there.1) root) there.1

    -- the term has no number where its root has none
    pub not_found : ((n : ℕ) → slice_get roots n ≡ Some r → ⊥) → Finds nodes t None
    not_found h n e =
        let s = root_at n t e in
        let same = root_once nodes k.once r s.0 t root s.2 in
        absurd (h n (s.1 ∙ ap Some (sym same)))

    -- and where its root has the last number as an argument
    pub above_last : (i m : ℕ) → slice_get (arguments r) i ≡ Some m → length nodes ≤ m + 1 → Finds nodes t None
    above_last i m arg last n e =
        let s = root_at n t e in
        let same = root_once nodes k.once r s.0 t root s.2 in
        let P : PlainRoot → Type 0 = λ p. AllByRecursion (λ j. j < n) (arguments p) in
        let below = below_at n (arguments r) i m (subst P (sym same) (k.before n s.0 s.1)) arg in
        let there = named_below nodes n t e in
        absurd (omega (arith, below, there, last))

    -- the new term goes last
    pub kept_push : (w : Weight) → HasWeight w t → Finds nodes t None → length nodes < 4294967295 → IsKept (nodes ++ t ∷ []) (roots ++ r ∷ []) (weights ++ w ∷ [])
    kept_push w own fresh room = record {
      few = let l = length-append nodes (t ∷ []) in omega (arith, l, room);
      long = let l = length-append nodes (t ∷ []) in let m = length-append roots (r ∷ []) in omega (arith, l, m, k.long);
      rooted = λ n s u g h. rooted n s u (get_last roots r s n g) (get_last nodes t u n h);
      once = λ n m u g h. once n m u (get_last nodes t u n g) (get_last nodes t u m h);
      before = λ n s g. before n s (get_last roots r s n g);
      weighted = let l = length-append nodes (t ∷ []) in let m = length-append weights (w ∷ []) in omega (arith, l, m, k.weighted);
      weighs = λ n v u g h. weighs n v u (get_last weights w v n g) (get_last nodes t u n h);
    }
      where
        weighs : (n : ℕ) (v : Weight) (u : Tree) → (slice_get weights n ≡ Some v) ⊎ ((n ≡ length weights) × (w ≡ v))
            → IsNamed nodes n u ⊎ ((n ≡ length nodes) × (t ≡ u)) → HasWeight v u
        weighs n v u (inl g) (inl h) = k.weighs n v u g h
        weighs n v u (inl g) (inr h) = let b = slice_get_within weights n v g in absurd (omega (arith, b, k.weighted, h.0))
        weighs n v u (inr g) (inl h) = let b = named_below nodes n u h in absurd (omega (arith, b, k.weighted, g.0))
        weighs n v u (inr g) (inr h) =
            let P : Weight → Type 0 = λ x. HasWeight x u in
            let Q : Tree → Type 0 = λ x. HasWeight w x in
            subst P g.1 (subst Q h.1 own)

        before : (n : ℕ) (s : PlainRoot) → (slice_get roots n ≡ Some s) ⊎ ((n ≡ length roots) × (r ≡ s)) → AllByRecursion (λ m. m < n) (arguments s)
        before n s (inl g) = k.before n s g
        before n s (inr g) =
            let same : length nodes ≡ n = sym (g.0 ∙ k.long) in
            let P : ℕ → Type 0 = λ x. AllByRecursion (λ m. m < x) (arguments r) in
            let Q : PlainRoot → Type 0 = λ x. AllByRecursion (λ m. m < n) (arguments x) in
            subst Q g.1 (subst P same (root_below nodes r t root))

        later : (p : PlainRoot) (u : Tree) → HasRoot nodes p u → HasRoot (nodes ++ t ∷ []) p u
        later p u h = root_later nodes (nodes ++ t ∷ []) p u (t ∷ [], refl) h

        rooted : (n : ℕ) (s : PlainRoot) (u : Tree) → (slice_get roots n ≡ Some s) ⊎ ((n ≡ length roots) × (r ≡ s))
            → IsNamed nodes n u ⊎ ((n ≡ length nodes) × (t ≡ u)) → HasRoot (nodes ++ t ∷ []) s u
        rooted n s u (inl g) (inl h) = later s u (k.rooted n s u g h)
        rooted n s u (inl g) (inr h) = let b = slice_get_within roots n s g in absurd (omega (arith, b, k.long, h.0))
        rooted n s u (inr g) (inl h) = let b = named_below nodes n u h in absurd (omega (arith, b, k.long, g.0))
        rooted n s u (inr g) (inr h) =
            let P : PlainRoot → Type 0 = λ x. HasRoot (nodes ++ t ∷ []) x u in
            let Q : Tree → Type 0 = λ x. HasRoot (nodes ++ t ∷ []) r x in
            subst P g.1 (subst Q h.1 (later r t root))

        absent : (n : ℕ) (u : Tree) → IsNamed nodes n u → t ≡ u → ⊥
        absent n u h same = fresh n (h ∙ ap Some (sym same))

        once : (n m : ℕ) (u : Tree) → IsNamed nodes n u ⊎ ((n ≡ length nodes) × (t ≡ u)) → IsNamed nodes m u ⊎ ((m ≡ length nodes) × (t ≡ u)) → n ≡ m
        once n m u (inl g) (inl h) = k.once n m u g h
        once n m u (inl g) (inr h) = absurd (absent n u g h.1)
        once n m u (inr g) (inl h) = absurd (absent m u h g.1)
        once n m u (inr g) (inr h) = g.0 ∙ sym h.0

  -- the first terms alone
  kept_args : (c : ℕ) (ns : List ℕ) (ts : Trees) (n : ℕ) → n < c → AllByRecursion (λ m. m < n) ns → AreNamed nodes ns ts → AreNamed (take c nodes) ns ts
  kept_args c [] none n h a b = tt
  kept_args c [] (more t ts) n h a b = absurd b
  kept_args c (m ∷ ns) none n h a b = absurd b
  kept_args c (m ∷ ns) (more t ts) n h a b = (get_taken nodes c m t (let x = a.0 in omega (arith, x, h)) b.0, kept_args c ns ts n h a.1 b.1)

  kept_root : (c : ℕ) (p : PlainRoot) (t : Tree) (n : ℕ) → n < c → AllByRecursion (λ m. m < n) (arguments p) → HasRoot nodes p t → HasRoot (take c nodes) p t
  kept_root c (variable m s) t n h a b = b
  kept_root c (application f s ns) t n h a b = (b.0, b.1, kept_args c ns b.0 n h a b.2, b.3)

  pub kept_cut : (c : ℕ) → IsKept (take c nodes) (take c roots) (take c weights)
  kept_cut c = record {
    few = let l = length-take c nodes in omega (arith, l, k.few);
    long = length-take c roots ∙ ap (min c) k.long ∙ sym (length-take c nodes);
    rooted = λ n r t g h.
        let a = taken_get roots c n r g in
        let b = taken_get nodes c n t h in
        kept_root c r t n a.1 (k.before n r a.0) (k.rooted n r t a.0 b.0);
    once = λ n m t g h. k.once n m t (taken_get nodes c n t g).0 (taken_get nodes c m t h).0;
    before = λ n r g. k.before n r (taken_get roots c n r g).0;
    weighted = length-take c weights ∙ ap (min c) k.weighted ∙ sym (length-take c nodes);
    weighs = λ n w t g h. k.weighs n w t (taken_get weights c n w g).0 (taken_get nodes c n t h).0;
  }
