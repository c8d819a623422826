-- Going down a path: what stands there, and what a replacement leaves.
use Rattle.std.proofs.Common.{◌≡◌, ℕ, zero, suc, List, [], ◌∷◌, ◌++◌, Option, Some, None, refl, ap, sym, ◌∙◌}
use Rattle.std.specs.Prelude.{slice_set}
use Rattle.std.specs.List.{slice_get}
use Rattle.std.specs.Option.{option_map, option_and_then}
use Rattle.std.proofs.lemmas.Option.{same_Some}
use Rattle.circ_term.specs.Tree.{Tree, Trees, Var, App, none, more, list_of, trees_of, args_of}
use Rattle.circ_term.proofs.Trees.{list_of-trees_of, trees_of-list_of}
use Rattle.circ_term.specs.Tree.{walk, at, put_at, with_arg, replaced}
use Rattle.circ_term.specs.Substitution.{Substitution, instance, instances}

get_set : {X : Type 0} (xs : List X) (i : ℕ) (x y : X) → slice_get xs i ≡ Some x → slice_get (slice_set xs i y) i ≡ Some y
get_set [] i x y e = absurd (cc)
get_set (z ∷ xs) zero x y e = refl
get_set (z ∷ xs) (suc i) x y e = get_set xs i x y e

set_twice : {X : Type 0} (xs : List X) (i : ℕ) (x y : X) → slice_set (slice_set xs i x) i y ≡ slice_set xs i y
set_twice [] i x y = refl
set_twice (z ∷ xs) zero x y = refl
set_twice (z ∷ xs) (suc i) x y = ap (λ r. z ∷ r) (set_twice xs i x y)

set_same : {X : Type 0} (xs : List X) (i : ℕ) (x : X) → slice_get xs i ≡ Some x → slice_set xs i x ≡ xs
set_same [] i x e = refl
set_same (z ∷ xs) zero x e = ap (λ r. r ∷ xs) (sym (same_Some z x e))
set_same (z ∷ xs) (suc i) x e = ap (λ r. z ∷ r) (set_same xs i x e)

pub walk_none : (p : List ℕ) → walk None p ≡ None
walk_none [] = refl
walk_none (i ∷ p) = walk_none p

-- outside a term there is nothing
pub nowhere : {X : Type 0} (p : List ℕ) (a : Tree) → walk None p ≡ Some a → X
nowhere p a e = absurd (let off = walk_none p in cc)

-- a subterm of a subterm
pub walk-append : (o : Option Tree) (q r : List ℕ) → walk o (q ++ r) ≡ walk (walk o q) r
walk-append o [] r = refl
walk-append o (i ∷ q) r = walk-append (option_and_then (λ t. slice_get (args_of t) i) o) q r

pub at-append : (t m : Tree) (q r : List ℕ) → at t q ≡ Some m → at t (q ++ r) ≡ at m r
at-append t m q r e = walk-append (Some t) q r ∙ ap (λ o. walk o r) e

-- the first step of a path to a subterm: t is an application, and the rest leads on from its argument i
pub record Down (t : Tree) (i : ℕ) (p : List ℕ) (x : Tree) : Type 0 where
  pub op : ℕ
  pub sort : ℕ
  pub args : Trees
  pub is : t ≡ App op sort args
  pub arg : Tree
  pub got : slice_get (list_of args) i ≡ Some arg
  pub there : at arg p ≡ Some x

pub down : (t : Tree) (i : ℕ) (p : List ℕ) (x : Tree) → at t (i ∷ p) ≡ Some x → Down t i p x
down (Var n s) i p x e = nowhere p x e
down (App f s ts) i p x e = go (slice_get (list_of ts) i) refl
  where
    go : (o : Option Tree) → slice_get (list_of ts) i ≡ o → Down (App f s ts) i p x
    go None g = nowhere p x (rw g at e)
    go (Some a) g = record { op = f; sort = s; args = ts; is = refl; arg = a; got = g; there = rw g at e }

-- the first step of a path to a replacement: what it leaves is t with a new argument i
pub record Deeper (t : Tree) (i : ℕ) (p : List ℕ) (u v : Tree) : Type 0 where
  pub op : ℕ
  pub sort : ℕ
  pub args : Trees
  pub is : t ≡ App op sort args
  pub arg : Tree
  pub got : slice_get (list_of args) i ≡ Some arg
  pub new : Tree
  pub made : replaced arg p u ≡ Some new
  pub whole : v ≡ App op sort (put_at args i new)

pub deeper : (t : Tree) (i : ℕ) (p : List ℕ) (u v : Tree) → replaced t (i ∷ p) u ≡ Some v → Deeper t i p u v
deeper (Var n s) i p u v e = absurd (cc)
deeper (App f s ts) i p u v e = go (slice_get (list_of ts) i) refl
  where
    there : (a : Tree) → slice_get (list_of ts) i ≡ Some a → (o : Option Tree) → replaced a p u ≡ o → Deeper (App f s ts) i p u v
    there a g None m = absurd (let z = rw (g, m) at e in cc)
    there a g (Some b) m = record {
      op = f;
      sort = s;
      args = ts;
      is = refl;
      arg = a;
      got = g;
      new = b;
      made = m;
      whole = sym (same_Some (App f s (put_at ts i b)) v (rw (g, m) at e));
    }

    go : (o : Option Tree) → slice_get (list_of ts) i ≡ o → Deeper (App f s ts) i p u v
    go None g = absurd (let z = rw g at e in cc)
    go (Some a) g = there a g (replaced a p u) refl

replaced_down : (f s : ℕ) (ts : Trees) (i : ℕ) (p : List ℕ) (a u b : Tree) → slice_get (list_of ts) i ≡ Some a → replaced a p u ≡ Some b
    → replaced (App f s ts) (i ∷ p) u ≡ Some (App f s (put_at ts i b))
replaced_down f s ts i p a u b g m = rw (g, m) refl

-- what stands somewhere can be replaced
pub replaced_there : (q : List ℕ) (t x u : Tree) → at t q ≡ Some x → (v : Tree) × (replaced t q u ≡ Some v)
replaced_there [] t x u e = (u, refl)
replaced_there (i ∷ q) t x u e =
    let d : Down t i q x = down t i q x e in
    let r = replaced_there q d.arg x u d.there in
    (App d.op d.sort (put_at d.args i r.0), ap (λ y. replaced y (i ∷ q) u) d.is ∙ replaced_down d.op d.sort d.args i q d.arg u r.0 d.got r.1)

-- replacing a subterm by itself changes nothing
pub replaced_self : (q : List ℕ) (t x : Tree) → at t q ≡ Some x → replaced t q x ≡ Some t
replaced_self [] t x e = sym e
replaced_self (i ∷ q) t x e =
    let d : Down t i q x = down t i q x e in
    let same : App d.op d.sort (put_at d.args i d.arg) ≡ t
    = ap (λ l. App d.op d.sort (trees_of l)) (set_same (list_of d.args) i d.arg d.got) ∙ ap (App d.op d.sort) (trees_of-list_of d.args) ∙ sym d.is in
    ap (λ y. replaced y (i ∷ q) x) d.is ∙ replaced_down d.op d.sort d.args i q d.arg x d.arg d.got (replaced_self q d.arg x d.there) ∙ ap Some same

get_new : (ts : Trees) (i : ℕ) (a b : Tree) → slice_get (list_of ts) i ≡ Some a → slice_get (list_of (put_at ts i b)) i ≡ Some b
get_new ts i a b g = ap (λ l. slice_get l i) (list_of-trees_of (slice_set (list_of ts) i b)) ∙ get_set (list_of ts) i a b g

put_twice : (ts : Trees) (i : ℕ) (b c : Tree) → put_at (put_at ts i b) i c ≡ put_at ts i c
put_twice ts i b c =
    ap (λ l. trees_of (slice_set l i c)) (list_of-trees_of (slice_set (list_of ts) i b)) ∙ ap trees_of (set_twice (list_of ts) i b c)

-- the new subterm stands where the old one stood
pub at_replaced : (q : List ℕ) (t u v : Tree) → replaced t q u ≡ Some v → at v q ≡ Some u
at_replaced [] t u v e = sym e
at_replaced (i ∷ q) t u v e =
    let d : Deeper t i q u v = deeper t i q u v e in
    let here : slice_get (args_of v) i ≡ Some d.new = ap (λ y. slice_get (args_of y) i) d.whole ∙ get_new d.args i d.arg d.new d.got in
    ap (λ o. walk o q) here ∙ at_replaced q d.arg u d.new d.made

-- a second replacement at the same path hides the first
pub replaced_twice : (q : List ℕ) (t u v w : Tree) → replaced t q u ≡ Some v → replaced v q w ≡ replaced t q w
replaced_twice [] t u v w e = refl
replaced_twice (i ∷ q) t u v w e =
    let d : Deeper t i q u v = deeper t i q u v e in
    let new = get_new d.args i d.arg d.new d.got in
    ap (λ y. replaced y (i ∷ q) w) d.whole
    ∙ go d.op d.sort d.args d.arg d.new new d.got (replaced_twice q d.arg u d.new w d.made) (replaced d.arg q w) refl
    ∙ sym (ap (λ y. replaced y (i ∷ q) w) d.is)
  where
    go : (f s : ℕ) (ts : Trees) (a b : Tree) → slice_get (list_of (put_at ts i b)) i ≡ Some b → slice_get (list_of ts) i ≡ Some a
        → replaced b q w ≡ replaced a q w → (o : Option Tree) → replaced a q w ≡ o
        → replaced (App f s (put_at ts i b)) (i ∷ q) w ≡ replaced (App f s ts) (i ∷ q) w
    go f s ts a b new got ih None m = rw (new, got, ih ∙ m, m) refl
    go f s ts a b new got ih (Some c) m =
        replaced_down f s (put_at ts i b) i q b w c new (ih ∙ m) ∙ ap (λ us. Some (App f s us)) (put_twice ts i b c)
        ∙ sym (replaced_down f s ts i q a w c got m)

-- a replacement below a path is one at the path
pub replaced_below : (q r : List ℕ) (t x u y : Tree) → at t q ≡ Some x → replaced x r u ≡ Some y → replaced t (q ++ r) u ≡ replaced t q y
replaced_below [] r t x u y e m = ap (λ z. replaced z r u) (same_Some t x e) ∙ m
replaced_below (i ∷ q) r t x u y e m =
    let d : Down t i q x = down t i q x e in
    let ih = replaced_below q r d.arg x u y d.there m in
    ap (λ z. replaced z (i ∷ (q ++ r)) u) d.is ∙ (rw d.got (ap (with_arg (App d.op d.sort d.args) i) ih)) ∙ sym (ap (λ z. replaced z (i ∷ q) y) d.is)

pub list_of-instances : (σ : Substitution) (ts : Trees) (i : ℕ) → slice_get (list_of (instances σ ts)) i ≡ option_map (instance σ) (slice_get (list_of ts) i)
list_of-instances σ none i = refl
list_of-instances σ (more t ts) zero = refl
list_of-instances σ (more t ts) (suc i) = list_of-instances σ ts i

-- a subterm of an instance
pub at_instance : (σ : Substitution) (q : List ℕ) (t m : Tree) → at t q ≡ Some m → at (instance σ t) q ≡ Some (instance σ m)
at_instance σ [] t m e = ap (λ x. Some (instance σ x)) (same_Some t m e)
at_instance σ (i ∷ q) t m e =
    let d : Down t i q m = down t i q m e in
    rw d.is (rw (list_of-instances σ d.args i, d.got) (at_instance σ q d.arg m d.there))

put_instance : (σ : Substitution) (ts : Trees) (i : ℕ) (y : Tree) → put_at (instances σ ts) i (instance σ y) ≡ instances σ (put_at ts i y)
put_instance σ none i y = refl
put_instance σ (more t ts) zero y = ap (more (instance σ y)) (trees_of-list_of (instances σ ts) ∙ ap (instances σ) (sym (trees_of-list_of ts)))
put_instance σ (more t ts) (suc i) y = ap (more (instance σ t)) (put_instance σ ts i y)

-- an instance of a replacement
pub replaced_instance : (σ : Substitution) (q : List ℕ) (t b u : Tree) → replaced t q b ≡ Some u
    → replaced (instance σ t) q (instance σ b) ≡ Some (instance σ u)
replaced_instance σ [] t b u r = ap (λ x. Some (instance σ x)) (same_Some b u r)
replaced_instance σ (i ∷ q) t b u r =
    let d : Deeper t i q b u = deeper t i q b u r in
    let put = put_instance σ d.args i d.new in
    ap (λ y. replaced (instance σ y) (i ∷ q) (instance σ b)) d.is
    ∙ (rw (list_of-instances σ d.args i, d.got, replaced_instance σ q d.arg b d.new d.made) (ap (λ us. Some (App d.op d.sort us)) put))
    ∙ ap (λ y. Some (instance σ y)) (sym d.whole)
