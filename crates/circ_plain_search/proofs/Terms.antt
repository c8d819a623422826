-- Terms that a proof may hold: well-sorted, within the limits, and with variables of small numbers.
use Rattle.std.proofs.Common.{◌≡◌, ℕ, zero, suc, ◌≤◌, ◌<◌, ◌^◌, length, Bool, true, false, ◌==◌, ◌&&◌, ◌||◌, if◌then◌else◌, cond, List, [], ◌∷◌, ◌++◌, Option, Some, None, refl, ap, subst, ◌∙◌, arith}
use Rattle.std.specs.Prelude.{not, slice_set}
use Rattle.std.specs.List.{slice_get, AllByRecursion, dedup, dedup_from}
use Rattle.std.specs.Option.{option_map, unwrap_or}
use Rattle.std.proofs.lemmas.Bool.{and_parts, eqb-true}
use Rattle.std.proofs.lemmas.Option.{same_Some}
use Rattle.circ_term.specs.Tree.{Tree, Trees, Var, App, none, more, list_of, trees_of, at, replaced, depth_of, depths_of}
use Rattle.circ_term.proofs.Trees.{trees_of-list_of}
use Rattle.circ_term.specs.Limits.{IsWithinLimits}
use Rattle.circ_term.specs.Order.{is_same, comes_before}
use Rattle.circ_term.specs.Substitution.{Substitution, instance, instances}
use Rattle.circ_term.proofs.Paths.{Down, down, Deeper, deeper}
use Rattle.circ_term.proofs.Limits.{within_limits, at_within}
use Rattle.circ_theory.specs.Signature.{Signature, Operator, IsWellSorted, HaveSorts}
use Rattle.circ_theory.specs.Theory.{Theory}
use Rattle.circ_theory.specs.Operators.{has_mark}
use Rattle.circ_theory.specs.WellFormed.{IsWellFormed}
use Rattle.circ_theory.specs.Fresh.{above, all_above}
use Rattle.circ_theory.proofs.Rewriting.{contains_at}
use Rattle.circ_theory.proofs.Sorting.{arg_well_sorted, at_sorted}
use Rattle.circ_aci.specs.Content.{put_term, sorted_terms, settled, leaves, content}
use Rattle.circ_aci.specs.Canonical.{join, canonical, canonical_under}
use Rattle.circ_match.specs.Matcher.{has_variable, have_variable}
use Rattle.circ_proof.specs.Proof.{IsPath}
use Rattle.circ_proof.proofs.FewPlaces.{slice_bound}

-- each variable's number is below m
pub record Fine (th : Theory) (m : ℕ) (t : Tree) : Type 0 where
  pub sorted : IsWellSorted th.signature t
  pub within : IsWithinLimits t
  pub low : above t ≤ m

abbrev pub FineTerms : Theory → ℕ → List Tree → Type 0
FineTerms th m ts = AllByRecursion (Fine th m) ts

pub fine_more : (th : Theory) (m k : ℕ) (t : Tree) → m ≤ k → Fine th m t → Fine th k t
fine_more th m k t h f = record { sorted = f.sorted; within = f.within; low = omega (arith, h, f.low) }

-- ---- the greatest variable number

item_low : (ts : Trees) (i : ℕ) (a : Tree) → slice_get (list_of ts) i ≡ Some a → above a ≤ all_above ts
item_low none i a e = absurd (cc)
item_low (more t ts) zero a e = let d = ap above (same_Some t a e) in omega (arith, d)
item_low (more t ts) (suc i) a e = let d = item_low ts i a e in omega (arith, d)

at_low : (p : List ℕ) (t a : Tree) → at t p ≡ Some a → above a ≤ above t
at_low [] t a e = let d = ap above (same_Some t a e) in omega (arith, d)
at_low (i ∷ p) t a e =
    let d : Down t i p a = down t i p a e in
    let r = at_low p d.arg a d.there in
    let x = item_low d.args i d.arg d.got in
    let is = ap above d.is in
    omega (arith, r, x, is)

set_low : (m : ℕ) (xs : List Tree) (i : ℕ) (y : Tree) → all_above (trees_of xs) ≤ m → above y ≤ m → all_above (trees_of (slice_set xs i y)) ≤ m
set_low m [] i y h k = omega arith
set_low m (x ∷ xs) zero y h k = omega (arith, h, k)
set_low m (x ∷ xs) (suc i) y h k = let r = set_low m xs i y (omega (arith, h)) k in omega (arith, h, r)

pub replaced_low : (m : ℕ) (p : List ℕ) (t new u : Tree) → replaced t p new ≡ Some u → above t ≤ m → above new ≤ m → above u ≤ m
replaced_low m [] t new u e h k = let d = ap above (same_Some new u e) in omega (arith, d, k)
replaced_low m (i ∷ p) t new u e h k =
    let d : Deeper t i p new u = deeper t i p new u e in
    let is = ap above d.is in
    let arg = item_low d.args i d.arg d.got in
    let r = replaced_low m p d.arg new d.new d.made (omega (arith, is, arg, h)) k in
    let same = ap all_above (trees_of-list_of d.args) in
    let s = set_low m (list_of d.args) i d.new (omega (arith, is, same, h)) r in
    let w = ap above d.whole in
    omega (arith, s, w)

pub either : {X : Type 0} (a b : Bool) → (a || b) ≡ true → (a ≡ true → X) → (b ≡ true → X) → X
either true b h x y = x refl
either false b h x y = y h

pub or_left : (a b : Bool) → a ≡ true → (a || b) ≡ true
or_left true b e = refl
or_left false b e = absurd (cc)

pub or_right : (a b : Bool) → b ≡ true → (a || b) ≡ true
or_right true b e = refl
or_right false b e = e

pub same_number : (n : ℕ) → (n == n) ≡ true
same_number n = grind arith

-- an instance of variables with low terms
mutual
  pub instance_low : (m : ℕ) (σ : Substitution) (t : Tree) → ((n s : ℕ) → has_variable t n s ≡ true → above (σ n s) ≤ m) → above (instance σ t) ≤ m
  instance_low m σ (Var n s) h = h n s (rw (same_number n, same_number s) refl)
  instance_low m σ (App f s ts) h = instances_low m σ ts h

  instances_low : (m : ℕ) (σ : Substitution) (ts : Trees) → ((n s : ℕ) → have_variable ts n s ≡ true → above (σ n s) ≤ m) → all_above (instances σ ts) ≤ m
  instances_low m σ none h = omega arith
  instances_low m σ (more t ts) h =
      let a = instance_low m σ t (λ n s e. h n s (or_left (has_variable t n s) (have_variable ts n s) e)) in
      let b = instances_low m σ ts (λ n s e. h n s (or_right (has_variable t n s) (have_variable ts n s) e)) in
      omega (arith, a, b)

-- ---- subterms

-- what a variable of a term is given stands in the instance
mutual
  pub variable_at : (σ : Substitution) (t : Tree) (n s : ℕ) → has_variable t n s ≡ true → (p : List ℕ) × (at (instance σ t) p ≡ Some (σ n s))
  variable_at σ (Var m k) n s h =
      let parts = and_parts (m == n) (k == s) h in
      let a = eqb-true m n parts.0 in
      let b = eqb-true k s parts.1 in
      ([], ap (λ x. Some (σ x k)) a ∙ ap (λ x. Some (σ n x)) b)
  variable_at σ (App f k ts) n s h = let r = variable_in σ ts n s h in (r.0 ∷ r.1, rw r.3 r.4)

  variable_in : (σ : Substitution) (ts : Trees) (n s : ℕ) → have_variable ts n s ≡ true
      → (i : ℕ) × (p : List ℕ) × (a : Tree) × (slice_get (list_of (instances σ ts)) i ≡ Some a) × (at a p ≡ Some (σ n s))
  variable_in σ none n s h = absurd (cc)
  variable_in σ (more t ts) n s h =
      either (has_variable t n s) (have_variable ts n s) h
      (λ e. let r = variable_at σ t n s e in (zero, r.0, instance σ t, refl, r.1))
      (λ e. let r = variable_in σ ts n s e in (suc r.0, r.1, r.2, r.3, r.4))

pub at_fine : (th : Theory) (m : ℕ) (p : List ℕ) (t a : Tree) → Fine th m t → at t p ≡ Some a → Fine th m a
at_fine th m p t a f e = record {
  sorted = at_sorted th p t a f.sorted e;
  within = at_within p t a e f.within;
  low = let l = at_low p t a e in let h = f.low in omega (arith, l, h);
}

pub arg_fine : (th : Theory) (m f s : ℕ) (ts : Trees) (i : ℕ) (a : Tree) → Fine th m (App f s ts) → slice_get (list_of ts) i ≡ Some a → Fine th m a
arg_fine th m f s ts i a h e = at_fine th m (i ∷ []) (App f s ts) a h e

all_items : (th : Theory) (m : ℕ) (us : Trees) → ((i : ℕ) (a : Tree) → slice_get (list_of us) i ≡ Some a → Fine th m a) → FineTerms th m (list_of us)
all_items th m none g = tt
all_items th m (more u us) g = (g zero u refl, all_items th m us (λ i a e. g (suc i) a e))

pub args_fine : (th : Theory) (m f s : ℕ) (ts : Trees) → Fine th m (App f s ts) → FineTerms th m (list_of ts)
args_fine th m f s ts h = all_items th m ts (λ i a e. arg_fine th m f s ts i a h e)

-- ---- the paths of a fine term

item_depth : (ts : Trees) (i : ℕ) (a : Tree) → slice_get (list_of ts) i ≡ Some a → depth_of a ≤ depths_of ts
item_depth none i a e = absurd (cc)
item_depth (more t ts) zero a e = let d = ap depth_of (same_Some t a e) in omega (arith, d)
item_depth (more t ts) (suc i) a e = let d = item_depth ts i a e in omega (arith, d)

path_depth : (p : List ℕ) (t x : Tree) → at t p ≡ Some x → length p < depth_of t
path_depth [] (Var n s) x e = omega arith
path_depth [] (App f s ts) x e = omega arith
path_depth (i ∷ p) t x e =
    let d : Down t i p x = down t i p x e in
    let r = path_depth p d.arg x d.there in
    let m = item_depth d.args i d.arg d.got in
    let w = ap depth_of d.is in
    omega (arith, r, m, w)

few_arguments : (th : Theory) (ts : Trees) (ss : List ℕ) → HaveSorts th.signature ts ss → length (list_of ts) ≡ length ss
few_arguments th none [] h = refl
few_arguments th none (s ∷ ss) h = absurd h
few_arguments th (more t ts) [] h = absurd h
few_arguments th (more t ts) (s ∷ ss) h = ap suc (few_arguments th ts ss h.2)

entries_small : (th : Theory) → IsWellFormed th → (p : List ℕ) (t x : Tree) → IsWellSorted th.signature t → at t p ≡ Some x → AllByRecursion (λ i. i < 2 ^ 16) p
entries_small th wf [] t x w e = tt
entries_small th wf (i ∷ p) t x w e =
    let d : Down t i p x = down t i p x e in
    let P : Tree → Type 0 = IsWellSorted th.signature in
    let whole : IsWellSorted th.signature (App d.op d.sort d.args) = subst P d.is w in
    let few = (wf.operators whole.0 (contains_at th.signature.ops d.op whole.0 whole.1)).few in
    let count = few_arguments th d.args whole.0.args whole.3 in
    let bound = slice_bound (list_of d.args) i d.arg d.got in
    (omega (arith, few, count, bound), entries_small th wf p d.arg x (arg_well_sorted th d.args whole.0.args i d.arg whole.3 d.got) d.there)

pub path_fits : (th : Theory) → IsWellFormed th → (p : List ℕ) (t x : Tree) → IsWellSorted th.signature t → IsWithinLimits t → at t p ≡ Some x → IsPath p
path_fits th wf p t x s w e =
    let d = path_depth p t x e in
    let l = (within_limits t w).1 in
    (omega (arith, d, l), entries_small th wf p t x s e)

-- ---- the canonical form has no other variables

abbrev AllLow : ℕ → List Tree → Type 0
AllLow m ts = AllByRecursion (λ t. above t ≤ m) ts

low_append : (m : ℕ) (xs ys : List Tree) → AllLow m xs → AllLow m ys → AllLow m (xs ++ ys)
low_append m [] ys a b = b
low_append m (x ∷ xs) ys a b = (a.0, low_append m xs ys a.1 b)

put_term_low : (m : ℕ) (x : Tree) (ys : List Tree) → above x ≤ m → AllLow m ys → AllLow m (put_term x ys)
put_term_low m x [] h a = (h, tt)
put_term_low m x (y ∷ ys) h a = go (comes_before y x) (put_term_low m x ys h a.1)
  where
    go : (b : Bool) → AllLow m (put_term x ys) → AllLow m (if b then y ∷ put_term x ys else x ∷ y ∷ ys)
    go true r = (a.0, r)
    go false r = (h, a)

sorted_low : (m : ℕ) (xs : List Tree) → AllLow m xs → AllLow m (sorted_terms xs)
sorted_low m [] a = tt
sorted_low m (x ∷ xs) a = put_term_low m x (sorted_terms xs) a.0 (sorted_low m xs a.1)

drop_low : (m : ℕ) (k : Tree) (xs : List Tree) → above k ≤ m → AllLow m xs → AllLow m (dedup_from is_same k xs)
drop_low m k [] h a = (h, tt)
drop_low m k (x ∷ xs) h a = go (is_same x k) (drop_low m k xs h a.1) (drop_low m x xs a.0 a.1)
  where
    go : (b : Bool) → AllLow m (dedup_from is_same k xs) → AllLow m (dedup_from is_same x xs) → AllLow m (cond b (dedup_from is_same k xs) (k ∷ dedup_from is_same x xs))
    go true x y = x
    go false x y = (h, y)

dedup_low : (m : ℕ) (xs : List Tree) → AllLow m xs → AllLow m (dedup is_same xs)
dedup_low m [] a = tt
dedup_low m (x ∷ xs) a = drop_low m x xs a.0 a.1

settled_low : (m : ℕ) (o : Operator) (xs : List Tree) → AllLow m xs → AllLow m (settled o xs)
settled_low m o xs a = go o.comm o.idem (sorted_low m xs a)
  where
    go : (c i : Bool) → AllLow m (sorted_terms xs)
        → AllLow m (if i then dedup is_same (if c then sorted_terms xs else xs) else (if c then sorted_terms xs else xs))
    go true true s = dedup_low m (sorted_terms xs) s
    go false true s = dedup_low m xs a
    go true false s = s
    go false false s = a

leaves_low : (m f : ℕ) (t : Tree) → above t ≤ m → AllLow m (leaves f t)
leaves_low m f (Var n s) h = (h, tt)
leaves_low m f (App g s none) h = (h, tt)
leaves_low m f (App g s (more a none)) h = (h, tt)
leaves_low m f (App g s (more a (more b (more c ts)))) h = (h, tt)
leaves_low m f (App g s (more a (more b none))) h = go (f == g) (leaves_low m f a (omega (arith, h))) (leaves_low m f b (omega (arith, h)))
  where
    go : (v : Bool) → AllLow m (leaves f a) → AllLow m (leaves f b)
        → AllLow m (if v then leaves f a ++ leaves f b else App g s (more a (more b none)) ∷ [])
    go true x y = low_append m (leaves f a) (leaves f b) x y
    go false x y = (h, tt)

content_low : (m : ℕ) (o : Operator) (f : ℕ) (t : Tree) → above t ≤ m → AllLow m (content o f t)
content_low m o f (Var n s) h = (h, tt)
content_low m o f (App g s none) h = (h, tt)
content_low m o f (App g s (more a none)) h = (h, tt)
content_low m o f (App g s (more a (more b (more c ts)))) h = (h, tt)
content_low m o f (App g s (more a (more b none))) h =
    go (not ((f == g) && has_mark o)) (o.idem && not o.assoc && is_same a b) o.assoc (content_low m o f a (omega (arith, h)))
  where
    both : (v : Bool) → AllLow m (if v then leaves f a ++ leaves f b else a ∷ b ∷ [])
    both true = low_append m (leaves f a) (leaves f b) (leaves_low m f a (omega (arith, h))) (leaves_low m f b (omega (arith, h)))
    both false = (omega (arith, h), (omega (arith, h), tt))

    go : (u v w : Bool) → AllLow m (content o f a)
        → AllLow m (if u then App g s (more a (more b none)) ∷ [] else if v then content o f a
        else settled o (if w then leaves f a ++ leaves f b else a ∷ b ∷ []))
    go true v w x = (h, tt)
    go false true w x = x
    go false false w x = settled_low m o (if w then leaves f a ++ leaves f b else a ∷ b ∷ []) (both w)

join_low : (m f k : ℕ) (xs : List Tree) → 1 ≤ m → AllLow m xs → above (join f k xs) ≤ m
join_low m f k [] h a = h
join_low m f k (x ∷ []) h a = a.0
join_low m f k (x ∷ y ∷ ys) h a = let r = join_low m f k (y ∷ ys) h a.1 in omega (arith, a.0, r)

pub canonical_low : (m : ℕ) (sig : Signature) (f : ℕ) (t : Tree) → 1 ≤ m → above t ≤ m → above (canonical_under sig f t) ≤ m
canonical_low m sig f t one h = go (slice_get sig.ops f)
  where
    go : (o : Option Operator) → above (unwrap_or (option_map (λ o. canonical o f t) o) t) ≤ m
    go None = h
    go (Some o) = join_low m f o.result (content o f t) one (content_low m o f t h)
