-- Links under a substitution.
use Rattle.std.proofs.Common.{◌≡◌, ◌≤◌, ◌<◌, ℕ, ◌+◌, ◌-◌, List, [], ◌∷◌, ◌++◌, zero, suc, Bool, true, false, not, nat_lt, ◌==◌, ◌&&◌, ◌||◌, if◌then◌else◌}
use Rattle.std.proofs.Common.{map, Option, Some, None, unwrap_or, refl, ap, sym, ◌∙◌, subst, arith}
use Rattle.std.specs.List.{slice_get, list_any, AllByRecursion}
use Rattle.std.specs.Option.{option_map, option_or}
use Rattle.std.proofs.lemmas.Bool.{eqb-true, eq-eqb, and_parts, le-ltb, lt-ltb}
use Rattle.circ_term.specs.Tree.{Tree, Trees, Var, App, none, more, sort_of, list_of, at, replaced, put_at}
use Rattle.circ_term.specs.Substitution.{Substitution, instance, instances, composed}
use Rattle.circ_term.specs.Subst.{found, substitution_of}
use Rattle.circ_term.proofs.Instances.{instance-instance}
use Rattle.circ_term.proofs.Paths.{nowhere, at-append, at_instance, replaced_below}
use Rattle.circ_theory.specs.Signature.{Signature, IsSort, IsWellSorted, IsSubstitution}
use Rattle.circ_theory.specs.Theory.{Theory, Pair, goal, sides, Derivative}
use Rattle.circ_theory.specs.Goal.{Goal}
use Rattle.circ_theory.specs.Variables.{Variable, is_variable, seen_in, seen_in_pairs, variables_of, sorted, occurrences, FitVariables, given}
use Rattle.circ_theory.specs.WellFormed.{IsDerivative}
use Rattle.circ_theory.specs.Observing.{holes_in, all_holes_in}
use Rattle.circ_theory.specs.Experiment.{plug, derived, on}
use Rattle.circ_theory.specs.Fresh.{above, all_above, numbered_from}
use Rattle.circ_theory.specs.Rewriting.{from_side, to_side, by_terms}
use Rattle.circ_theory.specs.declared.way.Way.{Way}
use Rattle.circ_theory.specs.declared.way.Way.TheVariants.{Forth, Back}
use Rattle.circ_theory.proofs.Filling.{holes_more}
use Rattle.circ_theory.proofs.Instances.{sort_of-instance_by, instance_well_sorted}
use Rattle.circ_match.specs.Matcher.{has_variable}
use Rattle.circ_match.proofs.Variables.{instance-variable}
use Rattle.circ_special.proofs.Distinct.{body_distinct, body_holes, IsHoleOfSort}
use Rattle.circ_rewrite.proofs.RuleTerms.{any_seen_in, has_variable-occurrences}
use Rattle.circ_rewrite.proofs.Linked.{any_sorted}
use Rattle.circ_soundness.proofs.Changing.{DifferAt, replaced_once}
use Rattle.circ_soundness.proofs.Parameters.{plug_hole, plug_parameter, stands_where}
use Rattle.circ_entry.specs.Entries.{Numbered, bare_entries}
use Rattle.circ_expansion.specs.Followed.{put_or_same}
use Rattle.circ_expansion.specs.Pieces.{bounds_by}
use Rattle.circ_expansion.specs.Expand.{first_path, first_path_in, hole_path, holes, layered, places_on, extended, bounds_of}
use Rattle.circ_expansion.proofs.Putting.{put_there}

-- a variable that was seen is still so after those of the conditions
any_more : (v : Variable) (ps : List Pair) (us : List Variable) → list_any (is_variable v) us ≡ true → list_any (is_variable v) (seen_in_pairs ps us) ≡ true
any_more v [] us e = e
any_more v (p ∷ ps) us e =
    any_more v ps (seen_in p.right (seen_in p.left us))
    (any_seen_in v p.right (seen_in p.left us) ∙ ap (λ b. b || list_any (is_variable v) (occurrences p.right))
    (any_seen_in v p.left us ∙ ap (λ b. b || list_any (is_variable v) (occurrences p.left)) e))

-- a variable of a side is one of the goal's
among_left : (g : Goal) (n s : ℕ) → has_variable g.left n s ≡ true → list_any (is_variable (record { number = n; sort = s })) (sorted (variables_of g)) ≡ true
among_left g n s o =
    let v : Variable = record { number = n; sort = s } in
    any_sorted (is_variable v) (variables_of g) ∙ any_more v g.conds (seen_in g.right (seen_in g.left []))
    (any_seen_in v g.right (seen_in g.left [])
    ∙ ap (λ b. b || list_any (is_variable v) (occurrences g.right)) (any_seen_in v g.left [] ∙ sym (has_variable-occurrences g.left n s) ∙ o))

among_right : (g : Goal) (n s : ℕ) → has_variable g.right n s ≡ true
    → list_any (is_variable (record { number = n; sort = s })) (sorted (variables_of g)) ≡ true
among_right g n s o =
    let v : Variable = record { number = n; sort = s } in
    any_sorted (is_variable v) (variables_of g) ∙ any_more v g.conds (seen_in g.right (seen_in g.left []))
    (any_seen_in v g.right (seen_in g.left [])
    ∙ ap (λ b. list_any (is_variable v) (seen_in g.left []) || b) (sym (has_variable-occurrences g.right n s) ∙ o)
    ∙ or_true (list_any (is_variable v) (seen_in g.left [])))
  where
    or_true : (b : Bool) → (b || true) ≡ true
    or_true true = refl
    or_true false = refl

-- ---- the variables of two terms with what a substitution gives them

found_back : (σ : Substitution) (vs : List Variable) (n s : ℕ) → list_any (is_variable (record { number = n; sort = s })) vs ≡ true
    → substitution_of (bounds_by σ vs) n s ≡ σ n s
found_back σ [] n s e = absurd (cc)
found_back σ (v ∷ vs) n s e = go ((n == v.number) && (s == v.sort)) refl (found_back σ vs n s) e
  where
    go : (b : Bool) → ((n == v.number) && (s == v.sort)) ≡ b
        → (list_any (is_variable (record { number = n; sort = s })) vs ≡ true → substitution_of (bounds_by σ vs) n s ≡ σ n s)
        → (b || list_any (is_variable (record { number = n; sort = s })) vs) ≡ true
        → unwrap_or (if b then Some (σ v.number v.sort) else found (bounds_by σ vs) n s) (Var n s) ≡ σ n s
    go true h ih x =
        let p = and_parts (n == v.number) (s == v.sort) h in
        ap (λ m. σ m v.sort) (sym (eqb-true n v.number p.0)) ∙ ap (σ n) (sym (eqb-true s v.sort p.1))
    go false h ih x = ih x

bounds_sorted_by : (sig : Signature) (σ : Substitution) → IsSubstitution sig σ → (vs : List Variable) → IsSubstitution sig (substitution_of (bounds_by σ vs))
bounds_sorted_by sig σ i [] n s h = (refl, h)
bounds_sorted_by sig σ i (v ∷ vs) n s h = go ((n == v.number) && (s == v.sort)) refl (bounds_sorted_by sig σ i vs n s h)
  where
    x : Tree
    x = unwrap_or (found (bounds_by σ vs) n s) (Var n s)

    go : (b : Bool) → ((n == v.number) && (s == v.sort)) ≡ b → (sort_of x ≡ s) × IsWellSorted sig x
        → (sort_of (unwrap_or (if b then Some (σ v.number v.sort) else found (bounds_by σ vs) n s) (Var n s)) ≡ s)
        × IsWellSorted sig (unwrap_or (if b then Some (σ v.number v.sort) else found (bounds_by σ vs) n s) (Var n s))
    go true g k =
        let e : s ≡ v.sort = eqb-true s v.sort (and_parts (n == v.number) (s == v.sort) g).1 in
        let P : ℕ → Type 0 = IsSort sig in
        let j = i v.number v.sort (subst P e h) in
        (j.0 ∙ sym e, j.1)
    go false g k = k

pub bounds_sorted : (sig : Signature) (σ : Substitution) → IsSubstitution sig σ → (a b : Tree) → IsSubstitution sig (substitution_of (bounds_of σ a b))
bounds_sorted sig σ i a b = bounds_sorted_by sig σ i (sorted (variables_of (goal [] a b)))

pub bounds_first : (σ : Substitution) (a b : Tree) → instance (substitution_of (bounds_of σ a b)) a ≡ instance σ a
bounds_first σ a b =
    instance-variable (substitution_of (bounds_of σ a b)) σ a
    (λ n s o. found_back σ (sorted (variables_of (goal [] a b))) n s (among_left (goal [] a b) n s o))

pub bounds_second : (σ : Substitution) (a b : Tree) → instance (substitution_of (bounds_of σ a b)) b ≡ instance σ b
bounds_second σ a b =
    instance-variable (substitution_of (bounds_of σ a b)) σ b
    (λ n s o. found_back σ (sorted (variables_of (goal [] a b))) n s (among_right (goal [] a b) n s o))

-- a substitution after terms that are given
given_after : (σ : Substitution) (vs : List Variable) (ts : List Tree) (n s : ℕ) → FitVariables vs ts
    → list_any (is_variable (record { number = n; sort = s })) vs ≡ true
    → instance σ (given vs ts n s) ≡ given vs (map (instance σ) ts) n s
given_after σ [] ts n s f e = absurd (cc)
given_after σ (v ∷ vs) [] n s f e = absurd f
given_after σ (v ∷ vs) (t ∷ ts) n s f e = go (given_after σ vs ts n s f.1) ((v.number == n) && (v.sort == s)) refl
  where
    go : (list_any (is_variable (record { number = n; sort = s })) vs ≡ true → instance σ (given vs ts n s) ≡ given vs (map (instance σ) ts) n s)
        → (b : Bool) → ((v.number == n) && (v.sort == s)) ≡ b
        → instance σ (if b then t else given vs ts n s) ≡ (if b then instance σ t else given vs (map (instance σ) ts) n s)
    go ih true h = refl
    go ih false h = ih (later (is_variable (record { number = n; sort = s }) v) refl e)
      where
        later : (b : Bool) → is_variable (record { number = n; sort = s }) v ≡ b → (b || list_any (is_variable (record { number = n; sort = s })) vs) ≡ true
            → list_any (is_variable (record { number = n; sort = s })) vs ≡ true
        later false g x = x
        later true g x =
            let p = and_parts (n == v.number) (s == v.sort) g in
            let a : n ≡ v.number = eqb-true n v.number p.0 in
            let b : s ≡ v.sort = eqb-true s v.sort p.1 in
            absurd (let k : ((v.number == n) && (v.sort == s)) ≡ true = rw (eq-eqb v.number n (sym a), eq-eqb v.sort s (sym b)) refl in let z = sym k
            ∙ h in cc)

pub fit_after : (sig : Signature) (σ : Substitution) → IsSubstitution sig σ → (vs : List Variable) (ts : List Tree) → AllByRecursion (IsWellSorted sig) ts
    → FitVariables vs ts → FitVariables vs (map (instance σ) ts)
fit_after sig σ i [] [] a f = tt
fit_after sig σ i [] (t ∷ ts) a f = absurd f
fit_after sig σ i (v ∷ vs) [] a f = absurd f
fit_after sig σ i (v ∷ vs) (t ∷ ts) a f = (sort_of-instance_by sig σ t i a.0 ∙ f.0, fit_after sig σ i vs ts a.1 f.1)

pub values_sorted : (sig : Signature) (σ : Substitution) → IsSubstitution sig σ → (ts : List Tree) → AllByRecursion (IsWellSorted sig) ts
    → AllByRecursion (IsWellSorted sig) (map (instance σ) ts)
values_sorted sig σ i [] a = tt
values_sorted sig σ i (t ∷ ts) a = (instance_well_sorted sig σ t i a.0, values_sorted sig σ i ts a.1)

-- both sides of a goal under its terms, and then under a substitution
instance_left : (σ : Substitution) (g : Goal) (ts : List Tree) → FitVariables (sorted (variables_of g)) ts
    → instance σ (instance (by_terms g ts) g.left) ≡ instance (by_terms g (map (instance σ) ts)) g.left
instance_left σ g ts f =
    instance-instance σ (by_terms g ts) g.left
    ∙ instance-variable (composed σ (by_terms g ts)) (by_terms g (map (instance σ) ts)) g.left
    (λ n s o. given_after σ (sorted (variables_of g)) ts n s f (among_left g n s o))

instance_right : (σ : Substitution) (g : Goal) (ts : List Tree) → FitVariables (sorted (variables_of g)) ts
    → instance σ (instance (by_terms g ts) g.right) ≡ instance (by_terms g (map (instance σ) ts)) g.right
instance_right σ g ts f =
    instance-instance σ (by_terms g ts) g.right
    ∙ instance-variable (composed σ (by_terms g ts)) (by_terms g (map (instance σ) ts)) g.right
    (λ n s o. given_after σ (sorted (variables_of g)) ts n s f (among_right g n s o))

pub instance_from : (σ : Substitution) (w : Way) (g : Goal) (ts : List Tree) → FitVariables (sorted (variables_of g)) ts
    → instance σ (instance (by_terms g ts) (from_side w (sides g))) ≡ instance (by_terms g (map (instance σ) ts)) (from_side w (sides g))
instance_from σ Forth g ts f = instance_left σ g ts f
instance_from σ Back g ts f = instance_right σ g ts f

pub instance_to : (σ : Substitution) (w : Way) (g : Goal) (ts : List Tree) → FitVariables (sorted (variables_of g)) ts
    → instance σ (instance (by_terms g ts) (to_side w (sides g))) ≡ instance (by_terms g (map (instance σ) ts)) (to_side w (sides g))
instance_to σ Forth g ts f = instance_right σ g ts f
instance_to σ Back g ts f = instance_left σ g ts f

-- ---- the hole

record HoleAt (t : Tree) (p : List ℕ) (found : List ℕ) : Type 0 where
  sort : ℕ
  rest : List ℕ
  there : at t p ≡ Some (Var 0 sort)
  first : found ≡ sort ∷ rest

abbrev Told : Option (List ℕ) → Tree → (found : List ℕ) → Type 0
Told None t found = found ≡ []
Told (Some p) t found = HoleAt t p found

record HoleIn (i : ℕ) (ts : Trees) (q : List ℕ) (found : List ℕ) : Type 0 where
  arg : ℕ
  path : List ℕ
  is : q ≡ (i + arg) ∷ path
  term : Tree
  given : slice_get (list_of ts) arg ≡ Some term
  sort : ℕ
  rest : List ℕ
  there : at term path ≡ Some (Var 0 sort)
  first : found ≡ sort ∷ rest

abbrev ToldIn : Option (List ℕ) → ℕ → Trees → (found : List ℕ) → Type 0
ToldIn None i ts found = found ≡ []
ToldIn (Some q) i ts found = HoleIn i ts q found

mutual
  hole_told : (t : Tree) → Told (first_path 0 t) t (holes_in t)
  hole_told (Var n s) = go (n == 0) refl
    where
      go : (b : Bool) → (n == 0) ≡ b
          → Told (if b then Some [] else None) (Var n s) (map (λ (v : Variable). v.sort) (if b then record { number = n; sort = s } ∷ [] else []))
      go true e = record { sort = s; rest = []; there = ap (λ k. Some (Var k s)) (eqb-true n 0 e); first = refl }
      go false e = refl
  hole_told (App f s ts) = go (first_path_in 0 0 ts) (hole_told_in 0 ts)
    where
      go : (o : Option (List ℕ)) → ToldIn o 0 ts (all_holes_in ts) → Told o (App f s ts) (holes_in (App f s ts))
      go None h = h
      go (Some q) h = record {
        sort = h.sort;
        rest = h.rest;
        there = ap (λ p. at (App f s ts) p) (h.is ∙ ap (λ j. j ∷ h.path) zero_plus)
            ∙ (let g = h.given in rw g h.there);
        first = h.first;
      }
        where
          zero_plus : 0 + h.arg ≡ h.arg
          zero_plus = omega arith

  hole_told_in : (i : ℕ) (ts : Trees) → ToldIn (first_path_in 0 i ts) i ts (all_holes_in ts)
  hole_told_in i none = refl
  hole_told_in i (more t ts) = go (first_path 0 t) (hole_told t) (first_path_in 0 (i + 1) ts) (hole_told_in (i + 1) ts)
    where
      parts : all_holes_in (more t ts) ≡ holes_in t ++ all_holes_in ts
      parts = holes_more t ts

      go : (o : Option (List ℕ)) → Told o t (holes_in t) → (r : Option (List ℕ)) → ToldIn r (i + 1) ts (all_holes_in ts)
          → ToldIn (option_or (option_map (λ p. i ∷ p) o) r) i (more t ts) (all_holes_in (more t ts))
      go None h None k = parts ∙ ap (λ xs. xs ++ all_holes_in ts) h ∙ k
      go None h (Some q) k = record {
        arg = suc k.arg;
        path = k.path;
        is = k.is ∙ (let z : i + 1 + k.arg ≡ i + suc k.arg = omega arith in ap (λ j. j ∷ k.path) z);
        term = k.term;
        given = k.given;
        sort = k.sort;
        rest = k.rest;
        there = k.there;
        first = parts ∙ ap (λ xs. xs ++ all_holes_in ts) h ∙ k.first;
      }
      go (Some p) h r k = record {
        arg = 0;
        path = p;
        is = let z : i ≡ i + 0 = omega arith in ap (λ j. j ∷ p) z;
        term = t;
        given = refl;
        sort = h.sort;
        rest = h.rest ++ all_holes_in ts;
        there = h.there;
        first = parts ∙ ap (λ xs. xs ++ all_holes_in ts) h.first;
      }

pub hole_there : (sig : Signature) (d : Derivative) → IsDerivative sig d → at d.body (hole_path d) ≡ Some (Var 0 d.hole)
hole_there sig d i = go (first_path 0 d.body) refl (hole_told d.body)
  where
    go : (o : Option (List ℕ)) → first_path 0 d.body ≡ o → Told o d.body (holes_in d.body) → at d.body (unwrap_or o []) ≡ Some (Var 0 d.hole)
    go None e h = absurd (let z = sym h ∙ i.one_hole in cc)
    go (Some p) e h = let same : h.sort ≡ d.hole =
        (let z : h.sort ∷ h.rest ≡ d.hole ∷ [] = sym h.first ∙ i.one_hole in cc) in h.there ∙ ap (λ s. Some (Var 0 s)) same

pub plugs_differ : (h : ℕ) (x y : Tree) (p : Substitution) → DifferAt 0 h (plug h x p) (plug h y p)
plugs_differ h x y p n s e = rw e refl

pub derived_there : (sig : Signature) (d : Derivative) → IsDerivative sig d → (t : Tree) (p : Substitution) → at (derived d t p) (hole_path d) ≡ Some t
derived_there sig d i t p = at_instance (plug d.hole t p) (hole_path d) d.body (Var 0 d.hole) (hole_there sig d i) ∙ ap Some (plug_hole d.hole t p)

pub derived_put : (sig : Signature) (d : Derivative) → IsDerivative sig d → (t u : Tree) (p : Substitution)
    → replaced (derived d t p) (hole_path d) u ≡ Some (derived d u p)
derived_put sig d i t u p =
    ap (replaced (derived d t p) (hole_path d)) (sym (plug_hole d.hole u p))
    ∙ replaced_once 0 d.hole (plug d.hole t p) (plug d.hole u p) (plugs_differ d.hole t u p) (hole_path d) d.body (body_distinct sig d i) (hole_there sig d i)

-- each entry has the derivative of its number
abbrev pub AreNumbered : Theory → List Numbered → Type 0
AreNumbered th [] = Unit {0}
AreNumbered th (c ∷ cs) = (slice_get th.derivatives c.number ≡ Some c.entry.derivative) × IsDerivative th.signature c.entry.derivative × AreNumbered th cs

pub on_there : (th : Theory) (cs : List Numbered) → AreNumbered th cs → (t : Tree) → at (on (bare_entries cs) t) (holes cs) ≡ Some t
on_there th [] a t = refl
on_there th (c ∷ cs) a t =
    let d = c.entry.derivative in
    let x = derived d t c.entry.parameters in
    at-append (on (bare_entries cs) x) x (holes cs) (hole_path d) (on_there th cs a.2 x) ∙ derived_there th.signature d a.1 t c.entry.parameters

pub on_put : (th : Theory) (cs : List Numbered) → AreNumbered th cs → (t u : Tree)
    → replaced (on (bare_entries cs) t) (holes cs) u ≡ Some (on (bare_entries cs) u)
on_put th [] a t u = refl
on_put th (c ∷ cs) a t u =
    let d = c.entry.derivative in
    let x = derived d t c.entry.parameters in
    let y = derived d u c.entry.parameters in
    replaced_below (holes cs) (hole_path d) (on (bare_entries cs) x) x u y (on_there th cs a.2 x) (derived_put th.signature d a.1 t u c.entry.parameters)
    ∙ on_put th cs a.2 x y

-- ---- places on a path

pub places_filled : (p : List ℕ) (t a x : Tree) → at t p ≡ Some a → layered (places_on t p) x ≡ put_or_same t p x
places_filled [] t a x e = refl
places_filled (i ∷ p) (Var n s) a x e = nowhere p a e
places_filled (i ∷ p) (App f s ts) a x e = go (slice_get (list_of ts) i) refl (λ y. places_filled p y a x)
  where
    go : (o : Option Tree) → slice_get (list_of ts) i ≡ o → ((y : Tree) → at y p ≡ Some a → layered (places_on y p) x ≡ put_or_same y p x)
        → layered (places_on (App f s ts) (i ∷ p)) x ≡ put_or_same (App f s ts) (i ∷ p) x
    go None c ih = nowhere p a (rw c at e)
    go (Some y) c ih =
        let h = ih y (rw c at e) in
        let m = put_there p y a x (rw c at e) in
        rw (c, m) (ap (λ z. App f s (put_at ts i z)) h)

-- ---- the parameters of an entry

-- the body has no other variables than the hole and its parameters
pub body_agree : (sig : Signature) (d : Derivative) → IsDerivative sig d → (σ τ : Substitution) → σ 0 d.hole ≡ τ 0 d.hole
    → ((n s : ℕ) → has_variable d.body (suc n) s ≡ true → σ (suc n) s ≡ τ (suc n) s) → instance σ d.body ≡ instance τ d.body
body_agree sig d i σ τ hole params = instance-variable σ τ d.body go
  where
    go : (n s : ℕ) → has_variable d.body n s ≡ true → σ n s ≡ τ n s
    go zero s o =
        let h : s ≡ d.hole = stands_where (IsHoleOfSort d.hole) (occurrences d.body) (body_holes sig d i) 0 s (sym (has_variable-occurrences d.body 0 s)
        ∙ o) refl in
        ap (σ 0) h ∙ hole ∙ ap (τ 0) (sym h)
    go (suc n) s o = params n s o

extended_below : (d : Derivative) (k : ℕ) (σ p : Substitution) (n s : ℕ) → n < k → extended d k σ p n s ≡ σ n s
extended_below d k σ p n s h = let x = lt-ltb n k h in rw x refl

mutual
  instance_extended : (d : Derivative) (k : ℕ) (σ p : Substitution) (t : Tree) → above t ≤ k → instance (extended d k σ p) t ≡ instance σ t
  instance_extended d k σ p (Var n s) h = extended_below d k σ p n s (omega (arith, h))
  instance_extended d k σ p (App f s ts) h = ap (App f s) (instances_extended d k σ p ts h)

  instances_extended : (d : Derivative) (k : ℕ) (σ p : Substitution) (ts : Trees) → all_above ts ≤ k → instances (extended d k σ p) ts ≡ instances σ ts
  instances_extended d k σ p none h = refl
  instances_extended d k σ p (more t ts) h =
      ap (λ x. more x (instances (extended d k σ p) ts)) (instance_extended d k σ p t (omega (arith, h)))
      ∙ ap (more (instance σ t)) (instances_extended d k σ p ts (omega (arith, h)))

extended_above : (d : Derivative) (k : ℕ) (σ p : Substitution) (n s : ℕ) → has_variable d.body (suc n) s ≡ true → extended d k σ p (k + n) s ≡ p (suc n) s
extended_above d k σ p n s o =
    let e : (k + n) - k ≡ n = omega arith in
    let h : k ≤ k + n = omega arith in
    let x = le-ltb (k + n) k h in
    rw (x, e, o) refl

pub extended_derived : (sig : Signature) (d : Derivative) → IsDerivative sig d → (k : ℕ) (σ p : Substitution) (t : Tree) → above t ≤ k
    → instance (extended d k σ p) (derived d t (numbered_from k)) ≡ derived d (instance σ t) p
extended_derived sig d i k σ p t h =
    instance-instance (extended d k σ p) (plug d.hole t (numbered_from k)) d.body
    ∙ body_agree sig d i (composed (extended d k σ p) (plug d.hole t (numbered_from k))) (plug d.hole (instance σ t) p)
    (ap (instance (extended d k σ p)) (plug_hole d.hole t (numbered_from k)) ∙ instance_extended d k σ p t h ∙ sym (plug_hole d.hole (instance σ t) p))
    (λ n s o. ap (instance (extended d k σ p)) (plug_parameter d.hole t (numbered_from k) n s)
    ∙ (let e : k + (suc n - 1) ≡ k + n = omega arith in ap (λ j. extended d k σ p j s) e) ∙ extended_above d k σ p n s o
    ∙ sym (plug_parameter d.hole (instance σ t) p n s))

pub extended_substitution : (sig : Signature) (d : Derivative) (k : ℕ) (σ p : Substitution) → IsSubstitution sig σ → IsSubstitution sig p
    → IsSubstitution sig (extended d k σ p)
extended_substitution sig d k σ p a b n s h = go (not (nat_lt n k) && has_variable d.body (suc (n - k)) s)
  where
    go : (v : Bool) → (sort_of (if v then p (suc (n - k)) s else σ n s) ≡ s) × IsWellSorted sig (if v then p (suc (n - k)) s else σ n s)
    go true = b (suc (n - k)) s h
    go false = a n s h
