-- The children of a pair, as the code makes them.
use Rattle.std.proofs.Common.{◌≡◌, ℕ, ◌+◌, ◌≤◌, ◌<◌, ◌^◌, length, Bool, true, false, ◌==◌, if◌then◌else◌, List, [], ◌∷◌, ◌++◌, drop, Option, Some, None, Ok, Err, refl, ap, sym, ◌∙◌, subst, arith, append_assoc, append-nil}
use Rattle.std.specs.List.{slice_get, filter}
use Rattle.std.specs.Option.{IfSome, option_map, option_map_or}
use Rattle.std.proofs.lemmas.List.{length-map, drop_all}
use Rattle.std.proofs.lemmas.Option.{same_Some}
use Rattle.circ_term.specs.Tree.{Tree, sort_of}
use Rattle.circ_term.specs.Limits.{Limit, first_limit, or_else, IsWithinLimits, Names}
use Rattle.circ_term.specs.declared.fault.TermFault.{TermFault}
use Rattle.circ_term.specs.declared.fault.TermFault.TheVariants as term
use Rattle.circ_theory.specs.Theory.{Theory, Derivative}
use Rattle.circ_theory.specs.WellFormed.{IsWellFormed, IsDerivative}
use Rattle.circ_theory.specs.Experiment.{derived}
use Rattle.circ_theory.specs.Observing.{is_parameter}
use Rattle.circ_theory.specs.Variables.{Variable, occurrences}
use Rattle.circ_theory.specs.Fresh.{numbered_from, given_parameters, variables_from, parameter_sorts, FitDerivative, FitSome}
use Rattle.circ_theory.proofs.Derived.{derived-numbered_from, variables_fit}
use Rattle.circ_theory.proofs.Rewriting.{contains_at}
use Rattle.circ_proof.proofs.Derivatives.{the_derivative, if_some_at, some_if_at, StartsWith, derivative_at}
use Rattle.circ_refute.specs.Plain.{descendant, descendants, descendants_limit, GivesDescendant}
use Rattle.circ_refute.specs.declared.descendant.Descendant.{Descendant}
use Rattle.circ_refute.specs.declared.descendant.Origin.{Origin}

-- ---- one derivative

module _ (th : Theory) (ok : IsWellFormed th) (n : ℕ) (sorts : List ℕ) (listed : Some sorts ≡ option_map parameter_sorts (slice_get th.derivatives n)) where
  -- there is room for the parameters' numbers
  pub room : (k : ℕ) → k + 8 ≤ 2 ^ 32 → k + length sorts ≤ 2 ^ 32
  room k h = go (slice_get th.derivatives n) refl listed
    where
      go : (o : Option Derivative) → slice_get th.derivatives n ≡ o → Some sorts ≡ option_map parameter_sorts o → k + length sorts ≤ 2 ^ 32
      go None e l = absurd (cc)
      go (Some d) e l =
          let vs : List Variable = filter is_parameter (occurrences d.body) in
          let few = (ok.derivatives d (contains_at th.derivatives n d e)).few in
          let same : sorts ≡ parameter_sorts d = same_Some sorts (parameter_sorts d) l in
          omega (arith, h, few, ap length same, length-map vs (λ v. v.sort), length-map vs (λ v. v.number))

module _ (th : Theory) (ok : IsWellFormed th) (n : ℕ) (s : ℕ) (hole : option_map (λ d. d.hole) (slice_get th.derivatives n) ≡ Some s) (sorts : List ℕ)
    (listed : Some sorts ≡ option_map parameter_sorts (slice_get th.derivatives n)) (k : ℕ) (params : List Tree) (made : params ≡ variables_from k sorts) where
  abbrev d : Derivative
  d = (the_derivative (slice_get th.derivatives n) s hole).0

  there : slice_get th.derivatives n ≡ Some d
  there = (the_derivative (slice_get th.derivatives n) s hole).1

  hole_is : d.hole ≡ s
  hole_is = (the_derivative (slice_get th.derivatives n) s hole).2

  is_derivative : IsDerivative th.signature d
  is_derivative = ok.derivatives d (contains_at th.derivatives n d there)

  params_are : params ≡ variables_from k (parameter_sorts d)
  params_are = made ∙ ap (variables_from k) (same_Some sorts (parameter_sorts d) (listed ∙ ap (option_map parameter_sorts) there))

  pub fits : (t : Tree) → sort_of t ≡ s → FitSome (slice_get th.derivatives n) params t
  fits t e =
      let F : List Tree → Type 0 = λ ps. FitDerivative d ps t in
      let P : Option Derivative → Type 0 = λ o. FitSome o params t in
      subst P (sym there) (subst F (sym params_are) (variables_fit d t k (e ∙ sym hole_is)))

  numbered : (t : Tree) → derived d t (given_parameters params) ≡ derived d t (numbered_from k)
  numbered t = ap (λ ps. derived d t (given_parameters ps)) params_are ∙ derived-numbered_from th.signature d is_derivative t k

  -- what is said of the derivative with its parameters as the code gives them
  of_params : (P : Tree → Type 0) (t : Tree) → IfSome (slice_get th.derivatives n) (λ e. P (derived e t (given_parameters params))) → P (derived d t (numbered_from k))
  of_params P t a = subst P (numbered t) (some_if_at (λ e. P (derived e t (given_parameters params))) (slice_get th.derivatives n) d there a)

  pub built : (parent : ℕ) (l m x y : Tree)
      → IfSome (slice_get th.derivatives n) (λ e. (x ≡ derived e l (given_parameters params)) × IsWithinLimits (derived e l (given_parameters params)))
      → IfSome (slice_get th.derivatives n) (λ e. (y ≡ derived e m (given_parameters params)) × IsWithinLimits (derived e m (given_parameters params)))
      → IfSome (slice_get th.derivatives n) (λ e. GivesDescendant (descendant parent l m k n e)
      (Ok (record { left = x; right = y; origin = Some (record { parent = parent; derivative = n; first = k }) })))
  built parent l m x y a b =
      let o : Option Origin = Some (record { parent = parent; derivative = n; first = k }) in
      let p = of_params (λ t. (x ≡ t) × IsWithinLimits t) l a in
      let q = of_params (λ t. (y ≡ t) × IsWithinLimits t) m b in
      let is : record { left = x; right = y; origin = o } ≡ descendant parent l m k n d =
      ap (λ z. record { left = z; right = y; origin = o }) p.0 ∙ ap (λ z. record { left = derived d l (numbered_from k); right = z; origin = o }) q.0 in
      let within : descendants_limit (descendant parent l m k n d ∷ []) ≡ None = rw (p.1, q.1) refl in
      if_some_at (λ e. GivesDescendant (descendant parent l m k n e) (Ok (record { left = x; right = y; origin = o }))) (slice_get th.derivatives n) d there (is, within)

  pub left_past : (parent : ℕ) (l m : Tree) (e : TermFault) → IfSome (slice_get th.derivatives n) (λ x. Names e (first_limit (derived x l (given_parameters params))))
      → IfSome (slice_get th.derivatives n) (λ x. GivesDescendant (descendant parent l m k n x) (Err e))
  left_past parent l m e a =
      if_some_at (λ x. GivesDescendant (descendant parent l m k n x) (Err e)) (slice_get th.derivatives n) d there (go e (of_params (λ t. Names e (first_limit t)) l a))
    where
      go : (e : TermFault) → Names e (first_limit (derived d l (numbered_from k))) → Names e (descendants_limit (descendant parent l m k n d ∷ []))
      go (term.TooBig j) h = rw h refl
      go (term.TooDeep j) h = rw h refl
      go term.Memory h = tt

  pub right_past : (parent : ℕ) (l m x : Tree) (e : TermFault)
      → IfSome (slice_get th.derivatives n) (λ y. (x ≡ derived y l (given_parameters params)) × IsWithinLimits (derived y l (given_parameters params)))
      → IfSome (slice_get th.derivatives n) (λ y. Names e (first_limit (derived y m (given_parameters params))))
      → IfSome (slice_get th.derivatives n) (λ y. GivesDescendant (descendant parent l m k n y) (Err e))
  right_past parent l m x e a b =
      if_some_at (λ y. GivesDescendant (descendant parent l m k n y) (Err e)) (slice_get th.derivatives n) d there
      (go e (of_params (λ t. (x ≡ t) × IsWithinLimits t) l a).1 (of_params (λ t. Names e (first_limit t)) m b))
    where
      go : (e : TermFault) → IsWithinLimits (derived d l (numbered_from k)) → Names e (first_limit (derived d m (numbered_from k)))
          → Names e (descendants_limit (descendant parent l m k n d ∷ []))
      go (term.TooBig j) w h = rw (w, h) refl
      go (term.TooDeep j) w h = rw (w, h) refl
      go term.Memory w h = tt

-- ---- limits

limit_append : (xs ys : List Descendant) → descendants_limit xs ≡ None → descendants_limit (xs ++ ys) ≡ descendants_limit ys
limit_append [] ys e = refl
limit_append (x ∷ xs) ys e = go (first_limit x.left) (first_limit x.right) e (limit_append xs ys)
  where
    go : (a b : Option Limit) → or_else a (or_else b (descendants_limit xs)) ≡ None → (descendants_limit xs ≡ None → descendants_limit (xs ++ ys) ≡ descendants_limit ys)
        → or_else a (or_else b (descendants_limit (xs ++ ys))) ≡ descendants_limit ys
    go None None e f = f e
    go None (Some b) e f = absurd (cc)
    go (Some a) b e f = absurd (cc)

limit_first : (x : Descendant) (xs : List Descendant) (l : Limit) → descendants_limit (x ∷ []) ≡ Some l → descendants_limit (x ∷ xs) ≡ Some l
limit_first x xs l e = go (first_limit x.left) (first_limit x.right) e
  where
    go : (a b : Option Limit) → or_else a (or_else b None) ≡ Some l → or_else a (or_else b (descendants_limit xs)) ≡ Some l
    go None None e = absurd (cc)
    go None (Some b) e = e
    go (Some a) b e = e

-- ---- one derivative after another

-- these are made, and are within the limits; the others are to come
pub record Stands (ds : List Derivative) (parent : ℕ) (l m : Tree) (k i : ℕ) (old now : List Descendant) : Type 0 where
  pub added : List Descendant
  pub whole : descendants parent l m k 0 ds ≡ added ++ descendants parent l m k i (drop i ds)
  pub within : descendants_limit added ≡ None
  pub queue : now ≡ old ++ added

pub stands_start : (ds : List Derivative) (parent : ℕ) (l m : Tree) (k : ℕ) (old : List Descendant) → Stands ds parent l m k 0 old old
stands_start ds parent l m k old = record { added = []; whole = refl; within = refl; queue = sym (append-nil old) }

module _ (ds : List Derivative) (parent : ℕ) (l m : Tree) (k i : ℕ) (old now : List Descendant) (st : Stands ds parent l m k i old now) where
  pub stands_end : length ds ≤ i → (descendants_limit (descendants parent l m k 0 ds) ≡ None) × (now ≡ old ++ descendants parent l m k 0 ds)
  stands_end h =
      let gone : descendants parent l m k i (drop i ds) ≡ [] = ap (descendants parent l m k i) (drop_all i ds h) in
      let all : descendants parent l m k 0 ds ≡ st.added = st.whole ∙ ap (λ xs. st.added ++ xs) gone ∙ append-nil st.added in
      (ap descendants_limit all ∙ st.within, st.queue ∙ ap (λ xs. old ++ xs) (sym all))

  next : (b : Bool) (d : Derivative) → StartsWith ds i d → option_map_or (λ x. x.hole == sort_of l) (slice_get ds i) false ≡ b
      → descendants parent l m k i (drop i ds)
      ≡ (if b then descendant parent l m k i d ∷ descendants parent l m k (i + 1) (drop (i + 1) ds) else descendants parent l m k (i + 1) (drop (i + 1) ds))
  next b d w e =
      let t : (d.hole == sort_of l) ≡ b = sym (ap (λ o. option_map_or (λ x. x.hole == sort_of l) o false) w.there) ∙ e in
      ap (descendants parent l m k i) w.rest
      ∙ ap (λ c. if c then descendant parent l m k i d ∷ descendants parent l m k (i + 1) (drop (i + 1) ds) else descendants parent l m k (i + 1) (drop (i + 1) ds)) t

  pub stands_passed : i < length ds → option_map_or (λ x. x.hole == sort_of l) (slice_get ds i) false ≡ false → Stands ds parent l m k (i + 1) old now
  stands_passed h e =
      let d = derivative_at ds i h in
      record { added = st.added; whole = st.whole ∙ ap (λ xs. st.added ++ xs) (next false d.0 d.1 e); within = st.within; queue = st.queue }

  pub stands_taken : (y : Descendant) → i < length ds → option_map_or (λ x. x.hole == sort_of l) (slice_get ds i) false ≡ true
      → IfSome (slice_get ds i) (λ d. GivesDescendant (descendant parent l m k i d) (Ok y)) → Stands ds parent l m k (i + 1) old (now ++ y ∷ [])
  stands_taken y h e c =
      let d = derivative_at ds i h in
      let q = some_if_at (λ d. GivesDescendant (descendant parent l m k i d) (Ok y)) (slice_get ds i) d.0 d.1.there c in
      let rest = descendants parent l m k (i + 1) (drop (i + 1) ds) in
      record {
        added = st.added ++ y ∷ [];
        whole = st.whole ∙ ap (λ xs. st.added ++ xs) (next true d.0 d.1 e ∙ ap (λ x. x ∷ rest) (sym q.0)) ∙ sym (append_assoc st.added (y ∷ []) rest);
        within = limit_append st.added (y ∷ []) st.within ∙ ap (λ x. descendants_limit (x ∷ [])) q.0 ∙ q.1;
        queue = ap (λ xs. xs ++ y ∷ []) st.queue ∙ append_assoc old st.added (y ∷ []);
      }

  pub stands_stopped : (e : TermFault) → i < length ds → option_map_or (λ x. x.hole == sort_of l) (slice_get ds i) false ≡ true
      → IfSome (slice_get ds i) (λ d. GivesDescendant (descendant parent l m k i d) (Err e)) → Names e (descendants_limit (descendants parent l m k 0 ds))
  stands_stopped e h t c =
      let d = derivative_at ds i h in
      let rest = descendants parent l m k (i + 1) (drop (i + 1) ds) in
      let whole : descendants_limit (descendants parent l m k 0 ds) ≡ descendants_limit (descendant parent l m k i d.0 ∷ rest) =
      ap descendants_limit (st.whole ∙ ap (λ xs. st.added ++ xs) (next true d.0 d.1 t)) ∙ limit_append st.added (descendant parent l m k i d.0 ∷ rest) st.within in
      go e (descendant parent l m k i d.0) rest whole (some_if_at (λ d. GivesDescendant (descendant parent l m k i d) (Err e)) (slice_get ds i) d.0 d.1.there c)
    where
      go : (e : TermFault) (x : Descendant) (rest : List Descendant) → descendants_limit (descendants parent l m k 0 ds) ≡ descendants_limit (x ∷ rest)
          → Names e (descendants_limit (x ∷ [])) → Names e (descendants_limit (descendants parent l m k 0 ds))
      go (term.TooBig j) x rest w h = w ∙ limit_first x rest _ h
      go (term.TooDeep j) x rest w h = w ∙ limit_first x rest _ h
      go term.Memory x rest w h = tt
