-- A map of variables finds one by its number and its sort.
use Rattle.std.proofs.Common.{◌≡◌, ℕ, Bool, true, false, ◌&&◌, ◌==◌, cond, if◌then◌else◌, List, [], ◌∷◌, map, Option, Some, None, refl, sym, ap, ◌∙◌, unwrap_or, Ordering, Less, Equal, Greater}
use Rattle.std.specs.Option.{option_or}
use Rattle.std.specs.Ordering.{ordering_then, nat_cmp, is_eq, match_ordering}
use Rattle.std.specs.BTreeSet.{insert_key}
use Rattle.std.specs.Cmp.{unsigned_ties, both_tied}
use Rattle.std.specs.Map.{lookup}
use Rattle.std.proofs.lemmas.Bool.{eqb-true, and_parts}
use Rattle.circ_term.specs.Tree.{Tree, Var}
use Rattle.circ_term.specs.Subst.{Bound, found}
use Rattle.circ_theory.specs.Variables.{Variable as TheVariable, given}
use Rattle.circ_replay.specs.Gathering.{variable_cmp}
use Rattle.circ_uses.specs.Valuations.{bound_of, Fills, variable_of}
use Rattle.circ_uses.specs.declared.valuation.Variable.{Variable}

-- how the map compares two variables
abbrev pub kept_cmp : Variable → Variable → Ordering
kept_cmp v w = ordering_then (nat_cmp v.number w.number) (nat_cmp v.sort w.sort)

abbrev pub is_key : Variable → Variable → Bool
is_key v w = is_eq (kept_cmp v w)

same_key : (v w : Variable) → ((v.number == w.number) && (v.sort == w.sort)) ≡ is_key v w
same_key v w = both_tied _ _ (nat_cmp v.number w.number) (nat_cmp v.sort w.sort) (unsigned_ties v.number w.number) (unsigned_ties v.sort w.sort)

pub found-lookup : (es : List (Variable × Tree)) (v : Variable) → found (map bound_of es) v.number v.sort ≡ lookup (is_key v) es
found-lookup [] v = refl
found-lookup (e ∷ es) v = rw (same_key v e.0, found-lookup es v) refl

-- a variable that had no term gets one
pub filled : (es fs : List (Variable × Tree)) (k : Variable) (t : Tree) → found (map bound_of es) k.number k.sort ≡ None
    → ((v : Variable) → lookup (is_key v) fs ≡ cond (is_key k v) (Some t) (lookup (is_key v) es))
    → Fills (map bound_of es) (map bound_of fs) k.number k.sort t
filled es fs k t free changes n s =
    let v : Variable = record { number = n; sort = s } in
    let new : found (map bound_of fs) n s ≡ (if (k.number == n) && (k.sort == s) then Some t else found (map bound_of es) n s) =
    found-lookup fs v ∙ changes v ∙ rw (← same_key k v, ← found-lookup es v) refl in
    new ∙ go ((k.number == n) && (k.sort == s)) refl
  where
    go : (b : Bool) → ((k.number == n) && (k.sort == s)) ≡ b
        → (if b then Some t else found (map bound_of es) n s) ≡ option_or (found (map bound_of es) n s) (if b then Some t else None)
    go true e =
        let both = and_parts (k.number == n) (k.sort == s) e in
        let none : found (map bound_of es) n s ≡ None =
        ap (λ m. found (map bound_of es) m s) (sym (eqb-true k.number n both.0)) ∙ ap (found (map bound_of es) k.number) (sym (eqb-true k.sort s both.1)) ∙ free in
        rw none refl
    go false e = none_more (found (map bound_of es) n s)
      where
        none_more : (o : Option Tree) → o ≡ option_or o None
        none_more None = refl
        none_more (Some x) = refl

-- and one that had a term keeps it
pub kept : (σ : List Bound) (number sort : ℕ) (u t : Tree) → found σ number sort ≡ Some u → Fills σ σ number sort t
kept σ number sort u t e n s = go (found σ n s) refl ((number == n) && (sort == s)) refl
  where
    go : (o : Option Tree) → found σ n s ≡ o → (b : Bool) → ((number == n) && (sort == s)) ≡ b → o ≡ option_or o (if b then Some t else None)
    go (Some x) f b g = refl
    go None f false g = refl
    go None f true g =
        let both = and_parts (number == n) (sort == s) g in
        let some : found σ n s ≡ Some u =
        ap (λ m. found σ m s) (sym (eqb-true number n both.0)) ∙ ap (found σ number) (sym (eqb-true sort s both.1)) ∙ e in
        absurd (let z = sym f ∙ some in cc)

-- the terms of those that are left go to those that have none
abbrev pub filled_by : List Bound → List TheVariable → List Tree → ℕ → ℕ → Tree
filled_by σ vs ts n s = unwrap_or (found σ n s) (given vs ts n s)

pub next_given : (σ τ : List Bound) (v : TheVariable) (t : Tree) (vs : List TheVariable) (ts : List Tree) → Fills σ τ v.number v.sort t → (n s : ℕ)
    → filled_by τ vs ts n s ≡ filled_by σ (v ∷ vs) (t ∷ ts) n s
next_given σ τ v t vs ts h n s =
    ap (λ o. unwrap_or o (given vs ts n s)) (h n s) ∙ go (found σ n s) ((v.number == n) && (v.sort == s))
  where
    go : (o : Option Tree) (b : Bool) → unwrap_or (option_or o (if b then Some t else None)) (given vs ts n s)
        ≡ unwrap_or o (if b then t else given vs ts n s)
    go (Some x) b = refl
    go None true = refl
    go None false = refl

-- a variable that is inserted is one that is entered
pub inserted : (ks : List Variable) (k : Variable)
    → map variable_of (insert_key (λ a b. variable_cmp (variable_of a) (variable_of b)) ks k) ≡ insert_key variable_cmp (map variable_of ks) (variable_of k)
inserted [] k = refl
inserted (x ∷ ks) k = go (inserted ks k) (variable_cmp (variable_of k) (variable_of x))
  where
    go : map variable_of (insert_key (λ a b. variable_cmp (variable_of a) (variable_of b)) ks k) ≡ insert_key variable_cmp (map variable_of ks) (variable_of k)
        → (o : Ordering)
        → map variable_of (match_ordering o (k ∷ x ∷ ks) (x ∷ ks) (x ∷ insert_key (λ a b. variable_cmp (variable_of a) (variable_of b)) ks k))
        ≡ match_ordering o (variable_of k ∷ map variable_of (x ∷ ks)) (map variable_of (x ∷ ks))
        (variable_of x ∷ insert_key variable_cmp (map variable_of ks) (variable_of k))
    go ih Less = refl
    go ih Equal = refl
    go ih Greater = ap (λ us. variable_of x ∷ us) ih
