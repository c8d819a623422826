-- A map finds a variable by its number and its sort.
use Rattle.std.proofs.Common.{◌≡◌, ℕ, Bool, true, false, ◌&&◌, cond, List, [], ◌∷◌, map, Some, refl, ap, ◌∙◌, unwrap_or, Ordering, Less}
use Rattle.std.specs.Bool.{◌==◌}
use Rattle.std.specs.Ordering.{ordering_then, nat_cmp, is_eq}
use Rattle.std.specs.Cmp.{unsigned_ties, both_tied}
use Rattle.std.specs.List.{AllByRecursion}
use Rattle.std.specs.List.Sorted.{IsStrictlySortedBy}
use Rattle.std.specs.Map.{keys_of, values_of, lookup}
use Rattle.std.proofs.lemmas.Bool.{eqb-true, and_parts}
use Rattle.circ_term.specs.Tree.{Tree, Var, sort_of}
use Rattle.circ_term.specs.Substitution.{KeepsSorts}
use Rattle.circ_term.specs.Subst.{Bound, bound_cmp, found, substitution_of, Binds}
use Rattle.circ_term.specs.Bindings.{bound_of}
use Rattle.circ_term.specs.declared.bindings.Variable.{Variable}

-- how the map compares two variables
abbrev variable_cmp : Variable → Variable → Ordering
variable_cmp v w = ordering_then (nat_cmp v.number w.number) (nat_cmp v.sort w.sort)

abbrev is_key : Variable → Variable → Bool
is_key v w = is_eq (variable_cmp v w)

same_key : (v w : Variable) → ((v.number == w.number) && (v.sort == w.sort)) ≡ is_key v w
same_key v w = both_tied _ _ (nat_cmp v.number w.number) (nat_cmp v.sort w.sort) (unsigned_ties v.number w.number) (unsigned_ties v.sort w.sort)

pub found-lookup : (es : List (Variable × Tree)) (v : Variable) → found (map bound_of es) v.number v.sort ≡ lookup (is_key v) es
found-lookup [] v = refl
found-lookup (e ∷ es) v = rw (same_key v e.0, found-lookup es v) refl

under : (k : Variable) (t : Tree) (es : List (Variable × Tree)) → AllByRecursion (λ v. variable_cmp k v ≡ Less) (keys_of es)
    → AllByRecursion (λ b. bound_cmp (bound_of (k, t)) b ≡ Less) (map bound_of es)
under k t [] a = tt
under k t (e ∷ es) a = (a.0, under k t es a.1)

-- the bound variables are in the order of the map
pub bounds_in_order : (es : List (Variable × Tree)) → IsStrictlySortedBy variable_cmp (keys_of es) → IsStrictlySortedBy bound_cmp (map bound_of es)
unfolding IsStrictlySortedBy
bounds_in_order [] s = tt
bounds_in_order (e ∷ es) s = (under e.0 e.1 es s.0, bounds_in_order es s.1)

pub terms_of_bounds : (es : List (Variable × Tree)) → values_of es ≡ map (λ b. b.term) (map bound_of es)
terms_of_bounds [] = refl
terms_of_bounds (e ∷ es) = ap (λ ts. e.1 ∷ ts) (terms_of_bounds es)

-- what an insertion does to the map, it does to the substitution
pub inserted : (es fs : List (Variable × Tree)) (k : Variable) (t : Tree)
    → ((v : Variable) → lookup (is_key v) fs ≡ cond (is_key k v) (Some t) (lookup (is_key v) es))
    → Binds (map bound_of es) (map bound_of fs) k.number k.sort t
inserted es fs k t changes n s =
    let v : Variable = record { number = n; sort = s } in
    found-lookup fs v ∙ changes v ∙ rw (← same_key k v, ← found-lookup es v) refl

-- a variable that is bound to a term of its sort leaves the substitution one that keeps sorts
pub bound_sorts : (σ τ : List Bound) (number sort : ℕ) (t : Tree) → Binds σ τ number sort t → sort_of t ≡ sort
    → KeepsSorts (substitution_of σ) → KeepsSorts (substitution_of τ)
bound_sorts σ τ number sort t b e k n s = rw (b n s) (at_test ((number == n) && (sort == s)) refl)
  where
    at_test : (r : Bool) → ((number == n) && (sort == s)) ≡ r → sort_of (unwrap_or (cond r (Some t) (found σ n s)) (Var n s)) ≡ s
    at_test true h = e ∙ eqb-true sort s (and_parts (number == n) (sort == s) h).1
    at_test false h = k n s
