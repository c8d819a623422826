-- Matching a goal's two sides at once.
use Rattle.std.proofs.Common.{◌≡◌, ℕ, Bool, true, false, ◌||◌, if◌then◌else◌, List, [], ◌∷◌, map, Option, Some, None, unwrap_or, is_some, refl, ap, sym, ◌∙◌}
use Rattle.std.specs.Option.{option_or}
use Rattle.std.specs.List.{list_any}
use Rattle.std.specs.List.Sorted.{IsStrictlySortedBy}
use Rattle.std.proofs.lemmas.Bool.{and_parts}
use Rattle.std.proofs.Math.Bool.{or-false, or_assoc}
use Rattle.circ_term.specs.Tree.{Tree, Var, sort_of}
use Rattle.circ_term.specs.Order.{is_same}
use Rattle.circ_term.specs.Substitution.{Substitution, KeepsSorts, instance}
use Rattle.circ_term.specs.Subst.{Bound, bound_cmp, found, substitution_of}
use Rattle.circ_term.proofs.Order.{same_here}
use Rattle.circ_theory.specs.Theory.{Pair, sides}
use Rattle.circ_theory.specs.Variables.{Variable, is_variable, variables_of, seen_in, seen_in_pairs, occurrences}
use Rattle.circ_theory.specs.Goal.{Goal}
use Rattle.circ_theory.proofs.BoundTerms.{bound_terms, variables_apart}
use Rattle.circ_match.specs.Matcher.{IsMatcher, Makes, has_variable}
use Rattle.circ_match.proofs.Variables.{instance-variable}
use Rattle.circ_rewrite.specs.Matching.{image}
use Rattle.circ_rewrite.specs.Due.{terms_by}
use Rattle.circ_rewrite.proofs.MatchingFacts.{is_same_term, image-instance, matching-sorts}
use Rattle.circ_rewrite.proofs.RuleTerms.{has_variable-occurrences, any_seen_in}
use Rattle.circ_plain_search.specs.Joining.{pair_matching, pair_matches, hypothesis_variables}
use Rattle.circ_join.specs.Binding.{BindsSides, BindsRest, have_pair_variable}

-- what is given keeps sorts
pair_sorts : (p : Pair) (a b : Tree) → KeepsSorts (pair_matching p a b)
pair_sorts p a b n s = go (image p.left a n s) refl
  where
    go : (o : Option Tree) → image p.left a n s ≡ o → sort_of (unwrap_or (option_or (image p.left a n s) (image p.right b n s)) (Var n s)) ≡ s
    go None f = rw f (matching-sorts p.right b n s)
    go (Some x) f = let k = matching-sorts p.left a n s in let h = rw f at k in rw f h

pub no_pair_match : (g : Goal) (a b : Tree) → ((τ : Substitution) → KeepsSorts τ → (Makes g.left a τ × Makes g.right b τ) → ⊥) → pair_matches (sides g) a b ≡ false
no_pair_match g a b h = go (pair_matches (sides g) a b) refl
  where
    go : (r : Bool) → pair_matches (sides g) a b ≡ r → pair_matches (sides g) a b ≡ false
    go false e = e
    go true e =
        let m = pair_matching (sides g) a b in
        let parts = and_parts (is_same (instance m g.left) a) (is_same (instance m g.right) b) e in
        absurd (h m (pair_sorts (sides g) a b) (same_here (instance m g.left) a parts.0, same_here (instance m g.right) b parts.1))

either : (a b : Bool) (x : Tree) → option_or (if a then Some x else None) (if b then Some x else None) ≡ (if a || b then Some x else None)
either true b x = refl
either false b x = refl

unbound : (o : Option Tree) (n s : ℕ) → is_some o ≡ false → unwrap_or o (Var n s) ≡ Var n s
unbound None n s e = refl
unbound (Some u) n s e = absurd (cc)

-- a matcher gives each variable, bound or not, what the function gives it
pair_agrees : (g : Goal) (a b : Tree) (σ : List Bound)
    → IsMatcher (λ τ. Makes g.left a τ × Makes g.right b τ) (λ n s. has_variable g.left n s || has_variable g.right n s) σ
    → (n s : ℕ) → substitution_of σ n s ≡ pair_matching (sides g) a b n s
pair_agrees g a b σ m n s = go (has_variable g.left n s || has_variable g.right n s) refl
  where
    left : image g.left a n s ≡ (if has_variable g.left n s then Some (substitution_of σ n s) else None)
    left = ap (λ u. image g.left u n s) (sym m.makes.0) ∙ image-instance (substitution_of σ) m.sorts g.left n s

    right : image g.right b n s ≡ (if has_variable g.right n s then Some (substitution_of σ n s) else None)
    right = ap (λ u. image g.right u n s) (sym m.makes.1) ∙ image-instance (substitution_of σ) m.sorts g.right n s

    both : option_or (image g.left a n s) (image g.right b n s) ≡ (if has_variable g.left n s || has_variable g.right n s then Some (substitution_of σ n s) else None)
    both = rw (left, right) (either (has_variable g.left n s) (has_variable g.right n s) (substitution_of σ n s))

    go : (r : Bool) → (has_variable g.left n s || has_variable g.right n s) ≡ r → substitution_of σ n s ≡ pair_matching (sides g) a b n s
    go true o =
        let here : option_or (image g.left a n s) (image g.right b n s) ≡ Some (substitution_of σ n s) = both ∙ rw o refl in
        sym (ap (λ u. unwrap_or u (Var n s)) here)
    go false o =
        let here : option_or (image g.left a n s) (image g.right b n s) ≡ None = both ∙ rw o refl in
        let none : is_some (found σ n s) ≡ false = m.binds n s ∙ o in
        unbound (found σ n s) n s none ∙ sym (ap (λ u. unwrap_or u (Var n s)) here)

-- the variables of both sides are bound just so by a matcher
abbrev pub IsPairMatcher : Goal → (a b : Tree) → List Bound → Type 0
IsPairMatcher g a b σ = IsMatcher (λ τ. Makes g.left a τ × Makes g.right b τ) (λ n s. has_variable g.left n s || has_variable g.right n s) σ

pub pair_same : (g : Goal) (a b : Tree) (σ : List Bound) → IsPairMatcher g a b σ → pair_matching (sides g) a b ≡ substitution_of σ
pair_same g a b σ m = λ i n s. sym (pair_agrees g a b σ m n s) i

pub pair_match : (g : Goal) (a b : Tree) (σ : List Bound) → IsPairMatcher g a b σ → pair_matches (sides g) a b ≡ true
pair_match g a b σ m =
    let agrees = pair_agrees g a b σ m in
    let f = pair_matching (sides g) a b in
    let left : is_same (instance f g.left) a ≡ true =
    is_same_term (instance f g.left) a (instance-variable f (substitution_of σ) g.left (λ n s _. sym (agrees n s)) ∙ m.makes.0) in
    let right : is_same (instance f g.right) b ≡ true =
    is_same_term (instance f g.right) b (instance-variable f (substitution_of σ) g.right (λ n s _. sym (agrees n s)) ∙ m.makes.1) in
    rw (left, right) refl

-- ---- variables that stand for themselves

abbrev variable : ℕ → ℕ → Variable
variable n s = record { number = n; sort = s }

any_seen_in_pairs : (v : Variable) (ps : List Pair) (us : List Variable)
    → list_any (is_variable v) (seen_in_pairs ps us) ≡ (list_any (is_variable v) us || have_pair_variable ps v.number v.sort)
any_seen_in_pairs v [] us = sym (or-false (list_any (is_variable v) us))
any_seen_in_pairs v (p ∷ ps) us =
    any_seen_in_pairs v ps (seen_in p.right (seen_in p.left us))
    ∙ ap (λ b. b || rest) (any_seen_in v p.right (seen_in p.left us) ∙ ap (λ b. b || list_any (is_variable v) (occurrences p.right)) (any_seen_in v p.left us))
    ∙ ap (λ b. ((list_any (is_variable v) us || list_any (is_variable v) (occurrences p.left)) || b) || rest) (sym (has_variable-occurrences p.right v.number v.sort))
    ∙ ap (λ b. ((list_any (is_variable v) us || b) || right) || rest) (sym (has_variable-occurrences p.left v.number v.sort))
    ∙ or_assoc (list_any (is_variable v) us || left) right rest
    ∙ or_assoc (list_any (is_variable v) us) left (right || rest)
    ∙ ap (λ b. list_any (is_variable v) us || b) (sym (or_assoc left right rest))
  where
    left : Bool
    left = has_variable p.left v.number v.sort

    right : Bool
    right = has_variable p.right v.number v.sort

    rest : Bool
    rest = have_pair_variable ps v.number v.sort

-- the variables of a goal are those of its sides and of its conditions
of_goal : (g : Goal) (n s : ℕ)
    → ((has_variable g.left n s || has_variable g.right n s) || have_pair_variable g.conds n s) ≡ list_any (is_variable (variable n s)) (variables_of g)
of_goal g n s =
    let v = variable n s in
    ap (λ b. (b || has_variable g.right n s) || have_pair_variable g.conds n s) (has_variable-occurrences g.left n s)
    ∙ ap (λ b. (list_any (is_variable v) (occurrences g.left) || b) || have_pair_variable g.conds n s) (has_variable-occurrences g.right n s)
    ∙ sym (any_seen_in_pairs v g.conds (seen_in g.right (seen_in g.left []))
    ∙ ap (λ b. b || have_pair_variable g.conds n s) (any_seen_in v g.right (seen_in g.left [])
    ∙ ap (λ x. x || list_any (is_variable v) (occurrences g.right)) (any_seen_in v g.left [])))

rest_bound : (o : Option Tree) (v : Bool) (t : Tree) → is_some (option_or o (if v then Some t else None)) ≡ (is_some o || v)
rest_bound (Some u) v t = refl
rest_bound None true t = refl
rest_bound None false t = refl

rest_same : (o : Option Tree) (v : Bool) (t : Tree) → unwrap_or (option_or o (if v then Some t else None)) t ≡ unwrap_or o t
rest_same (Some u) v t = refl
rest_same None true t = refl
rest_same None false t = refl

map_same : {X Y : Type 0} (f g : X → Y) (xs : List X) → ((x : X) → f x ≡ g x) → map f xs ≡ map g xs
map_same f g [] h = refl
map_same f g (x ∷ xs) h = ap (λ y. y ∷ map f xs) (h x) ∙ ap (λ ys. g x ∷ ys) (map_same f g xs h)

-- where just the variables of the sides are bound, and then those of the conditions stand for themselves, the bound terms are the hypothesis's terms
pub hypothesis_terms : (g : Goal) (σ τ : List Bound) → BindsSides g σ → BindsRest (have_pair_variable g.conds) σ τ → IsStrictlySortedBy bound_cmp τ
    → map (λ x. x.term) τ ≡ terms_by (substitution_of σ) (hypothesis_variables g)
hypothesis_terms g σ τ bound rest o =
    let binds : (n s : ℕ) → is_some (found τ n s) ≡ list_any (is_variable (variable n s)) (variables_of g) = λ n s.
    ap is_some (rest n s) ∙ rest_bound (found σ n s) (have_pair_variable g.conds n s) (Var n s) ∙ ap (λ b. b || have_pair_variable g.conds n s) (bound n s) ∙ of_goal g n s in
    let same : (n s : ℕ) → substitution_of τ n s ≡ substitution_of σ n s = λ n s.
    ap (λ o. unwrap_or o (Var n s)) (rest n s) ∙ rest_same (found σ n s) (have_pair_variable g.conds n s) (Var n s) in
    bound_terms τ (variables_of g) o (variables_apart g) binds
    ∙ map_same (λ v. substitution_of τ v.number v.sort) (λ v. substitution_of σ v.number v.sort) (hypothesis_variables g) (λ v. same v.number v.sort)
