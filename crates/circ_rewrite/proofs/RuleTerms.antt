-- The variables of a rule are those of its left side, and a matcher's terms in order are the terms that they are given.
use Rattle.std.proofs.Common.{◌≡◌, ℕ, Bool, true, false, ◌==◌, ◌&&◌, ◌||◌, if◌then◌else◌, List, [], ◌∷◌, ◌++◌, map, refl, ap, sym, ◌∙◌}
use Rattle.std.specs.List.{list_any, list_all}
use Rattle.std.specs.List.Sorted.{IsStrictlySortedBy}
use Rattle.std.proofs.lemmas.Bool.{eqb-true, eq-eqb, and_parts}
use Rattle.std.proofs.lemmas.List.Folds.{list_any-append}
use Rattle.std.proofs.Math.Bool.{or-false, or_assoc}
use Rattle.circ_term.specs.Tree.{Tree, Trees, Var, App, none, more}
use Rattle.circ_term.specs.Subst.{Bound, bound_cmp, substitution_of}
use Rattle.circ_theory.specs.Theory.{Pair}
use Rattle.circ_theory.specs.Variables.{Variable, is_variable, seen, seen_in, seen_in_all, seen_in_pairs, variables_of, occurrences, all_occurrences, pair_occurrences}
use Rattle.circ_theory.proofs.BoundTerms.{bound_terms, variables_apart}
use Rattle.circ_match.specs.Matcher.{IsMatcher, Makes, has_variable, have_variable}
use Rattle.circ_rewrite.specs.Due.{IsRewriteRule, rule_goal, rule_variables, terms_by}
use Rattle.circ_rewrite.specs.declared.parts.Rule.{Rule}

abbrev variable : ℕ → ℕ → Variable
variable n s = record { number = n; sort = s }

same_variable : (v w : Variable) → is_variable v w ≡ true → v ≡ w
same_variable v w e =
    let parts = and_parts (v.number == w.number) (v.sort == w.sort) e in
    let a = eqb-true v.number w.number parts.0 in
    let b = eqb-true v.sort w.sort parts.1 in
    λ i. record { number = a i; sort = b i }

-- ---- which variables are seen

any_seen : (v w : Variable) (us : List Variable) → list_any (is_variable v) (seen w us) ≡ (list_any (is_variable v) us || is_variable v w)
any_seen v w us = go (list_any (is_variable w) us) refl (is_variable v w) refl
  where
    go : (b : Bool) → list_any (is_variable w) us ≡ b → (e : Bool) → is_variable v w ≡ e
        → list_any (is_variable v) (if b then us else us ++ w ∷ []) ≡ (list_any (is_variable v) us || e)
    go true h true e =
        let there : list_any (is_variable v) us ≡ true = ap (λ x. list_any (is_variable x) us) (same_variable v w e) ∙ h in
        rw there refl
    go true h false e = sym (or-false (list_any (is_variable v) us))
    go false h b e = list_any-append (is_variable v) us (w ∷ []) ∙ ap (λ x. list_any (is_variable v) us || x) (or-false (is_variable v w) ∙ e)

mutual
  pub any_seen_in : (v : Variable) (t : Tree) (us : List Variable)
      → list_any (is_variable v) (seen_in t us) ≡ (list_any (is_variable v) us || list_any (is_variable v) (occurrences t))
  any_seen_in v (Var n s) us = any_seen v (variable n s) us ∙ ap (λ b. list_any (is_variable v) us || b) (sym (or-false (is_variable v (variable n s))))
  any_seen_in v (App f s ts) us = any_seen_in_all v ts us

  any_seen_in_all : (v : Variable) (ts : Trees) (us : List Variable)
      → list_any (is_variable v) (seen_in_all ts us) ≡ (list_any (is_variable v) us || list_any (is_variable v) (all_occurrences ts))
  any_seen_in_all v none us = sym (or-false (list_any (is_variable v) us))
  any_seen_in_all v (more t ts) us =
      any_seen_in_all v ts (seen_in t us)
      ∙ ap (λ b. b || list_any (is_variable v) (all_occurrences ts)) (any_seen_in v t us)
      ∙ or_assoc (list_any (is_variable v) us) (list_any (is_variable v) (occurrences t)) (list_any (is_variable v) (all_occurrences ts))
      ∙ ap (λ b. list_any (is_variable v) us || b) (sym (list_any-append (is_variable v) (occurrences t) (all_occurrences ts)))

any_seen_in_pairs : (v : Variable) (ps : List Pair) (us : List Variable)
    → list_any (is_variable v) (seen_in_pairs ps us) ≡ (list_any (is_variable v) us || list_any (is_variable v) (pair_occurrences ps))
any_seen_in_pairs v [] us = sym (or-false (list_any (is_variable v) us))
any_seen_in_pairs v (p ∷ ps) us =
    any_seen_in_pairs v ps (seen_in p.right (seen_in p.left us))
    ∙ ap (λ b. b || rest) (any_seen_in v p.right (seen_in p.left us) ∙ ap (λ b. b || right) (any_seen_in v p.left us))
    ∙ or_assoc (list_any (is_variable v) us || left) right rest
    ∙ or_assoc (list_any (is_variable v) us) left (right || rest)
    ∙ ap (λ b. list_any (is_variable v) us || b) (sym (list_any-append (is_variable v) (occurrences p.left) (occurrences p.right ++ pair_occurrences ps)
    ∙ ap (λ b. left || b) (list_any-append (is_variable v) (occurrences p.right) (pair_occurrences ps))))
  where
    left : Bool
    left = list_any (is_variable v) (occurrences p.left)

    right : Bool
    right = list_any (is_variable v) (occurrences p.right)

    rest : Bool
    rest = list_any (is_variable v) (pair_occurrences ps)

eq_flip : (a b : ℕ) → (a == b) ≡ (b == a)
eq_flip a b = go (a == b) refl (b == a) refl
  where
    go : (x : Bool) → (a == b) ≡ x → (y : Bool) → (b == a) ≡ y → x ≡ y
    go true e true f = refl
    go false e false f = refl
    go true e false f = sym (eq-eqb b a (sym (eqb-true a b e))) ∙ f
    go false e true f = sym e ∙ eq-eqb a b (sym (eqb-true b a f))

mutual
  pub has_variable-occurrences : (t : Tree) (n s : ℕ) → has_variable t n s ≡ list_any (is_variable (variable n s)) (occurrences t)
  has_variable-occurrences (Var m k) n s = rw (eq_flip m n, eq_flip k s) (sym (or-false ((n == m) && (s == k))))
  has_variable-occurrences (App f k ts) n s = have_variable-occurrences ts n s

  have_variable-occurrences : (ts : Trees) (n s : ℕ) → have_variable ts n s ≡ list_any (is_variable (variable n s)) (all_occurrences ts)
  have_variable-occurrences none n s = refl
  have_variable-occurrences (more t ts) n s =
      rw (has_variable-occurrences t n s, have_variable-occurrences ts n s)
      (sym (list_any-append (is_variable (variable n s)) (occurrences t) (all_occurrences ts)))

-- ---- a rule's variables

either : {X : Type 0} (a b : Bool) → (a || b) ≡ true → (a ≡ true → X) → (b ≡ true → X) → X
either true b h x y = x refl
either false b h x y = y h

among : (v : Variable) (vs us : List Variable) → list_all (λ w. list_any (is_variable w) us) vs ≡ true → list_any (is_variable v) vs ≡ true
    → list_any (is_variable v) us ≡ true
among v [] us h e = absurd (cc)
among v (w ∷ vs) us h e =
    let parts = and_parts (list_any (is_variable w) us) (list_all (λ w. list_any (is_variable w) us) vs) h in
    either (is_variable v w) (list_any (is_variable v) vs) e
    (λ x. ap (λ u. list_any (is_variable u) us) (same_variable v w x) ∙ parts.0)
    (among v vs us parts.1)

-- each variable of the right side and of the conditions is one of the left side
abbrev others : Rule → List Variable
others r = occurrences r.right ++ pair_occurrences r.conds

-- the left side has the variables of the right side
pub bound_in_left : (r : Rule) → IsRewriteRule r → (n s : ℕ) → has_variable r.right n s ≡ true → has_variable r.left n s ≡ true
bound_in_left r ok n s h =
    has_variable-occurrences r.left n s
    ∙ among v (others r) (occurrences r.left) ok.bound
    (list_any-append (is_variable v) (occurrences r.right) (pair_occurrences r.conds)
    ∙ ap (λ b. b || list_any (is_variable v) (pair_occurrences r.conds)) (sym (has_variable-occurrences r.right n s) ∙ h))
  where
    v : Variable
    v = variable n s

pub of_left : (r : Rule) → IsRewriteRule r → (n s : ℕ) → has_variable r.left n s ≡ list_any (is_variable (variable n s)) (variables_of (rule_goal r))
of_left r ok n s =
    has_variable-occurrences r.left n s
    ∙ no_more left (list_any (is_variable v) (others r)) (among v (others r) (occurrences r.left) ok.bound)
    ∙ ap (λ b. left || b) (list_any-append (is_variable v) (occurrences r.right) (pair_occurrences r.conds))
    ∙ sym (or_assoc left right conds)
    ∙ ap (λ b. b || conds) (sym (any_seen_in v r.right (seen_in r.left []) ∙ ap (λ b. b || right) (any_seen_in v r.left [])))
    ∙ sym (any_seen_in_pairs v r.conds (seen_in r.right (seen_in r.left [])))
  where
    v : Variable
    v = variable n s

    left : Bool
    left = list_any (is_variable v) (occurrences r.left)

    right : Bool
    right = list_any (is_variable v) (occurrences r.right)

    conds : Bool
    conds = list_any (is_variable v) (pair_occurrences r.conds)

    no_more : (a b : Bool) → (b ≡ true → a ≡ true) → a ≡ (a || b)
    no_more true b h = refl
    no_more false true h = h refl
    no_more false false h = refl

pub terms_of_rule : (r : Rule) (t : Tree) (σ : List Bound) → IsRewriteRule r → IsMatcher (Makes r.left t) (has_variable r.left) σ → IsStrictlySortedBy bound_cmp σ
    → map (λ b. b.term) σ ≡ terms_by (substitution_of σ) (rule_variables r)
terms_of_rule r t σ ok m o =
    bound_terms σ (variables_of (rule_goal r)) o (variables_apart (rule_goal r)) (λ n s. m.binds n s ∙ of_left r ok n s)
