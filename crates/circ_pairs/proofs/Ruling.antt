-- Which variables of a goal's right side and conditions are in its left side.
use Rattle.std.proofs.Common.{◌≡◌, ◌≤◌, ℕ, Bool, true, false, ◌==◌, ◌&&◌, ◌||◌, if◌then◌else◌, List, [], ◌∷◌, ◌++◌, length, refl, ap, sym, ◌∙◌, arith}
use Rattle.std.proofs.Common.{length-append}
use Rattle.std.specs.List.{list_any, list_all}
use Rattle.std.proofs.lemmas.List.Folds.{list_any-append}
use Rattle.std.proofs.lemmas.Bool.{eqb-true, eq-eqb, ne_eqb, and_parts}
use Rattle.std.proofs.Math.Bool.{or-false, or_assoc}
use Rattle.circ_term.specs.Tree.{Tree, Trees, Var, App, none, more}
use Rattle.circ_pairs.specs.Variables.{Variable, is_variable, seen, seen_in, seen_in_all, seen_in_pairs, occurrences, all_occurrences, pair_occurrences, numbered}
use Rattle.circ_pairs.specs.Pair.{Pair}
use Rattle.circ_pairs.specs.Goal.{goal}
use Rattle.circ_pairs.proofs.Numbering.{length-numbered}
use Rattle.circ_pairs.specs.Rule.{is_bound}

-- those of the list that are new are added
abbrev pub all_seen : List Variable → List Variable → List Variable
all_seen [] us = us
all_seen (v ∷ vs) us = all_seen vs (seen v us)

all_seen-append : (vs ws us : List Variable) → all_seen (vs ++ ws) us ≡ all_seen ws (all_seen vs us)
all_seen-append [] ws us = refl
all_seen-append (v ∷ vs) ws us = all_seen-append vs ws (seen v us)

-- what is seen in a term are its occurrences
mutual
  pub seen-occurrences : (t : Tree) (us : List Variable) → seen_in t us ≡ all_seen (occurrences t) us
  seen-occurrences (Var n s) us = refl
  seen-occurrences (App f s ts) us = all_seen-occurrences ts us

  all_seen-occurrences : (ts : Trees) (us : List Variable) → seen_in_all ts us ≡ all_seen (all_occurrences ts) us
  all_seen-occurrences none us = refl
  all_seen-occurrences (more t ts) us =
      all_seen-occurrences ts (seen_in t us) ∙ ap (all_seen (all_occurrences ts)) (seen-occurrences t us) ∙ sym (all_seen-append (occurrences t) (all_occurrences ts) us)

length-seen_least : (v : Variable) (us : List Variable) → length us ≤ length (seen v us)
length-seen_least v us = go (list_any (is_variable v) us)
  where
    go : (b : Bool) → length us ≤ length (if b then us else us ++ v ∷ [])
    go true = omega arith
    go false = omega (arith, length-append us (v ∷ []))

length-all_seen : (vs us : List Variable) → length us ≤ length (all_seen vs us)
length-all_seen [] us = omega arith
length-all_seen (v ∷ vs) us = omega (arith, length-seen_least v us, length-all_seen vs (seen v us))

-- as many as before where none is new
pub none_new : (vs us : List Variable) → (length (all_seen vs us) == length us) ≡ list_all (λ v. list_any (is_variable v) us) vs
none_new [] us = eq-eqb (length us) (length us) refl
none_new (v ∷ vs) us = go (none_new vs us) (list_any (is_variable v) us)
  where
    go : (length (all_seen vs us) == length us) ≡ list_all (λ v. list_any (is_variable v) us) vs → (b : Bool)
        → (length (all_seen vs (if b then us else us ++ v ∷ [])) == length us) ≡ (b && list_all (λ v. list_any (is_variable v) us) vs)
    go ih true = ih
    go ih false = ne_eqb (length (all_seen vs (us ++ v ∷ []))) (length us) (λ e. absurd (omega (arith, length-all_seen vs (us ++ v ∷ []), length-append us (v ∷ []))))

-- two variables with the same test are the same
same_variable : (v w : Variable) → is_variable v w ≡ true → v ≡ w
same_variable v w e =
    let parts = and_parts (v.number == w.number) (v.sort == w.sort) e in
    let a = eqb-true v.number w.number parts.0 in
    let b = eqb-true v.sort w.sort parts.1 in
    λ i. record { number = a i; sort = b i }

any_seen : (v w : Variable) (us : List Variable) → list_any (is_variable v) (seen w us) ≡ (list_any (is_variable v) us || is_variable v w)
any_seen v w us = go (list_any (is_variable w) us) refl (is_variable v w) refl
  where
    go : (b : Bool) → list_any (is_variable w) us ≡ b → (e : Bool) → is_variable v w ≡ e
        → list_any (is_variable v) (if b then us else us ++ w ∷ []) ≡ (list_any (is_variable v) us || e)
    go true h true e = let there : list_any (is_variable v) us ≡ true = ap (λ x. list_any (is_variable x) us) (same_variable v w e) ∙ h in rw there refl
    go true h false e = sym (or-false (list_any (is_variable v) us))
    go false h b e = list_any-append (is_variable v) us (w ∷ []) ∙ ap (λ x. list_any (is_variable v) us || x) (or-false (is_variable v w) ∙ e)

any_all_seen : (v : Variable) (vs us : List Variable) → list_any (is_variable v) (all_seen vs us) ≡ (list_any (is_variable v) us || list_any (is_variable v) vs)
any_all_seen v [] us = sym (or-false (list_any (is_variable v) us))
any_all_seen v (w ∷ vs) us =
    any_all_seen v vs (seen w us) ∙ ap (λ b. b || list_any (is_variable v) vs) (any_seen v w us) ∙ or_assoc (list_any (is_variable v) us) (is_variable v w) (list_any (is_variable v) vs)

list_all-same : {X : Type 0} (p q : X → Bool) → ((x : X) → p x ≡ q x) → (xs : List X) → list_all p xs ≡ list_all q xs
list_all-same p q h [] = refl
list_all-same p q h (x ∷ xs) = λ i. h x i && list_all-same p q h xs i

pairs_seen-occurrences : (ps : List Pair) (us : List Variable) → seen_in_pairs ps us ≡ all_seen (pair_occurrences ps) us
pairs_seen-occurrences [] us = refl
pairs_seen-occurrences (p ∷ ps) us =
    pairs_seen-occurrences ps (seen_in p.right (seen_in p.left us))
    ∙ ap (all_seen (pair_occurrences ps)) (seen-occurrences p.right (seen_in p.left us) ∙ ap (all_seen (occurrences p.right)) (seen-occurrences p.left us))
    ∙ sym (all_seen-append (occurrences p.right) (pair_occurrences ps) (all_seen (occurrences p.left) us))
    ∙ sym (all_seen-append (occurrences p.left) (occurrences p.right ++ pair_occurrences ps) us)

-- the right side and the conditions have none that the left lacks where the count stays
pub bound_by : (l r : Tree) (E : List Pair) (first both : List ℕ) → numbered 0 first ≡ seen_in l [] → numbered 0 both ≡ seen_in_pairs E (seen_in r (seen_in l []))
    → (length both == length first) ≡ is_bound (goal E l r)
bound_by l r E first both a b =
    let us = all_seen (occurrences l) [] in
    let others = occurrences r ++ pair_occurrences E in
    let left : length first ≡ length us = sym (length-numbered 0 first) ∙ ap length (a ∙ seen-occurrences l []) in
    let seen : seen_in_pairs E (seen_in r (seen_in l [])) ≡ all_seen others us =
    pairs_seen-occurrences E (seen_in r (seen_in l []))
    ∙ ap (all_seen (pair_occurrences E)) (seen-occurrences r (seen_in l []) ∙ ap (all_seen (occurrences r)) (seen-occurrences l []))
    ∙ sym (all_seen-append (occurrences r) (pair_occurrences E) us) in
    let right : length both ≡ length (all_seen others us) = sym (length-numbered 0 both) ∙ ap length (b ∙ seen) in
    rw (left, right) (none_new others us ∙ list_all-same (λ v. list_any (is_variable v) us) (λ v. list_any (is_variable v) (occurrences l)) (λ v. any_all_seen v (occurrences l) []) others)
