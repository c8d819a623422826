-- Whether a goal's right side or a condition has a variable that the left side lacks.
use Rattle.std.proofs.Common.{◌≡◌, Bool, ◌==◌, ◌&&◌, List, [], ◌∷◌, ◌++◌, length, map, refl, ap, sym, ◌∙◌}
use Rattle.std.specs.List.{list_any, list_all}
use Rattle.std.proofs.lemmas.List.{length-map}
use Rattle.circ_term.specs.Tree.{Tree}
use Rattle.circ_theory.specs.Theory.{Pair, goal}
use Rattle.circ_theory.specs.Rule.{is_bound}
use Rattle.circ_theory.specs.Variables.{Variable, is_variable, seen, seen_in, seen_in_pairs, occurrences, pair_occurrences}
use Rattle.circ_theory.proofs.Ruling.{all_seen, seen-occurrences, none_new}
use Rattle.circ_rewrite.proofs.RuleTerms.{any_seen_in}

all_same : {X : Type 0} (p q : X → Bool) → ((x : X) → p x ≡ q x) → (xs : List X) → list_all p xs ≡ list_all q xs
all_same p q h [] = refl
all_same p q h (x ∷ xs) = λ i. h x i && all_same p q h xs i

both_seen : (vs ws us : List Variable) → all_seen (vs ++ ws) us ≡ all_seen ws (all_seen vs us)
both_seen [] ws us = refl
both_seen (v ∷ vs) ws us = both_seen vs ws (seen v us)

-- what is seen in pairs are their occurrences
pairs_seen : (ps : List Pair) (us : List Variable) → seen_in_pairs ps us ≡ all_seen (pair_occurrences ps) us
pairs_seen [] us = refl
pairs_seen (p ∷ ps) us =
    pairs_seen ps (seen_in p.right (seen_in p.left us))
    ∙ ap (all_seen (pair_occurrences ps)) (seen-occurrences p.right (seen_in p.left us) ∙ ap (all_seen (occurrences p.right)) (seen-occurrences p.left us))
    ∙ sym (both_seen (occurrences p.right) (pair_occurrences ps) (all_seen (occurrences p.left) us))
    ∙ sym (both_seen (occurrences p.left) (occurrences p.right ++ pair_occurrences ps) us)

-- the variables of the left side are as many as all of them where the right side and the conditions add none
pub bound_told : {X : Type 0} (f : X → Variable) (l r : Tree) (E : List Pair) (us ws : List X) → map f us ≡ seen_in l []
    → map f ws ≡ seen_in_pairs E (seen_in r (map f us)) → (length ws == length us) ≡ is_bound (goal E l r)
bound_told f l r E us ws a b =
    let vs : List Variable = map f us in
    let others : List Variable = occurrences r ++ pair_occurrences E in
    let left : length us ≡ length vs = sym (length-map us f) in
    let all : map f ws ≡ all_seen others vs =
    b ∙ pairs_seen E (seen_in r vs) ∙ ap (all_seen (pair_occurrences E)) (seen-occurrences r vs) ∙ sym (both_seen (occurrences r) (pair_occurrences E) vs) in
    let right : length ws ≡ length (all_seen others vs) = sym (length-map ws f) ∙ ap length all in
    rw (left, right)
    (none_new others vs
    ∙ all_same (λ v. list_any (is_variable v) vs) (λ v. list_any (is_variable v) (occurrences l)) (λ v. ap (list_any (is_variable v)) a ∙ any_seen_in v l []) others)
