-- How the rules of a block grow as it goes on: behind those of its steps and hypotheses stand those of what is added.
use Rattle.std.proofs.Common.{◌≡◌, ℕ, ◌+◌, ◌≤◌, Bool, List, [], ◌∷◌, ◌++◌, length, drop, Option, Some, None, refl, ap, ◌∙◌, arith, length-drop}
use Rattle.std.specs.Prelude.{false, nat_lt}
use Rattle.std.proofs.lemmas.List.{drop-append-le}
use Rattle.circ_term.specs.Tree.{Tree, sort_of}
use Rattle.circ_theory.specs.Theory.{Theory}
use Rattle.circ_theory.specs.Goal.{Goal}
use Rattle.circ_proof.specs.Rules.{ProofStep, Simplify, Reduce, Derive, Cases, Done}
use Rattle.circ_plain_search.specs.Search.{constants_of}
use Rattle.circ_attempt.specs.Attempt.{derived_rules}
use Rattle.circ_attempt.specs.Following.{derives_in, script_left}
use Rattle.circ_attempt.specs.Rules.{HypothesisRule, or_no_rule, own_rule, own_rules, script_goals_left, derived_of_script, lemma_of, lemmas_of}

-- ---- steps

pub derives_append : (xs ys : List (ProofStep Tree)) → derives_in (xs ++ ys) ≡ derives_in xs + derives_in ys
derives_append [] ys = omega arith
derives_append (Simplify c ∷ xs) ys = derives_append xs ys
derives_append (Reduce w ∷ xs) ys = derives_append xs ys
derives_append (Derive ∷ xs) ys = let e = derives_append xs ys in omega (arith, e)
derives_append (Cases u ∷ xs) ys = derives_append xs ys
derives_append (Done ∷ xs) ys = derives_append xs ys

module _ (th : Theory) where
  pub left_append : (k : ℕ) (xs ys : List (ProofStep Tree)) → script_left th k (xs ++ ys) ≡ script_left th (script_left th k xs) ys
  left_append k [] ys = refl
  left_append k (Simplify c ∷ xs) ys = left_append k xs ys
  left_append k (Reduce w ∷ xs) ys = left_append (script_goals_left k 0) xs ys
  left_append k (Derive ∷ xs) ys = left_append (script_goals_left k 0) xs ys
  left_append k (Cases u ∷ xs) ys = left_append (script_goals_left k (length (constants_of th (sort_of u)))) xs ys
  left_append k (Done ∷ xs) ys = left_append k xs ys

  pub script_append : (k : ℕ) (xs ys : List (ProofStep Tree))
      → derived_of_script th k (xs ++ ys) ≡ derived_of_script th k xs ++ derived_of_script th (script_left th k xs) ys
  script_append k [] ys = refl
  script_append k (Simplify c ∷ xs) ys = script_append k xs ys
  script_append k (Reduce w ∷ xs) ys = script_append (script_goals_left k 0) xs ys
  script_append k (Derive ∷ xs) ys = ap (λ bs. nat_lt 0 k ∷ bs) (script_append (script_goals_left k 0) xs ys)
  script_append k (Cases u ∷ xs) ys = script_append (script_goals_left k (length (constants_of th (sort_of u)))) xs ys
  script_append k (Done ∷ xs) ys = script_append k xs ys

  pub script_length : (k : ℕ) (xs : List (ProofStep Tree)) → length (derived_of_script th k xs) ≡ derives_in xs
  script_length k [] = refl
  script_length k (Simplify c ∷ xs) = script_length k xs
  script_length k (Reduce w ∷ xs) = script_length (script_goals_left k 0) xs
  script_length k (Derive ∷ xs) = let e = script_length (script_goals_left k 0) xs in omega (arith, e)
  script_length k (Cases u ∷ xs) = script_length (script_goals_left k (length (constants_of th (sort_of u)))) xs
  script_length k (Done ∷ xs) = script_length k xs

-- ---- rules

no_rule_append : (o : Option HypothesisRule) (xs ys : List HypothesisRule) → or_no_rule o (xs ++ ys) ≡ or_no_rule o xs ++ ys
no_rule_append None xs ys = refl
no_rule_append (Some r) xs ys = refl

pub own_append : (n : ℕ) (bs cs : List Bool) (hs gs : List Goal) → length bs ≡ length hs
    → own_rules n (bs ++ cs) (hs ++ gs) ≡ own_rules n bs hs ++ own_rules (n + length hs) cs gs
own_append n [] cs [] gs e = ap (λ m. own_rules m cs gs) (let z : n ≡ n + 0 = omega arith in z)
own_append n [] cs (h ∷ hs) gs e = absurd (omega (arith, e))
own_append n (b ∷ bs) cs [] gs e = absurd (omega (arith, e))
own_append n (b ∷ bs) cs (h ∷ hs) gs e =
    let o = own_rule n b h in
    let next : n + 1 + length hs ≡ n + length (h ∷ hs) = omega arith in
    ap (or_no_rule o) (own_append (n + 1) bs cs hs gs (omega (arith, e))) ∙ no_rule_append o (own_rules (n + 1) bs hs) (own_rules (n + 1 + length hs) cs gs)
    ∙ ap (λ m. or_no_rule o (own_rules (n + 1) bs hs) ++ own_rules m cs gs) next

pub derived_append : (E H gs : List Goal) (bs cs : List Bool) → length E ≤ length H → length bs ≡ length (drop (length E) H)
    → derived_rules E (H ++ gs) (bs ++ cs) ≡ derived_rules E H bs ++ own_rules (length H) cs gs
derived_append E H gs bs cs long e =
    let k : ℕ = length E in
    let rest = length-drop k H in
    let all : k + length (drop k H) ≡ length H = omega (arith, rest, long) in
    ap (own_rules k (bs ++ cs)) (drop-append-le k H gs long) ∙ own_append k bs cs (drop k H) gs e ∙ ap (λ m. own_rules k bs (drop k H) ++ own_rules m cs gs) all

pub lemmas_append : (th : Theory) (n : ℕ) (xs ys : List Goal) → lemmas_of th n (xs ++ ys) ≡ lemmas_of th n xs ++ lemmas_of th (n + length xs) ys
lemmas_append th n [] ys = ap (λ m. lemmas_of th m ys) (let z : n ≡ n + 0 = omega arith in z)
lemmas_append th n (x ∷ xs) ys =
    let o = lemma_of th n x in
    let next : n + 1 + length xs ≡ n + length (x ∷ xs) = omega arith in
    ap (or_no_rule o) (lemmas_append th (n + 1) xs ys) ∙ no_rule_append o (lemmas_of th (n + 1) xs) (lemmas_of th (n + 1 + length xs) ys)
    ∙ ap (λ m. or_no_rule o (lemmas_of th (n + 1) xs) ++ lemmas_of th m ys) next

-- ---- there are no more rules than hypotheses

no_rule_few : (o : Option HypothesisRule) (xs : List HypothesisRule) → length (or_no_rule o xs) ≤ length xs + 1
no_rule_few None xs = omega arith
no_rule_few (Some r) xs = omega arith

own_few : (n : ℕ) (bs : List Bool) (hs : List Goal) → length (own_rules n bs hs) ≤ length hs
own_few n bs [] = omega arith
own_few n [] (h ∷ hs) = let o = own_rule n false h in omega (arith, no_rule_few o (own_rules (n + 1) [] hs), own_few (n + 1) [] hs)
own_few n (b ∷ bs) (h ∷ hs) = let o = own_rule n b h in omega (arith, no_rule_few o (own_rules (n + 1) bs hs), own_few (n + 1) bs hs)

pub derived_few : (E H : List Goal) (bs : List Bool) → length (derived_rules E H bs) ≤ length H
derived_few E H bs = omega (arith, own_few (length E) bs (drop (length E) H), length-drop (length E) H)

pub lemmas_few : (th : Theory) (n : ℕ) (gs : List Goal) → length (lemmas_of th n gs) ≤ length gs
lemmas_few th n [] = omega arith
lemmas_few th n (g ∷ gs) = let o = lemma_of th n g in omega (arith, no_rule_few o (lemmas_of th (n + 1) gs), lemmas_few th (n + 1) gs)
