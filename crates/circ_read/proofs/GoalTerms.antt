-- Goals as the terms that were read for them.
use Rattle.std.proofs.Common.{◌≡◌, ◌≤◌, ◌<◌, ◌+◌, ◌++◌, ℕ, List, [], ◌∷◌, map, drop, length, get_or, Some, refl, sym, ap, ◌∙◌, subst, arith, append-nil}
use Rattle.std.proofs.lemmas.List.{drop_more, length-drop}
use Rattle.std.specs.List.{AllByRecursion}
use Rattle.circ_term.specs.Tree.{Tree}
use Rattle.circ_lexer.specs.TokenList.{TokenList, tokens_in, IsWithin}
use Rattle.circ_theory.specs.Goal.{Goal}
use Rattle.circ_theory.specs.Theory.{Theory, Pair, pair_with, goal, AreWellSortedPairs}
use Rattle.circ_theory.specs.Signature.{Signature}
use Rattle.circ_theory.specs.Variables.{IsInOrder, AreNumberedFrom, seen_in_pairs}
use Rattle.circ_mixfix.specs.Named.{Named, numbered, place_from, seen_in_list}
use Rattle.circ_mixfix.specs.Readings.{SpellTwos}
use Rattle.circ_mixfix.specs.Found.{sides_of_pairs, pairs_of, AreTwosSorted, AreTwosInOrder}
use Rattle.circ_mixfix.specs.Answers.{lists_in}
use Rattle.circ_statement.specs.declared.statements.Sides.{Sides}
use Rattle.circ_statement.specs.Said.{SaidSides, sides_of}
use Rattle.circ_read.specs.Adding.{condition_lists, equation_lists, ReadsEquation, goal_terms}
use Rattle.circ_read.specs.Outcomes.{goal_of_terms}
use Rattle.circ_read.specs.Steps.{condition_spans}

pub pairs_back : (ps : List Pair) → pairs_of (sides_of_pairs ps) ≡ ps
pairs_back [] = refl
pairs_back (p ∷ ps) = ap (λ z. p ∷ z) (pairs_back ps)

-- a goal is given back by its terms
pub goal_back : (g : Goal) → goal_of_terms (goal_terms g) ≡ Some g
goal_back g = ap (λ z. Some (goal z g.left g.right)) (pairs_back g.conds)

pub same_goal : (g h : Goal) → goal_terms g ≡ goal_terms h → g ≡ h
same_goal g h e = let z : Some g ≡ Some h = sym (goal_back g) ∙ ap goal_of_terms e ∙ goal_back h in cc z

-- what token lists in twos read as is in twos
module _ (th : Theory) where
  in_twos : (lists : List (List (List ℕ))) (qs : List Named) (ν : List ℕ → ℕ → ℕ) → SpellTwos th.signature th.variables lists qs
      → sides_of_pairs (pairs_of (map (numbered ν) qs)) ≡ map (numbered ν) qs
  in_twos [] [] ν h = refl
  in_twos [] (q ∷ qs) ν h = absurd h
  in_twos (l ∷ []) qs ν h = absurd h
  in_twos (l ∷ r ∷ lists) [] ν h = absurd h
  in_twos (l ∷ r ∷ lists) (q ∷ []) ν h = absurd h
  in_twos (l ∷ r ∷ lists) (q ∷ u ∷ qs) ν h = ap (λ z. numbered ν q ∷ numbered ν u ∷ z) (in_twos lists qs ν h.1)

  -- an equation's terms are those of a goal
  pub goal_read : (left right : List (List ℕ)) (conds : List SaidSides) (ts : List Tree) → ReadsEquation th (equation_lists left right conds) ts
      → (g : Goal) × (ts ≡ goal_terms g) × (goal_of_terms ts ≡ Some g)
  goal_read left right conds ts r = go r.spelled r.spells r.are
    where
      go : (qs : List Named) → SpellTwos th.signature th.variables (equation_lists left right conds) qs → ts ≡ map (numbered (place_from 0 (seen_in_list qs []))) qs
          → (g : Goal) × (ts ≡ goal_terms g) × (goal_of_terms ts ≡ Some g)
      go [] h e = absurd h
      go (q ∷ []) h e = absurd h
      go (q ∷ u ∷ qs) h e =
          let ν = place_from 0 (seen_in_list (q ∷ u ∷ qs) []) in
          let cs = pairs_of (map (numbered ν) qs) in
          (goal cs (numbered ν q) (numbered ν u), e ∙ ap (λ z. numbered ν q ∷ numbered ν u ∷ z) (sym (in_twos (condition_lists conds) qs ν h.1)), ap goal_of_terms e)

-- the spans of conditions
pub condition_tokens : (ts : TokenList) (conds : List Sides) → lists_in ts (condition_spans conds) ≡ condition_lists (map (sides_of ts) conds)
condition_tokens ts [] = refl
condition_tokens ts (s ∷ conds) = ap (λ z. tokens_in ts s.left ∷ tokens_in ts s.right ∷ z) (condition_tokens ts conds)

pub conditions_within : (ts : TokenList) (conds : List Sides) → AllByRecursion (λ s. IsWithin ts s.left × IsWithin ts s.right) conds → AllByRecursion (IsWithin ts) (condition_spans conds)
conditions_within ts [] h = tt
conditions_within ts (s ∷ conds) h = (h.0.0, (h.0.1, conditions_within ts conds h.1))

-- what terms in twos are, as a goal
module _ (ts : List Tree) (g : Goal) (is : goal_of_terms ts ≡ Some g) where
  abbrev As : (List Pair → Type 0) → Type 0
  As P = P (pair_with g.left g.right ∷ g.conds)

  as_goal : (P : List Pair → Type 0) (ps : List Pair) → ts ≡ sides_of_pairs ps → P ps → As P
  as_goal P [] e h = absurd (let z = sym is ∙ ap goal_of_terms e in cc z)
  as_goal P (p ∷ ps) e h =
      let z : Some g ≡ Some (goal ps p.left p.right) = sym is ∙ ap goal_of_terms e ∙ ap (λ cs. Some (goal cs p.left p.right)) (pairs_back ps) in
      let f : goal ps p.left p.right ≡ g = cc z in
      subst (λ k. P (pair_with k.left k.right ∷ k.conds)) f h

  pub terms_sorted : (sig : Signature) → AreTwosSorted sig ts → AreWellSortedPairs sig (pair_with g.left g.right ∷ g.conds)
  terms_sorted sig h = as_goal (AreWellSortedPairs sig) h.0 h.1 h.2

  pub terms_in_order : AreTwosInOrder ts → IsInOrder g
  terms_in_order h = as_goal (λ ps. AreNumberedFrom 0 (seen_in_pairs ps [])) h.0 h.1 h.2

-- fewer than two terms are no pair
pub no_pairs : (ts : List Tree) → length ts < 2 → pairs_of ts ≡ []
no_pairs [] l = refl
no_pairs (t ∷ []) l = refl
no_pairs (t ∷ u ∷ ts) l = absurd (omega arith)

pub pairs_more : (ts : List Tree) (i : ℕ) (d : Tree) → i + 2 ≤ length ts → pairs_of (drop i ts) ≡ pair_with (get_or ts i d) (get_or ts (i + 1) d) ∷ pairs_of (drop (i + 2) ts)
pairs_more ts i d l =
    let e : i + 1 + 1 ≡ i + 2 = omega arith in
    ap pairs_of (drop_more ts i d (omega arith) ∙ ap (λ z. get_or ts i d ∷ z) (drop_more ts (i + 1) d (omega arith) ∙ ap (λ n. get_or ts (i + 1) d ∷ drop n ts) e))

-- all but fewer than two terms were taken
pub pairs_all : (ts : List Tree) (i : ℕ) (ps : List Pair) → length ts < i + 2 → ps ++ pairs_of (drop i ts) ≡ pairs_of ts → ps ≡ pairs_of ts
pairs_all ts i ps l e =
    let n = length-drop i ts in
    sym (append-nil ps) ∙ ap (λ z. ps ++ z) (sym (no_pairs (drop i ts) (omega arith))) ∙ e
