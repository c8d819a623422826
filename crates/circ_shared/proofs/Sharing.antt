-- What links are read against stays when terms are added.
use Rattle.std.proofs.Common.{◌≡◌, ◌<◌, ℕ, List, [], ◌∷◌, map, length, Option, Some, None, Result, Ok, Err, IfOk, refl, ap, sym, subst, ◌∙◌, arith}
use Rattle.std.specs.List.{AllByRecursion}
use Rattle.std.specs.Option.{IfSome}
use Rattle.circ_term.specs.Growing.{Grows}
use Rattle.circ_term.specs.Tree.{Tree}
use Rattle.circ_theory.specs.Theory.{Pair, pair_with, goal}
use Rattle.circ_theory.specs.Variables.{variables_of, sorted}
use Rattle.circ_theory.specs.Goal.{Goal}
use Rattle.circ_proof.specs.Link.{Setting, setting}
use Rattle.circ_nodes.specs.Named.{IsNamed, AreNamed, tree_at}
use Rattle.circ_nodes.proofs.Located.{named_tree, tree_later, trees_later}
use Rattle.circ_nodes.proofs.Numbers.{named_below, grows_length, are_named_later}
use Rattle.circ_shared.specs.declared.patterns.Sides.{Sides}
use Rattle.circ_shared.specs.declared.patterns.Pattern.{Pattern}
use Rattle.circ_shared.specs.declared.usage.Sources.{Sources}
use Rattle.circ_shared.specs.Interned.{OfTerm}
use Rattle.circ_shared.specs.Patterns.{variable_trees, pair_at, pairs_at, goal_at, IsThere, AreThere, IsPattern}
use Rattle.circ_shared.specs.Settings.{AreShared, setting_at, table_at}
use Rattle.circ_shared.proofs.Loops.{below_later}

-- ---- answers

pub if_of_term : {E : Type 0} (nodes : List Tree) (P Q : Option Tree → Type 0) → ((o : Option Tree) → P o → Q o) → (r : Result (Option ℕ) E)
    → IfOk r (OfTerm nodes P) → IfOk r (OfTerm nodes Q)
if_of_term nodes P Q f (Ok None) h = f None h
if_of_term nodes P Q f (Ok (Some n)) h = (h.0, f (Some (tree_at nodes n)) h.1)
if_of_term nodes P Q f (Err e) h = h

-- a number that names a term of which this holds
pub named_with : (nodes : List Tree) (n : ℕ) (t : Tree) → IsNamed nodes n t → (P : Tree → Type 0) → P t → (n < length nodes) × P (tree_at nodes n)
named_with nodes n t h P p = (named_below nodes n t h, subst P (sym (named_tree nodes n t h)) p)

pub if_some_same : {E : Type 0} (P : Type 0) → P → (r : Result (Option ℕ) E) → IfOk r (λ o. IfSome o (λ n. P))
if_some_same P p (Ok None) = tt
if_some_same P p (Ok (Some n)) = p
if_some_same P p (Err e) = tt

pub of_none : (nodes : List Tree) (P : Option Tree → Type 0) (o : Option ℕ) → o ≡ None → OfTerm nodes P o → P None
of_none nodes P o e h = subst (OfTerm nodes P) e h

pub of_some : (nodes : List Tree) (P : Option Tree → Type 0) (o : Option ℕ) (n : ℕ) → o ≡ Some n → OfTerm nodes P o → (n < length nodes) × P (Some (tree_at nodes n))
of_some nodes P o n e h = subst (OfTerm nodes P) e h

-- ---- what stays

module _ (old new : List Tree) (g : Grows old new) where
  pub term_later : (n : ℕ) → n < length old → n < length new
  term_later n h = let l = grows_length old new g in omega (arith, l, h)

  pub there_later : (s : Sides) → IsThere old s → IsThere new s
  there_later s h = (term_later s.left h.0, term_later s.right h.1)

  pub are_there_later : (ss : List Sides) → AreThere old ss → AreThere new ss
  are_there_later [] a = tt
  are_there_later (s ∷ ss) a = (there_later s a.0, are_there_later ss a.1)

  pub pair_later : (s : Sides) → IsThere old s → pair_at new s ≡ pair_at old s
  pair_later s h = ap (λ t. pair_with t (tree_at new s.right)) (tree_later old new s.left g h.0) ∙ ap (pair_with (tree_at old s.left)) (tree_later old new s.right g h.1)

  pub pairs_later : (ss : List Sides) → AreThere old ss → pairs_at new ss ≡ pairs_at old ss
  pairs_later [] a = refl
  pairs_later (s ∷ ss) a = ap (λ p. p ∷ pairs_at new ss) (pair_later s a.0) ∙ ap (λ ps. pair_at old s ∷ ps) (pairs_later ss a.1)

  pub goal_stays : (E : List Sides) (s : Sides) → AreThere old E → IsThere old s
      → goal (pairs_at new E) (tree_at new s.left) (tree_at new s.right) ≡ goal (pairs_at old E) (tree_at old s.left) (tree_at old s.right)
  goal_stays E s a h =
      ap (λ ps. goal ps (tree_at new s.left) (tree_at new s.right)) (pairs_later E a) ∙ ap (λ q. goal (pairs_at old E) q.left q.right) (pair_later s h)

  goal_later : (p : Pattern) → IsPattern old p → goal_at new p ≡ goal_at old p
  goal_later p h = goal_stays p.conds.items p.sides h.conditions h.there

  pub goals_later : (ps : List Pattern) → AllByRecursion (IsPattern old) ps → map (goal_at new) ps ≡ map (goal_at old) ps
  goals_later [] a = refl
  goals_later (p ∷ ps) a = ap (λ q. q ∷ map (goal_at new) ps) (goal_later p a.0) ∙ ap (λ qs. goal_at old p ∷ qs) (goals_later ps a.1)

  pub pattern_later : (p : Pattern) → IsPattern old p → IsPattern new p
  pattern_later p h = record {
    there = there_later p.sides h.there;
    conditions = are_there_later p.conds.items h.conditions;
    variables =
        let P : Goal → Type 0 = λ q. AreNamed new p.variables.items (variable_trees (sorted (variables_of q))) in
        subst P (sym (goal_later p h)) (are_named_later old new p.variables.items (variable_trees (sorted (variables_of (goal_at old p)))) g h.variables);
  }

  pub patterns_later : (ps : List Pattern) → AllByRecursion (IsPattern old) ps → AllByRecursion (IsPattern new) ps
  patterns_later [] a = tt
  patterns_later (p ∷ ps) a = (pattern_later p a.0, patterns_later ps a.1)

  pub shared_later : (s : Sources) → AreShared old s → AreShared new s
  shared_later s h = record {
    equations = goals_later s.equations.now h.patterns ∙ h.equations;
    patterns = patterns_later s.equations.now h.patterns;
    hypotheses = patterns_later s.hyps.now h.hypotheses;
    table = below_later old new s.table.now g h.table;
  }

  pub table_later : (s : Sources) → AreShared old s → table_at new s ≡ table_at old s
  table_later s h = trees_later old new s.table.now g h.table

  -- the setting, whatever the assumptions are
  pub hypotheses_later : (s : Sources) → AreShared old s → (A : List Pair)
      → setting s.theory.now s.gamma.now (map (goal_at new) s.hyps.now) A ≡ setting s.theory.now s.gamma.now (map (goal_at old) s.hyps.now) A
  hypotheses_later s h A = ap (λ H. setting s.theory.now s.gamma.now H A) (goals_later s.hyps.now h.hypotheses)

  pub setting_later : (s : Sources) (ss : List Sides) → AreShared old s → AreThere old ss → setting_at new s ss ≡ setting_at old s ss
  setting_later s ss h a =
      hypotheses_later s h (pairs_at new ss) ∙ ap (setting s.theory.now s.gamma.now (map (goal_at old) s.hyps.now)) (pairs_later ss a)

  -- what was read later holds of what was read before
  pub read_before : (s : Sources) (ss : List Sides) → AreShared old s → AreThere old ss → (P : Setting → List Tree → Type 0)
      → P (setting_at new s ss) (table_at new s) → P (setting_at old s ss) (table_at old s)
  read_before s ss h a P p =
      let Q : Setting → Type 0 = λ c. P c (table_at old s) in
      subst Q (setting_later s ss h a) (subst (P (setting_at new s ss)) (table_later s h) p)
