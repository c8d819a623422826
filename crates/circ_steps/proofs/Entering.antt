-- Pairs and equations by number, one after another.
use Rattle.std.proofs.Common.{◌≡◌, ◌<◌, ◌≤◌, ◌+◌, ℕ, List, [], ◌∷◌, ◌++◌, drop, map, length, get_or, refl, ap, sym, ◌∙◌, append_assoc, append-nil}
use Rattle.std.specs.List.{AllByRecursion}
use Rattle.std.proofs.lemmas.List.{drop_all, map-append}
use Rattle.circ_term.specs.Growing.{Grows}
use Rattle.circ_term.specs.Tree.{Tree}
use Rattle.circ_term.proofs.Within.{drop_read}
use Rattle.circ_theory.specs.Theory.{Pair, pair_with, goal, goal_of}
use Rattle.circ_theory.specs.Pairs.{plain_pair}
use Rattle.circ_theory.specs.Pairs.{PairOfTerms}
use Rattle.circ_theory.specs.Goal.{Equation}
use Rattle.circ_theory.specs.Goal.{Goal}
use Rattle.circ_nodes.specs.Named.{IsNamed, tree_at}
use Rattle.circ_nodes.proofs.Located.{named_tree}
use Rattle.circ_nodes.proofs.Numbers.{named_below, named_later}
use Rattle.circ_shared.specs.declared.patterns.Pattern.{Pattern}
use Rattle.circ_shared.specs.declared.patterns.Sides.{Sides}
use Rattle.circ_shared.specs.Patterns.{pair_at, pairs_at, goal_at, IsThere, AreThere, IsPattern}
use Rattle.circ_shared.proofs.Sharing.{are_there_later, pairs_later, goals_later, patterns_later}

-- one more at the end
there_push : (nodes : List Tree) (ss : List Sides) (s : Sides) → AreThere nodes ss → IsThere nodes s → AreThere nodes (ss ++ s ∷ [])
there_push nodes [] s a h = (h, tt)
there_push nodes (x ∷ ss) s a h = (a.0, there_push nodes ss s a.1 h)

patterns_push : (nodes : List Tree) (ps : List Pattern) (p : Pattern) → AllByRecursion (IsPattern nodes) ps → IsPattern nodes p
    → AllByRecursion (IsPattern nodes) (ps ++ p ∷ [])
patterns_push nodes [] p a h = (h, tt)
patterns_push nodes (x ∷ ps) p a h = (a.0, patterns_push nodes ps p a.1 h)

-- two terms that were entered, one after the other
pub sides_there : (middle new : List Tree) (g : Grows middle new) (l r : ℕ) (t u : Tree) → IsNamed middle l t → IsNamed new r u
    → IsThere new (record { left = l; right = r }) × (pair_at new (record { left = l; right = r }) ≡ pair_with t u)
sides_there middle new g l r t u h k =
    let a = named_later middle new l t g h in (
      (named_below new l t a, named_below new r u k),
      ap (λ x. pair_with x (tree_at new r)) (named_tree new l t a) ∙ ap (pair_with t) (named_tree new r u k),
    )

-- the sides are those of the first i pairs
pub record ArePairs (ps : List PairOfTerms) (nodes : List Tree) (i : ℕ) (ss : List Sides) : Type 0 where
  pub there : AreThere nodes ss
  pub made : pairs_at nodes ss ++ map plain_pair (drop i ps) ≡ map plain_pair ps

pub pairs_none : (ps : List PairOfTerms) (nodes : List Tree) → ArePairs ps nodes 0 []
pairs_none ps nodes = record { there = tt; made = refl }

pub pairs_next : (ps : List PairOfTerms) (old new : List Tree) (g : Grows old new) (i : ℕ) (p : PairOfTerms) (ss ts : List Sides) (s : Sides) → i < length ps
    → p ≡ get_or ps i p → IsThere new s → pair_at new s ≡ plain_pair p → ts ≡ ss ++ s ∷ [] → ArePairs ps old i ss → ArePairs ps new (i + 1) ts
pairs_next ps old new g i p ss ts s b read there same put m =
    let rest : List Pair = map plain_pair (drop (i + 1) ps) in
    record {
      there = rw put (there_push new ss s (are_there_later old new g ss m.there) there);
      made =
          ap (λ xs. pairs_at new xs ++ rest) put ∙ ap (λ xs. xs ++ rest) (map-append (pair_at new) ss (s ∷ []))
          ∙ append_assoc (pairs_at new ss) (pair_at new s ∷ []) rest ∙ ap (λ x. pairs_at new ss ++ x ∷ rest) same
          ∙ ap (λ xs. xs ++ plain_pair p ∷ rest) (pairs_later old new g ss m.there)
          ∙ ap (λ xs. pairs_at old ss ++ map plain_pair xs) (sym (drop_read ps i p b read)) ∙ m.made;
    }

pub pairs_all : (ps : List PairOfTerms) (nodes : List Tree) (i : ℕ) (ss : List Sides) → length ps ≤ i → ArePairs ps nodes i ss
    → pairs_at nodes ss ≡ map plain_pair ps
pairs_all ps nodes i ss h m =
    sym (append-nil (pairs_at nodes ss)) ∙ ap (λ xs. pairs_at nodes ss ++ map plain_pair xs) (sym (drop_all i ps h)) ∙ m.made

-- the patterns are those of the first i equations
pub record AreEquations (es : List Equation) (nodes : List Tree) (i : ℕ) (ps : List Pattern) : Type 0 where
  pub patterns : AllByRecursion (IsPattern nodes) ps
  pub made : map (goal_at nodes) ps ++ map goal_of (drop i es) ≡ map goal_of es

pub equations_none : (es : List Equation) (nodes : List Tree) → AreEquations es nodes 0 []
equations_none es nodes = record { patterns = tt; made = refl }

pub equations_next : (es : List Equation) (old new : List Tree) (g : Grows old new) (i : ℕ) (e : Equation) (ps qs : List Pattern) (p : Pattern) → i < length es
    → e ≡ get_or es i e → IsPattern new p → goal_at new p ≡ goal_of e → qs ≡ ps ++ p ∷ [] → AreEquations es old i ps → AreEquations es new (i + 1) qs
equations_next es old new g i e ps qs p b read there same put m =
    let rest : List Goal = map goal_of (drop (i + 1) es) in
    record {
      patterns = rw put (patterns_push new ps p (patterns_later old new g ps m.patterns) there);
      made =
          ap (λ xs. map (goal_at new) xs ++ rest) put ∙ ap (λ xs. xs ++ rest) (map-append (goal_at new) ps (p ∷ []))
          ∙ append_assoc (map (goal_at new) ps) (goal_at new p ∷ []) rest ∙ ap (λ x. map (goal_at new) ps ++ x ∷ rest) same
          ∙ ap (λ xs. xs ++ goal_of e ∷ rest) (goals_later old new g ps m.patterns)
          ∙ ap (λ xs. map (goal_at old) ps ++ map goal_of xs) (sym (drop_read es i e b read)) ∙ m.made;
    }

pub equations_all : (es : List Equation) (nodes : List Tree) (i : ℕ) (ps : List Pattern) → length es ≤ i → AreEquations es nodes i ps
    → map (goal_at nodes) ps ≡ map goal_of es
equations_all es nodes i ps h m =
    sym (append-nil (map (goal_at nodes) ps)) ∙ ap (λ xs. map (goal_at nodes) ps ++ map goal_of xs) (sym (drop_all i es h)) ∙ m.made

-- the equation by number is the equation
pub equation_seen : (first last : List Tree) (g : Grows first last) (p : Pattern) (E : List Sides) (s : Sides) (F : List Pair) (t u : Tree)
    → AreThere first E → pairs_at first E ≡ F → IsThere last s → pair_at last s ≡ pair_with t u → p.conds.items ≡ E → p.sides ≡ s
    → goal_at last p ≡ goal F t u
equation_seen first last g p E s F t u there conds here same e f =
    ap (λ ss. goal (pairs_at last ss) (tree_at last p.sides.left) (tree_at last p.sides.right)) e
    ∙ ap (λ ps. goal ps (tree_at last p.sides.left) (tree_at last p.sides.right)) (pairs_later first last g E there ∙ conds)
    ∙ ap (λ x. goal F (tree_at last x.left) (tree_at last x.right)) f ∙ ap (λ q. goal F q.left q.right) same
