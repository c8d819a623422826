-- Goals by the numbers of a table, one after another.
use Rattle.std.proofs.Common.{◌≡◌, ◌<◌, ◌≤◌, ◌+◌, ℕ, zero, suc, List, [], ◌∷◌, ◌++◌, drop, map, length, get_or, slice_index_or}
use Rattle.std.proofs.Common.{Result, Ok, Err, IfOk, refl, ap, sym, subst, ◌∙◌, arith, append_assoc, append-nil}
use Rattle.std.specs.List.{AllByRecursion}
use Rattle.std.proofs.lemmas.List.{drop_all, map-append}
use Rattle.circ_term.specs.Growing.{Grows}
use Rattle.circ_term.specs.Tree.{Tree}
use Rattle.circ_term.proofs.Within.{drop_read}
use Rattle.circ_theory.specs.Theory.{Pair, pair_with, goal}
use Rattle.circ_theory.specs.Rewriting.{named}
use Rattle.circ_theory.specs.Goal.{Goal}
use Rattle.circ_proof.specs.Proof.{GoalNames, goal_at as named_goal, pair_at as named_pair}
use Rattle.circ_proof.specs.PlainProof.{plain_names}
use Rattle.circ_proof.specs.declared.proof.GoalNames.{GoalNames as TheNames}
use Rattle.circ_nodes.specs.Named.{tree_at}
use Rattle.circ_shared.specs.Patterns.{pairs_at, goal_at, IsThere, AreThere, IsPattern}
use Rattle.circ_shared.specs.declared.patterns.Pattern.{Pattern}
use Rattle.circ_shared.specs.declared.patterns.Sides.{Sides}
use Rattle.circ_shared.proofs.Giving.{named_in}
use Rattle.circ_shared.proofs.Sharing.{goals_later, patterns_later}
use Rattle.circ_steps.specs.States.{shared_goal, shared_goals, IsGoalThere}
use Rattle.circ_steps.specs.declared.states.SharedGoal.{SharedGoal}
use Rattle.circ_steps.proofs.Staying.{shared_goal_later, shared_goals_later, goals_there_later}
use Rattle.circ_check.specs.Naming.{IsNameWithin}
use Rattle.circ_check.proofs.Numbered.{all_both}

-- what holds of all holds of the one at a place
pub all_read : {X Y : Type 0} (f : X → Y) (P : Y → Type 0) (xs : List X) (i : ℕ) (x : X) → AllByRecursion P (map f xs) → i < length xs → x ≡ get_or xs i x → P (f x)
all_read f P [] i x a h e = absurd (omega (arith, h))
all_read f P (y ∷ ys) zero x a h e = subst (λ z. P (f z)) (sym e) a.0
all_read f P (y ∷ ys) (suc i) x a h e = all_read f P ys i x a.1 (omega (arith, h)) e

pub all_at : {X : Type 0} (P : X → Type 0) (xs : List X) (i : ℕ) (x : X) → AllByRecursion P xs → i < length xs → x ≡ get_or xs i x → P x
all_at P [] i x a h e = absurd (omega (arith, h))
all_at P (y ∷ ys) zero x a h e = subst P (sym e) a.0
all_at P (y ∷ ys) (suc i) x a h e = all_at P ys i x a.1 (omega (arith, h)) e

pub read_at : {X : Type 0} (xs : List X) (i : ℕ) (d : X) → i < length xs → get_or xs i d ≡ get_or xs i (get_or xs i d)
read_at [] i d h = absurd (omega (arith, h))
read_at (y ∷ ys) zero d h = refl
read_at (y ∷ ys) (suc i) d h = read_at ys i d (omega (arith, h))

-- the number at a place of a table is there
pub table_read : (count : ℕ) (table : List ℕ) (n : ℕ) → AllByRecursion (λ m. m < count) table → n < length table → slice_index_or table n 0 < count
table_read count [] n a h = absurd (omega (arith, h))
table_read count (x ∷ table) zero a h = a.0
table_read count (x ∷ table) (suc n) a h = table_read count table n a.1 (omega (arith, h))

-- ---- conditions

-- the sides by these names
abbrev pub sides_at : (table : List ℕ) → ℕ × ℕ → Sides
sides_at table n = record { left = slice_index_or table n.0 0; right = slice_index_or table n.1 0 }

-- the first i
pub record AreConditions (table : List ℕ) (names : List (ℕ × ℕ)) (i : ℕ) (ss : List Sides) : Type 0 where
  pub there : (nodes : List Tree) → AllByRecursion (λ n. n < length nodes) table → AreThere nodes ss
  pub seen : (nodes : List Tree) → pairs_at nodes ss ++ map (named_pair (map (tree_at nodes) table)) (drop i names)
      ≡ map (named_pair (map (tree_at nodes) table)) names

pub conditions_none : (table : List ℕ) (names : List (ℕ × ℕ)) → AreConditions table names 0 []
conditions_none table names = record { there = λ nodes a. tt; seen = λ nodes. refl }

pub conditions_next : (table : List ℕ) (names : List (ℕ × ℕ)) (i : ℕ) (n : ℕ × ℕ) (ss ts : List Sides) → i < length names → n ≡ get_or names i n
    → AllByRecursion (λ c. (c.0 < length table) × (c.1 < length table)) names → ts ≡ ss ++ sides_at table n ∷ [] → AreConditions table names i ss
    → AreConditions table names (i + 1) ts
conditions_next table names i n ss ts h read within put a =
    let here = all_at (λ c. (c.0 < length table) × (c.1 < length table)) names i n within h read in
    record {
      there = λ nodes t.
          subst (AreThere nodes) (sym put) (all_both (IsThere nodes) ss (sides_at table n ∷ []) (a.there nodes t)
          ((table_read (length nodes) table n.0 t here.0, table_read (length nodes) table n.1 t here.1), tt));
      seen = λ nodes.
          let terms = map (tree_at nodes) table in
          let rest : List Pair = map (named_pair terms) (drop (i + 1) names) in
          let one : pair_with (tree_at nodes (slice_index_or table n.0 0)) (tree_at nodes (slice_index_or table n.1 0)) ≡ named_pair terms n =
          ap (λ t. pair_with t (tree_at nodes (slice_index_or table n.1 0))) (sym (named_in nodes table n.0 here.0))
          ∙ ap (pair_with (named terms n.0)) (sym (named_in nodes table n.1 here.1)) in
          ap (λ xs. pairs_at nodes xs ++ rest) put ∙ ap (λ xs. xs ++ rest) (map-append _ ss (sides_at table n ∷ []))
          ∙ append_assoc (pairs_at nodes ss) (_ ∷ []) rest ∙ ap (λ x. pairs_at nodes ss ++ x ∷ rest) one
          ∙ ap (λ xs. pairs_at nodes ss ++ map (named_pair terms) xs) (sym (drop_read names i n h read)) ∙ a.seen nodes;
    }

pub conditions_all : (table : List ℕ) (names : List (ℕ × ℕ)) (i : ℕ) (ss : List Sides) → length names ≤ i → AreConditions table names i ss → (nodes : List Tree)
    → pairs_at nodes ss ≡ map (named_pair (map (tree_at nodes) table)) names
conditions_all table names i ss h a nodes =
    sym (append-nil (pairs_at nodes ss)) ∙ ap (λ xs. pairs_at nodes ss ++ map (named_pair (map (tree_at nodes) table)) xs) (sym (drop_all i names h)) ∙ a.seen nodes

-- a goal of its conditions and its sides
pub goal_named : (nodes : List Tree) (table : List ℕ) (n : GoalNames) (ps : List Pair) → IsNameWithin (length table) n
    → ps ≡ map (named_pair (map (tree_at nodes) table)) n.conds
    → goal ps (tree_at nodes (slice_index_or table n.left 0)) (tree_at nodes (slice_index_or table n.right 0)) ≡ named_goal (map (tree_at nodes) table) n
goal_named nodes table n ps h e =
    let terms = map (tree_at nodes) table in
    ap (λ x. goal x (tree_at nodes (slice_index_or table n.left 0)) (tree_at nodes (slice_index_or table n.right 0))) e
    ∙ ap (λ t. goal (map (named_pair terms) n.conds) t (tree_at nodes (slice_index_or table n.right 0))) (sym (named_in nodes table n.left h.left))
    ∙ ap (goal (map (named_pair terms) n.conds) (named terms n.left)) (sym (named_in nodes table n.right h.right))

pub goal_there : (nodes : List Tree) (table : List ℕ) (n : GoalNames) (x : SharedGoal) → IsNameWithin (length table) n
    → AllByRecursion (λ m. m < length nodes) table → AreThere nodes x.conds.items → x.sides ≡ sides_at table (n.left, n.right) → IsGoalThere nodes x
goal_there nodes table n x h t conds sides = record {
  conditions = conds;
  sides = subst (IsThere nodes) (sym sides) (table_read (length nodes) table n.left t h.left, table_read (length nodes) table n.right t h.right);
}

-- ---- goals

-- the first i of the goals with these names, as goals and as patterns
pub record AreGoals (terms : List Tree) (names : List TheNames) (nodes : List Tree) (i : ℕ) (goals : List SharedGoal) (own : List Pattern) : Type 0 where
  pub there : AllByRecursion (IsGoalThere nodes) goals
  pub seen : shared_goals nodes goals ++ map (named_goal terms) (map plain_names (drop i names)) ≡ map (named_goal terms) (map plain_names names)
  pub patterns : AllByRecursion (IsPattern nodes) own
  pub owned : map (goal_at nodes) own ++ map (named_goal terms) (map plain_names (drop i names)) ≡ map (named_goal terms) (map plain_names names)

pub goals_none : (terms : List Tree) (names : List TheNames) (nodes : List Tree) (goals : List SharedGoal) (own : List Pattern) → goals ≡ [] → own ≡ []
    → AreGoals terms names nodes 0 goals own
goals_none terms names nodes goals own e f = record { there = rw e tt; seen = rw e refl; patterns = rw f tt; owned = rw f refl }

-- one more behind the others
one_more : {X Y : Type 0} (f : X → Y) (g : TheNames → Y) (names : List TheNames) (i : ℕ) (n : TheNames) (xs ys : List X) (x : X) (front : List Y)
    → i < length names → n ≡ get_or names i n → f x ≡ g n → ys ≡ xs ++ x ∷ [] → map f xs ≡ front → front ++ map g (drop i names) ≡ map g names
    → map f ys ++ map g (drop (i + 1) names) ≡ map g names
one_more f g names i n xs ys x front h read same put are made =
    let rest = map g (drop (i + 1) names) in
    ap (λ zs. map f zs ++ rest) put ∙ ap (λ zs. zs ++ rest) (map-append f xs (x ∷ [])) ∙ append_assoc (map f xs) (f x ∷ []) rest
    ∙ ap (λ y. map f xs ++ y ∷ rest) same ∙ ap (λ zs. zs ++ g n ∷ rest) are ∙ ap (λ zs. front ++ map g zs) (sym (drop_read names i n h read)) ∙ made

map_map : {X Y Z : Type 0} (f : X → Y) (g : Y → Z) (xs : List X) → map g (map f xs) ≡ map (λ x. g (f x)) xs
map_map f g [] = refl
map_map f g (x ∷ xs) = ap (λ zs. g (f x) ∷ zs) (map_map f g xs)

pub goals_next : (terms : List Tree) (names : List TheNames) (old new : List Tree) (k : Grows old new) (i : ℕ) (n : TheNames) (gs hs : List SharedGoal) (ps qs : List Pattern)
    (x : SharedGoal) (p : Pattern) → i < length names → n ≡ get_or names i n → IsGoalThere new x → shared_goal new x ≡ named_goal terms (plain_names n) → IsPattern new p
    → goal_at new p ≡ named_goal terms (plain_names n) → hs ≡ gs ++ x ∷ [] → qs ≡ ps ++ p ∷ [] → AreGoals terms names old i gs ps → AreGoals terms names new (i + 1) hs qs
goals_next terms names old new k i n gs hs ps qs x p h read there seen pattern owned put own a =
    let g : TheNames → Goal = λ m. named_goal terms (plain_names m) in
    let all : map (named_goal terms) (map plain_names names) ≡ map g names = map_map plain_names (named_goal terms) names in
    let here : map (named_goal terms) (map plain_names (drop i names)) ≡ map g (drop i names) = map_map plain_names (named_goal terms) (drop i names) in
    let next : map (named_goal terms) (map plain_names (drop (i + 1) names)) ≡ map g (drop (i + 1) names) = map_map plain_names (named_goal terms) (drop (i + 1) names) in
    record {
      there = subst (AllByRecursion (IsGoalThere new)) (sym put) (all_both (IsGoalThere new) gs (x ∷ []) (goals_there_later old new k gs a.there) (there, tt));
      seen =
          ap (λ zs. shared_goals new hs ++ zs) next
          ∙ one_more (shared_goal new) g names i n gs hs x (shared_goals old gs) h read seen put (shared_goals_later old new k gs a.there)
          (ap (λ zs. shared_goals old gs ++ zs) (sym here) ∙ a.seen ∙ all)
          ∙ sym all;
      patterns = subst (AllByRecursion (IsPattern new)) (sym own) (all_both (IsPattern new) ps (p ∷ []) (patterns_later old new k ps a.patterns) (pattern, tt));
      owned =
          ap (λ zs. map (goal_at new) qs ++ zs) next
          ∙ one_more (goal_at new) g names i n ps qs p (map (goal_at old) ps) h read owned own (goals_later old new k ps a.patterns)
          (ap (λ zs. map (goal_at old) ps ++ zs) (sym here) ∙ a.owned ∙ all)
          ∙ sym all;
    }

pub goals_all : (terms : List Tree) (names : List TheNames) (nodes : List Tree) (i : ℕ) (gs : List SharedGoal) (ps : List Pattern) → length names ≤ i
    → AreGoals terms names nodes i gs ps
    → (shared_goals nodes gs ≡ map (named_goal terms) (map plain_names names)) × (map (goal_at nodes) ps ≡ map (named_goal terms) (map plain_names names))
goals_all terms names nodes i gs ps h a =
    let none = sym (drop_all i names h) in (
      sym (append-nil (shared_goals nodes gs)) ∙ ap (λ xs. shared_goals nodes gs ++ map (named_goal terms) (map plain_names xs)) none ∙ a.seen,
      sym (append-nil (map (goal_at nodes) ps)) ∙ ap (λ xs. map (goal_at nodes) ps ++ map (named_goal terms) (map plain_names xs)) none ∙ a.owned,
    )

-- ---- a goal as a pattern

pub pattern_seen : {E : Type 0} (old new : List Tree) (k : Grows old new) (x : SharedGoal) → IsGoalThere old x → (r : Result Pattern E) (conds : List Sides)
    → conds ≡ x.conds.items → IfOk r (λ p. p.conds.items ≡ conds) → IfOk r (λ p. p.sides ≡ x.sides) → IfOk r (λ p. goal_at new p ≡ shared_goal old x)
pattern_seen old new k x h (Ok p) conds e f g =
    ap (λ ss. goal (pairs_at new ss) (tree_at new p.sides.left) (tree_at new p.sides.right)) (f ∙ e)
    ∙ ap (λ s. goal (pairs_at new x.conds.items) (tree_at new s.left) (tree_at new s.right)) g
    ∙ shared_goal_later old new k x h
pattern_seen old new k x h (Err z) conds e f g = tt
