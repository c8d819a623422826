-- What gets numbers, one after another.
use Rattle.std.proofs.Common.{◌≡◌, ◌<◌, ◌≤◌, ◌+◌, ℕ, zero, suc, List, [], ◌∷◌, ◌++◌, drop, map, length, get_or, Result, Ok, Err, IfOk, refl, ap, sym, subst, ◌∙◌, arith, append_assoc, append-nil}
use Rattle.std.specs.List.{AllByRecursion}
use Rattle.std.proofs.lemmas.List.{drop_all, map-append}
use Rattle.circ_term.specs.Growing.{Grows}
use Rattle.circ_term.specs.Tree.{Tree}
use Rattle.circ_term.proofs.Within.{drop_read}
use Rattle.circ_theory.specs.Theory.{Pair, goal}
use Rattle.circ_theory.specs.Goal.{Goal}
use Rattle.circ_theory.specs.Pairs.{plain_pair, PairOfTerms}
use Rattle.circ_nodes.specs.Named.{IsNamed, tree_at}
use Rattle.circ_nodes.proofs.Located.{tree_later, named_tree}
use Rattle.circ_nodes.proofs.Numbers.{grows_more, named_later, named_below}
use Rattle.circ_shared.specs.Patterns.{pair_at, pairs_at, goal_at, AreThere, IsPattern}
use Rattle.circ_shared.specs.declared.patterns.Pattern.{Pattern}
use Rattle.circ_shared.specs.declared.patterns.Sides.{Sides}
use Rattle.circ_shared.proofs.Sharing.{term_later, are_there_later, pairs_later, goals_later, patterns_later}
use Rattle.circ_steps.specs.States.{shared_goal, IsGoalThere}
use Rattle.circ_steps.specs.declared.states.SharedGoal.{SharedGoal}
use Rattle.circ_steps.proofs.Staying.{shared_goal_later, goal_there_later}

module _ {X Y : Type 0} (Is : List Tree → X → Type 0) (view : List Tree → X → Y) where
  -- the first i are entered, behind those that were there
  pub record AreEntered (whole ys : List Y) (nodes : List Tree) (i : ℕ) (xs : List X) : Type 0 where
    pub there : AllByRecursion (Is nodes) xs
    pub seen : map (view nodes) xs ++ drop i ys ≡ whole

  -- what is entered stays when terms are added
  abbrev pub Stays : Type 0
  Stays = (old new : List Tree) → Grows old new → (x : X) → Is old x → Is new x × (view new x ≡ view old x)

  stay : Stays → (old new : List Tree) → Grows old new → (xs : List X) → AllByRecursion (Is old) xs
      → AllByRecursion (Is new) xs × (map (view new) xs ≡ map (view old) xs)
  stay s old new g [] a = (tt, refl)
  stay s old new g (x ∷ xs) a =
      let first = s old new g x a.0 in
      let rest = stay s old new g xs a.1 in
      ((first.0, rest.0), ap (λ y. y ∷ map (view new) xs) first.1 ∙ ap (λ ys. view old x ∷ ys) rest.1)

  last_there : (nodes : List Tree) (xs : List X) (x : X) → AllByRecursion (Is nodes) xs → Is nodes x → AllByRecursion (Is nodes) (xs ++ x ∷ [])
  last_there nodes [] x a h = (h, tt)
  last_there nodes (y ∷ xs) x a h = (a.0, last_there nodes xs x a.1 h)

  pub entered_next : Stays → (whole ys : List Y) (old new : List Tree) → Grows old new → (i : ℕ) (y : Y) (x : X) (xs zs : List X) → i < length ys
      → y ≡ get_or ys i y → Is new x → view new x ≡ y → zs ≡ xs ++ x ∷ [] → AreEntered whole ys old i xs → AreEntered whole ys new (i + 1) zs
  entered_next s whole ys old new g i y x xs zs h read there same put e =
      let k = stay s old new g xs e.there in
      let rest : List Y = drop (i + 1) ys in
      record {
        there = subst (AllByRecursion (Is new)) (sym put) (last_there new xs x k.0 there);
        seen =
            ap (λ ws. map (view new) ws ++ rest) put ∙ ap (λ ws. ws ++ rest) (map-append (view new) xs (x ∷ []))
            ∙ append_assoc (map (view new) xs) (view new x ∷ []) rest ∙ ap (λ w. map (view new) xs ++ w ∷ rest) same
            ∙ ap (λ ws. ws ++ y ∷ rest) k.1 ∙ ap (λ ws. map (view old) xs ++ ws) (sym (drop_read ys i y h read)) ∙ e.seen;
      }

  pub entered_all : (whole ys : List Y) (nodes : List Tree) (i : ℕ) (xs : List X) → length ys ≤ i → AreEntered whole ys nodes i xs
      → map (view nodes) xs ≡ whole
  entered_all whole ys nodes i xs h e =
      sym (append-nil (map (view nodes) xs)) ∙ ap (λ ws. map (view nodes) xs ++ ws) (sym (drop_all i ys h)) ∙ e.seen

-- ---- terms, goals and hypotheses stay

abbrev pub IsNumber : List Tree → ℕ → Type 0
IsNumber nodes n = n < length nodes

pub numbers_stay : Stays IsNumber tree_at
numbers_stay old new g n h = (term_later old new g n h, tree_later old new n g h)

pub goals_stay : Stays IsGoalThere shared_goal
goals_stay old new g x h = (goal_there_later old new g x h, shared_goal_later old new g x h)

pub hypotheses_stay : Stays IsPattern goal_at
hypotheses_stay old new g p h =
    let one : goal_at new p ∷ [] ≡ goal_at old p ∷ [] = goals_later old new g (p ∷ []) (h, tt) in
    ((patterns_later old new g (p ∷ []) (h, tt)).0, cc)

-- ---- a goal, of which the terms were entered one after another

pub goal_entered : (a b c : List Tree) → Grows a b → Grows b c → (x : SharedGoal) (E : List Pair) (t u : Tree) → AreThere a x.conds.items
    → pairs_at a x.conds.items ≡ E → IsNamed b x.sides.left t → IsNamed c x.sides.right u → IsGoalThere c x × (shared_goal c x ≡ goal E t u)
goal_entered a b c g h x E t u there conds left right =
    let k = grows_more a b c g h in
    let l = named_later b c x.sides.left t h left in (
      record {
        conditions = are_there_later a c k x.conds.items there;
        sides = (named_below c x.sides.left t l, named_below c x.sides.right u right);
      },
      ap (λ ps. goal ps (tree_at c x.sides.left) (tree_at c x.sides.right)) (pairs_later a c k x.conds.items there ∙ conds)
          ∙ ap (λ y. goal E y (tree_at c x.sides.right)) (named_tree c x.sides.left t l) ∙ ap (goal E t) (named_tree c x.sides.right u right),
    )

-- the goal as a pattern
pub pattern_entered : {E : Type 0} (old new : List Tree) → Grows old new → (x : SharedGoal) (g : Goal) → IsGoalThere old x → shared_goal old x ≡ g
    → (r : Result Pattern E) → IfOk r (λ p. p.conds.items ≡ x.conds.items) → IfOk r (λ p. p.sides ≡ x.sides) → IfOk r (λ p. goal_at new p ≡ g)
pattern_entered old new k x g h same (Ok p) f e =
    ap (λ ss. goal (pairs_at new ss) (tree_at new p.sides.left) (tree_at new p.sides.right)) f
    ∙ ap (λ s. goal (pairs_at new x.conds.items) (tree_at new s.left) (tree_at new s.right)) e ∙ shared_goal_later old new k x h ∙ same
pattern_entered old new k x g h same (Err z) f e = tt

-- ---- pairs of terms that were built

-- what holds of all holds of the one at a place
pub all_at : {X : Type 0} (P : X → Type 0) (xs : List X) (i : ℕ) (x : X) → AllByRecursion P xs → i < length xs → x ≡ get_or xs i x → P x
all_at P [] i x a h e = absurd (omega (arith, h))
all_at P (y ∷ ys) zero x a h e = subst P (sym e) a.0
all_at P (y ∷ ys) (suc i) x a h e = all_at P ys i x a.1 (omega (arith, h)) e

pub read_at : {X : Type 0} (xs : List X) (i : ℕ) (d : X) → i < length xs → get_or xs i d ≡ get_or xs i (get_or xs i d)
read_at [] i d h = absurd (omega (arith, h))
read_at (y ∷ ys) zero d h = refl
read_at (y ∷ ys) (suc i) d h = read_at ys i d (omega (arith, h))

pub pairs_made : (nodes : List Tree) (ss : List Sides) (i : ℕ) (s : Sides) (old new : List PairOfTerms) (p : PairOfTerms) → i < length ss → s ≡ get_or ss i s
    → plain_pair p ≡ pair_at nodes s → new ≡ old ++ p ∷ [] → map plain_pair old ++ pairs_at nodes (drop i ss) ≡ pairs_at nodes ss
    → map plain_pair new ++ pairs_at nodes (drop (i + 1) ss) ≡ pairs_at nodes ss
pairs_made nodes ss i s old new p h read same put made =
    let rest = pairs_at nodes (drop (i + 1) ss) in
    ap (λ zs. map plain_pair zs ++ rest) put ∙ ap (λ zs. zs ++ rest) (map-append plain_pair old (p ∷ [])) ∙ append_assoc (map plain_pair old) (plain_pair p ∷ []) rest
    ∙ ap (λ y. map plain_pair old ++ y ∷ rest) same ∙ ap (λ zs. map plain_pair old ++ pairs_at nodes zs) (sym (drop_read ss i s h read)) ∙ made
