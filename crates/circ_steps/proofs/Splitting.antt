-- A goal in each case of a term, by number.
use Rattle.std.proofs.Common.{◌≡◌, ◌<◌, ◌≤◌, ◌+◌, ℕ, zero, suc, List, [], ◌∷◌, ◌++◌, drop, map, length, get_or, slice_index_or, refl, ap, sym, ◌∙◌, append_assoc, append-nil, arith}
use Rattle.std.specs.List.{AllByRecursion}
use Rattle.std.proofs.lemmas.List.{drop_all, drop_more, map-append}
use Rattle.circ_term.specs.Growing.{Grows}
use Rattle.circ_term.specs.Tree.{Tree, App, none, sort_of}
use Rattle.circ_theory.specs.Theory.{Pair, pair_with, goal}
use Rattle.circ_theory.specs.Rewriting.{named}
use Rattle.circ_theory.specs.Goal.{Goal}
use Rattle.circ_proof.specs.Goals.{with_cond}
use Rattle.circ_proof.specs.Rules.{state}
use Rattle.circ_nodes.specs.Named.{IsNamed, tree_at}
use Rattle.circ_nodes.proofs.Located.{tree_later}
use Rattle.circ_nodes.proofs.Numbers.{grows_self}
use Rattle.circ_shared.specs.Chains.{AddsCase}
use Rattle.circ_shared.specs.Patterns.{pairs_at, goal_at}
use Rattle.circ_shared.proofs.Cases.{case_assumed}
use Rattle.circ_shared.proofs.Sharing.{pair_later, goals_later, patterns_later}
use Rattle.circ_steps.specs.declared.states.SharedGoal.{SharedGoal}
use Rattle.circ_steps.specs.declared.states.SharedState.{SharedState}
use Rattle.circ_steps.specs.States.{shared_goal, shared_goals, state_at, IsGoalThere, IsStateThere}
use Rattle.circ_steps.proofs.Fronts.{rest_seen, rest_there}
use Rattle.circ_steps.proofs.Staying.{shared_goal_later, shared_goals_later, goals_there_later}

-- the goal with the condition more that the term is the constant
pub case_seen : (old new : List Tree) (g : Grows old new) (x y : SharedGoal) (u r k : ℕ) → u < length old → IsGoalThere old x → y.sides ≡ x.sides
    → y.conds.items ≡ x.conds.items ++ record { left = u; right = r } ∷ [] → IsNamed new r (App k (sort_of (tree_at old u)) none)
    → shared_goal new y ≡ with_cond (shared_goal old x) (pair_with (tree_at old u) (App k (sort_of (tree_at old u)) none))
case_seen old new g x y u r k there h sides put named =
    let adds : AddsCase new x.conds.items y.conds.items u k (sort_of (tree_at old u)) = record { right = r; put = put; named = named } in
    let E : List Pair = pairs_at old x.conds.items ++ pair_with (tree_at old u) (App k (sort_of (tree_at old u)) none) ∷ [] in
    let conds = case_assumed old old new (grows_self old) g x.conds.items x.conds.items y.conds.items u k there refl h.conditions adds in
    ap (λ ps. goal ps (tree_at new y.sides.left) (tree_at new y.sides.right)) conds
    ∙ ap (λ s. goal E (tree_at new s.left) (tree_at new s.right)) sides
    ∙ ap (λ q. goal E q.left q.right) (pair_later old new g x.sides h.sides)

all_push : (nodes : List Tree) (gs : List SharedGoal) (y : SharedGoal) → AllByRecursion (IsGoalThere nodes) gs → IsGoalThere nodes y
    → AllByRecursion (IsGoalThere nodes) (gs ++ y ∷ [])
all_push nodes [] y a h = (h, tt)
all_push nodes (g ∷ gs) y a h = (a.0, all_push nodes gs y a.1 h)

pub all_both : (nodes : List Tree) (gs hs : List SharedGoal) → AllByRecursion (IsGoalThere nodes) gs → AllByRecursion (IsGoalThere nodes) hs
    → AllByRecursion (IsGoalThere nodes) (gs ++ hs)
all_both nodes [] hs a b = b
all_both nodes (g ∷ gs) hs a b = (a.0, all_both nodes gs hs a.1 b)

module _ (start : List Tree) (x : SharedGoal) (u : ℕ) where
  -- the goal in the case of a constant
  abbrev pub case_of : ℕ → Goal
  case_of k = with_cond (shared_goal start x) (pair_with (tree_at start u) (App k (sort_of (tree_at start u)) none))

  -- the goals are the cases of the first i constants
  pub record AreCases (nodes : List Tree) (ks : List ℕ) (i : ℕ) (gs : List SharedGoal) : Type 0 where
    pub there : AllByRecursion (IsGoalThere nodes) gs
    pub made : shared_goals nodes gs ++ map case_of (drop i ks) ≡ map case_of ks

  pub cases_none : (nodes : List Tree) (ks : List ℕ) → AreCases nodes ks 0 []
  cases_none nodes ks = record { there = tt; made = refl }

  pub cases_next : (old new : List Tree) (ks : List ℕ) (i : ℕ) (gs hs : List SharedGoal) (y : SharedGoal) → Grows start old → Grows old new → u < length start
      → IsGoalThere start x → i < length ks → hs ≡ gs ++ y ∷ [] → IsGoalThere new y
      → shared_goal new y ≡ with_cond (shared_goal old x) (pair_with (tree_at old u) (App (get_or ks i 0) (sort_of (tree_at old u)) none))
      → AreCases old ks i gs → AreCases new ks (i + 1) hs
  cases_next old new ks i gs hs y f g within h b put there told m =
      let k = get_or ks i 0 in
      let rest : List Goal = map case_of (drop (i + 1) ks) in
      let one : shared_goal new y ≡ case_of k =
      told ∙ ap (λ z. with_cond z (pair_with (tree_at old u) (App k (sort_of (tree_at old u)) none))) (shared_goal_later start old f x h)
      ∙ ap (λ t. with_cond (shared_goal start x) (pair_with t (App k (sort_of t) none))) (tree_later start old u f within) in
      record {
        there = rw put (all_push new gs y (goals_there_later old new g gs m.there) there);
        made =
            ap (λ zs. shared_goals new zs ++ rest) put ∙ ap (λ zs. zs ++ rest) (map-append (shared_goal new) gs (y ∷ []))
            ∙ append_assoc (shared_goals new gs) (shared_goal new y ∷ []) rest ∙ ap (λ z. shared_goals new gs ++ z ∷ rest) one
            ∙ ap (λ zs. zs ++ case_of k ∷ rest) (shared_goals_later old new g gs m.there)
            ∙ ap (λ zs. shared_goals old gs ++ map case_of zs) (sym (drop_more ks i 0 b)) ∙ m.made;
      }

  pub cases_all : (nodes : List Tree) (ks : List ℕ) (i : ℕ) (gs : List SharedGoal) → length ks ≤ i → AreCases nodes ks i gs
      → shared_goals nodes gs ≡ map case_of ks
  cases_all nodes ks i gs h m =
      sym (append-nil (shared_goals nodes gs)) ∙ ap (λ zs. shared_goals nodes gs ++ map case_of zs) (sym (drop_all i ks h)) ∙ m.made

-- ---- the state

pub table_there : (k : ℕ) (ns : List ℕ) (i : ℕ) → AllByRecursion (λ n. n < k) ns → i < length ns → slice_index_or ns i 0 < k
table_there k [] i a h = absurd (omega (arith, h))
table_there k (n ∷ ns) zero a h = a.0
table_there k (n ∷ ns) (suc i) a h = table_there k ns i a.1 (omega (arith, h))

pub table_names : (nodes : List Tree) (ns : List ℕ) (i : ℕ) → i < length ns → named (map (tree_at nodes) ns) i ≡ tree_at nodes (slice_index_or ns i 0)
table_names nodes [] i h = absurd (omega (arith, h))
table_names nodes (n ∷ ns) zero h = refl
table_names nodes (n ∷ ns) (suc i) h = table_names nodes ns i (omega (arith, h))

module _ (old new : List Tree) (g : Grows old new) (a b : SharedState) (h : IsStateThere old a) (hyps : b.hyps ≡ a.hyps) where
  hyps_seen : map (goal_at new) b.hyps.items ≡ map (goal_at old) a.hyps.items
  hyps_seen = ap (λ v. map (goal_at new) v.items) hyps ∙ goals_later old new g a.hyps.items h.hypotheses

  -- the goals are as before
  pub same_there : b.goals.items ≡ a.goals.items → IsStateThere new b
  same_there e = record {
    hypotheses = rw hyps (patterns_later old new g a.hyps.items h.hypotheses);
    goals = rw e (goals_there_later old new g a.goals.items h.goals);
  }

  pub same_seen : b.goals.items ≡ a.goals.items → state_at new b ≡ state_at old a
  same_seen e =
      ap (λ H. state H (shared_goals new b.goals.items)) hyps_seen ∙ ap (λ gs. state (map (goal_at old) a.hyps.items) (shared_goals new gs)) e
      ∙ ap (state (map (goal_at old) a.hyps.items)) (shared_goals_later old new g a.goals.items h.goals)

  -- the goals hs take the place of the first one
  module _ (hs : List SharedGoal) (put : b.goals.items ≡ hs ++ drop 1 a.goals.items) where
    pub split_there : AllByRecursion (IsGoalThere new) hs → IsStateThere new b
    split_there there = record {
      hypotheses = rw hyps (patterns_later old new g a.hyps.items h.hypotheses);
      goals = rw put (all_both new hs (drop 1 a.goals.items) there (goals_there_later old new g (drop 1 a.goals.items) (rest_there old a.goals.items h.goals)));
    }

    pub split_seen : state_at new b ≡ state (map (goal_at old) a.hyps.items) (shared_goals new hs ++ drop 1 (shared_goals old a.goals.items))
    split_seen =
        let rest = drop 1 a.goals.items in
        ap (λ H. state H (shared_goals new b.goals.items)) hyps_seen
        ∙ ap (λ gs. state (map (goal_at old) a.hyps.items) (shared_goals new gs)) put
        ∙ ap (state (map (goal_at old) a.hyps.items)) (
        map-append (shared_goal new) hs rest
        ∙ ap (λ gs. shared_goals new hs ++ gs) (shared_goals_later old new g rest (rest_there old a.goals.items h.goals) ∙ rest_seen old a.goals.items)
        )
