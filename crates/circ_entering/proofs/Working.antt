-- Hypotheses and goals by number stay, and so does what steps on them are judged by.
use Rattle.std.proofs.Common.{◌≡◌, ◌<◌, ℕ, zero, suc, List, [], ◌∷◌, ◌++◌, map, take, length, get_or, Some, Vec, Global, refl, ap, sym, subst, ◌∙◌, arith, append_assoc}
use Rattle.std.specs.List.{slice_get, AllByRecursion}
use Rattle.std.specs.declared.collections.VecDeque.{VecDeque}
use Rattle.std.proofs.lemmas.List.{length-map}
use Rattle.circ_term.specs.Growing.{Grows}
use Rattle.circ_term.specs.Tree.{Tree}
use Rattle.circ_theory.specs.Theory.{Theory}
use Rattle.circ_theory.specs.Goal.{Goal}
use Rattle.circ_proof.specs.Rules.{state, ProofStep, AllOfStep}
use Rattle.circ_nodes.specs.Named.{tree_at}
use Rattle.circ_nodes.proofs.Building.{built_later}
use Rattle.circ_nodes.proofs.Located.{trees_later}
use Rattle.circ_shared.specs.Patterns.{goal_at, IsPattern}
use Rattle.circ_shared.specs.declared.patterns.Pattern.{Pattern}
use Rattle.circ_shared.proofs.Sharing.{goals_later, patterns_later}
use Rattle.circ_steps.specs.States.{shared_goal, shared_goals, IsGoalThere, IsStateThere}
use Rattle.circ_steps.specs.declared.states.SharedGoal.{SharedGoal}
use Rattle.circ_steps.specs.declared.states.SharedState.{SharedState}
use Rattle.circ_steps.specs.Judging.{terms_at}
use Rattle.circ_steps.specs.declared.rules.Rules.{Rules}
use Rattle.circ_steps.proofs.Staying.{shared_goals_later, goals_there_later}
use Rattle.circ_entering.specs.declared.numbered.Numbered.{Numbered}
use Rattle.circ_entering.specs.declared.work.Work.{Work}
use Rattle.circ_entering.specs.Numbered.{AreEnteredRules}
use Rattle.circ_entering.specs.Work.{state_of, table_of, IsWork}
use Rattle.circ_entering.proofs.Judged.{numbered_later}

-- the table of the numbers is theirs
pub own_table : (th : Theory) (table nodes : List Tree) (x : Numbered) → AreEnteredRules th table nodes x → AreEnteredRules th (map (tree_at nodes) x.table.items) nodes x
own_table th table nodes x h = record { equations = h.equations; patterns = h.patterns; derivatives = h.derivatives; there = h.there; terms = refl }

-- terms were added
module _ (th : Theory) (old : Work) (h : IsWork th old) (m : List Tree) (g : Grows old.nodes m) where
  pub table_stays : map (tree_at m) old.numbered.table.items ≡ table_of old
  table_stays = trees_later old.nodes m old.numbered.table.items g h.numbered.there

  -- whatever the hypotheses and the goals are then
  pub work_stays : (s : SharedState) → IsStateThere m s → IsWork th (record old { nodes = m; state = s })
  work_stays s k = record {
    numbered = own_table th (table_of old) m old.numbered (numbered_later th (table_of old) old.nodes m g old.numbered h.numbered);
    state = k;
    built = built_later old.nodes m old.terms g h.built;
  }

  -- hypotheses more
  pub with_hypotheses : (hyps : Vec Pattern Global) → AllByRecursion (IsPattern m) hyps.items
      → IsWork th (record old { nodes = m; state = record old.state { hyps = hyps } })
  with_hypotheses hyps a =
      work_stays (record old.state { hyps = hyps }) (record { hypotheses = a; goals = goals_there_later old.nodes m g old.state.goals.items h.state.goals })

  pub hypotheses_added : (hyps : Vec Pattern Global) (gs : List Goal) → map (goal_at m) hyps.items ≡ map (goal_at old.nodes) old.state.hyps.items ++ gs
      → state_of (record old { nodes = m; state = record old.state { hyps = hyps } }) ≡ state ((state_of old).hypotheses ++ gs) (state_of old).goals
  hypotheses_added hyps gs e =
      ap (λ H. state H (shared_goals m old.state.goals.items)) e
      ∙ ap (state (map (goal_at old.nodes) old.state.hyps.items ++ gs)) (shared_goals_later old.nodes m g old.state.goals.items h.state.goals)

  -- goals more
  pub with_goals : (goals : VecDeque SharedGoal Global) → AllByRecursion (IsGoalThere m) goals.items
      → IsWork th (record old { nodes = m; state = record old.state { goals = goals } })
  with_goals goals a =
      work_stays (record old.state { goals = goals }) (record { hypotheses = patterns_later old.nodes m g old.state.hyps.items h.state.hypotheses; goals = a })

  pub goals_added : (goals : VecDeque SharedGoal Global) (gs : List Goal) → shared_goals m goals.items ≡ shared_goals old.nodes old.state.goals.items ++ gs
      → state_of (record old { nodes = m; state = record old.state { goals = goals } }) ≡ state (state_of old).hypotheses ((state_of old).goals ++ gs)
  goals_added goals gs e =
      ap (λ H. state H (shared_goals m goals.items)) (goals_later old.nodes m g old.state.hyps.items h.state.hypotheses)
      ∙ ap (state (map (goal_at old.nodes) old.state.hyps.items)) e

  -- another table
  pub with_table : (table : Vec ℕ Global) → AllByRecursion (λ n. n < length m) table.items
      → IsWork th (record old { nodes = m; numbered = record old.numbered { table = table } })
  with_table table a =
      let k = numbered_later th (table_of old) old.nodes m g old.numbered h.numbered in
      record {
        numbered = record { equations = k.equations; patterns = k.patterns; derivatives = k.derivatives; there = a; terms = refl };
        state = record {
          hypotheses = patterns_later old.nodes m g old.state.hyps.items h.state.hypotheses;
          goals = goals_there_later old.nodes m g old.state.goals.items h.state.goals;
        };
        built = built_later old.nodes m old.terms g h.built;
      }

  pub same_state : (table : Vec ℕ Global) → state_of (record old { nodes = m; numbered = record old.numbered { table = table } }) ≡ state_of old
  same_state table =
      ap (λ H. state H (shared_goals m old.state.goals.items)) (goals_later old.nodes m g old.state.hyps.items h.state.hypotheses)
      ∙ ap (state (map (goal_at old.nodes) old.state.hyps.items)) (shared_goals_later old.nodes m g old.state.goals.items h.state.goals)

-- ---- the first hypotheses

pub first_all : {X : Type 0} (P : X → Type 0) (n : ℕ) (xs : List X) → AllByRecursion P xs → AllByRecursion P (take n xs)
first_all P zero xs a = tt
first_all P (suc n) [] a = tt
first_all P (suc n) (x ∷ xs) a = (a.0, first_all P n xs a.1)

pub map_taken : {X Y : Type 0} (f : X → Y) (n : ℕ) (xs : List X) → map f (take n xs) ≡ take n (map f xs)
map_taken f zero xs = refl
map_taken f (suc n) [] = refl
map_taken f (suc n) (x ∷ xs) = ap (λ ys. f x ∷ ys) (map_taken f n xs)

module _ (old : Work) (n : ℕ) (hyps : Vec Pattern Global) (goals : VecDeque SharedGoal Global) (are : hyps.items ≡ take n old.state.hyps.items)
    (none : goals.items ≡ []) where
  pub kept_state : state_of (record old { state = record { hyps = hyps; goals = goals } }) ≡ state (take n (state_of old).hypotheses) []
  kept_state =
      ap (λ ps. state (map (goal_at old.nodes) ps) (shared_goals old.nodes goals.items)) are
      ∙ ap (λ H. state H (shared_goals old.nodes goals.items)) (map_taken (goal_at old.nodes) n old.state.hyps.items)
      ∙ ap (λ gs. state (take n (map (goal_at old.nodes) old.state.hyps.items)) (shared_goals old.nodes gs)) none

pub kept_work : (th : Theory) (old : Work) → IsWork th old → (n : ℕ) (hyps : Vec Pattern Global) (goals : VecDeque SharedGoal Global)
    → hyps.items ≡ take n old.state.hyps.items → goals.items ≡ [] → IsWork th (record old { state = record { hyps = hyps; goals = goals } })
kept_work th old h n hyps goals are none =
    let P : List Pattern → Type 0 = AllByRecursion (IsPattern old.nodes) in
    let Q : List SharedGoal → Type 0 = AllByRecursion (IsGoalThere old.nodes) in
    record {
      numbered = h.numbered;
      state = record {
        hypotheses = subst P (sym are) (first_all (IsPattern old.nodes) n old.state.hyps.items h.state.hypotheses);
        goals = subst Q (sym none) tt;
      };
      built = h.built;
    }

pub both_parts : {X : Type 0} (P : X → Type 0) (xs ys : List X) → AllByRecursion P (xs ++ ys) → AllByRecursion P xs × AllByRecursion P ys
both_parts P [] ys a = (tt, a)
both_parts P (x ∷ xs) ys a = let b = both_parts P xs ys a.1 in ((a.0, b.0), b.1)

-- ---- the first goal

pub front_there : (nodes : List Tree) (gs : List SharedGoal) (x : SharedGoal) → AllByRecursion (IsGoalThere nodes) gs → 0 < length gs → x ≡ get_or gs 0 x
    → IsGoalThere nodes x
front_there nodes [] x a h e = absurd (omega (arith, h))
front_there nodes (y ∷ gs) x a h e = subst (IsGoalThere nodes) (sym e) a.0

pub front_seen : (nodes : List Tree) (gs : List SharedGoal) (x : SharedGoal) (g : Goal) → 0 < length gs → x ≡ get_or gs 0 x → g ≡ shared_goal nodes x
    → Some g ≡ slice_get (shared_goals nodes gs) 0
front_seen nodes [] x g h e made = absurd (omega (arith, h))
front_seen nodes (y ∷ gs) x g h e made = ap Some (made ∙ ap (shared_goal nodes) e)

-- ---- numbers of the table

pub step_in_numbers : (nodes table : List Tree) (r : Rules) (s : ProofStep ℕ) → terms_at nodes r ≡ table → AllOfStep (λ n. n < length table) s
    → AllOfStep (λ n. n < length r.table.now) s
step_in_numbers nodes table r s e a =
    let same : length table ≡ length r.table.now = ap length (sym e) ∙ length-map r.table.now (tree_at nodes) in
    let P : ℕ → Type 0 = λ k. AllOfStep (λ n. n < k) s in
    subst P same a

-- ---- goals that are built, one after another

pub built_more : {X : Type 0} (view : X → Goal) (whole old new rest : List Goal) (x : X) (g : Goal) → g ≡ view x → new ≡ old ++ g ∷ []
    → old ++ view x ∷ rest ≡ whole → new ++ rest ≡ whole
built_more view whole old new rest x g same put e =
    ap (λ ys. ys ++ rest) put ∙ append_assoc old (g ∷ []) rest ∙ ap (λ y. old ++ y ∷ rest) same ∙ e
