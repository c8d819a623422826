-- What links are read against is what the background says.
use Rattle.std.proofs.Common.{◌≡◌, ◌≤◌, ◌<◌, ℕ, ◌+◌, Bool, true, false, nat_lt, List, [], ◌∷◌, ◌++◌, zero, suc, map, length, take, Option, Some, None, unwrap_or, refl, ap, sym, ◌∙◌, arith}
use Rattle.std.specs.List.{slice_get}
use Rattle.std.specs.Option.{option_map, option_map_or}
use Rattle.std.proofs.lemmas.Bool.{ltb-true, ltb-false}
use Rattle.std.proofs.lemmas.List.{map-append}
use Rattle.circ_term.specs.Tree.{Tree}
use Rattle.circ_theory.specs.Goal.{Goal}
use Rattle.circ_expansion.specs.Followed.{History, Open, goal_in, no_goal, Followed as History_in}
use Rattle.circ_expansion.specs.Expand.{followed_goals, followed_at, no_followed}
use Rattle.circ_book.specs.Histories.{history_at, history_below, history_with}
use Rattle.circ_book.specs.Book.{followed_by, hypotheses_in, kept_in, kept_hypotheses, kept_at}
use Rattle.circ_tasks.specs.Settings.{goal_at, goals_at}
use Rattle.circ_tasks.specs.Tasks.{followed_at_end, background_in, assumed}
use Rattle.circ_tasks.specs.declared.calls.Frame.{Frame}
use Rattle.circ_book.specs.declared.histories.Node.{Node}
use Rattle.circ_book.specs.declared.histories.What.{What}
use Rattle.circ_book.specs.declared.histories.What.TheVariants as what
use Rattle.circ_book.specs.declared.book.Followed.{Followed}
use Rattle.circ_book.specs.declared.book.Derivations.{Derivations}
use Rattle.circ_book.proofs.Below.{not_below, node_is}

goal_of_what : (table : List Tree) (h : ℕ → History) (g : Goal) (w : What) → goal_in (history_with table h g w) ≡ g
goal_of_what table h g (what.Simplified chain next) = refl
goal_of_what table h g (what.Reduced why) = refl
goal_of_what table h g (what.Derived children) = refl

pub outside : {X : Type 0} (xs : List X) (k : ℕ) → length xs ≤ k → slice_get xs k ≡ None
outside [] k h = refl
outside (x ∷ xs) zero h = absurd (omega (arith, h))
outside (x ∷ xs) (suc k) h = outside xs k (omega (arith, h))

pub goal_there : (table : List Tree) (ns : List Node) (k : ℕ) → goal_in (history_at table ns k) ≡ goal_at ns k
goal_there table ns k = go (nat_lt k (length ns)) refl
  where
    of_node : (o : Option Node) → goal_in (option_map_or (λ n. history_with table (history_below table k ns) n.goal n.what) o Open)
        ≡ option_map_or (λ n. n.goal) o no_goal
    of_node None = refl
    of_node (Some n) = goal_of_what table (history_below table k ns) n.goal n.what

    go : (b : Bool) → nat_lt k (length ns) ≡ b → goal_in (history_at table ns k) ≡ goal_at ns k
    go true e = ap goal_in (node_is table ns k (ltb-true k (length ns) e)) ∙ of_node (slice_get ns k)
    go false e =
        let h : length ns ≤ k = ltb-false k (length ns) e in
        ap goal_in (not_below table ns (length ns) k h) ∙ sym (ap (λ o. option_map_or (λ n. n.goal) o no_goal) (outside ns k h))

pub goals_there : (table : List Tree) (ns : List Node) (xs : List Followed)
    → map (λ (x : Followed). goal_at ns x.node) xs ≡ followed_goals (map (followed_by table ns) xs)
goals_there table ns [] = refl
goals_there table ns (x ∷ xs) = ap (λ g. g ∷ map (λ (y : Followed). goal_at ns y.node) xs) (sym (goal_there table ns x.node))
    ∙ ap (λ gs. goal_in (history_at table ns x.node) ∷ gs) (goals_there table ns xs)

pub hypotheses_at : (table : List Tree) (ns : List Node) (gs : List Followed) (b n : ℕ) (ds : List Derivations)
    → unwrap_or (slice_get (hypotheses_in table ns gs b ds) n) [] ≡ map (followed_by table ns) (option_map_or (kept_hypotheses gs (b + n)) (slice_get ds n) [])
hypotheses_at table ns gs b n [] = refl
hypotheses_at table ns gs b zero (d ∷ ds) =
    let f = followed_by table ns in
    sym (map-append f (take d.earlier gs) (kept_in b d.derived.items))
    ∙ ap (λ k. map f (take d.earlier gs ++ kept_in k d.derived.items)) (omega arith)
hypotheses_at table ns gs b (suc n) (d ∷ ds) =
    hypotheses_at table ns gs (b + 1) n ds ∙ ap (λ k. map (followed_by table ns) (option_map_or (kept_hypotheses gs k) (slice_get ds n) [])) (omega arith)

pub got_map : {X Y : Type 0} (f : X → Y) (xs : List X) (n : ℕ) → slice_get (map f xs) n ≡ option_map f (slice_get xs n)
got_map f [] n = refl
got_map f (x ∷ xs) zero = refl
got_map f (x ∷ xs) (suc n) = got_map f xs n

-- one of a list that is followed
pub followed_one : (hs : List Followed) (f : Followed → History_in) (n : ℕ) → followed_at (map f hs) n ≡ option_map_or f (slice_get hs n) no_followed
followed_one hs f n = ap (λ o. unwrap_or o no_followed) (got_map f hs n) ∙ go (slice_get hs n)
  where
    go : (o : Option Followed) → unwrap_or (option_map f o) no_followed ≡ option_map_or f o no_followed
    go None = refl
    go (Some x) = refl

pub length_assumed : (n : ℕ) → length (assumed n) ≡ n
length_assumed zero = refl
length_assumed (suc n) = ap suc (length_assumed n)

-- the goals that a side's links are read against
pub side_goals : (fr : Frame) (o : Option ℕ) → goals_at fr.book.now o ≡ followed_goals (followed_at_end fr o)
side_goals fr None = refl
side_goals fr (Some n) = goals_there fr.table.now fr.book.now.nodes.items (kept_at fr.book.now n)

-- the hypotheses of a use's block
pub block_hypotheses : (fr : Frame) (n : ℕ) → followed_at_end fr (Some n) ≡ unwrap_or (slice_get (background_in fr).hypotheses n) []
block_hypotheses fr n =
    let z : n ≡ 0 + n = omega arith in
    ap (λ k. map (followed_by fr.table.now fr.book.now.nodes.items) (option_map_or (kept_hypotheses fr.book.now.goals.items k) (slice_get fr.book.now.blocks.items n) [])) z
    ∙ sym (hypotheses_at fr.table.now fr.book.now.nodes.items fr.book.now.goals.items 0 n fr.book.now.blocks.items)

-- the goal of a use
pub target_goal : (fr : Frame) (k : ℕ) → goal_in (history_at fr.table.now fr.book.now.nodes.items k) ≡ unwrap_or (option_map (λ (n : Node). n.goal) (slice_get fr.book.now.nodes.items k)) no_goal
target_goal fr k = goal_there fr.table.now fr.book.now.nodes.items k ∙ go (slice_get fr.book.now.nodes.items k)
  where
    go : (o : Option Node) → option_map_or (λ (n : Node). n.goal) o no_goal ≡ unwrap_or (option_map (λ (n : Node). n.goal) o) no_goal
    go None = refl
    go (Some n) = refl
