-- Looking for an experiment that tells the sides of a goal apart (`PlainRefutation`).
use Rattle.std.specs.Prelude.{◌≡◌, ℕ, ◌+◌, max, List, [], ◌∷◌, ◌++◌, zero, suc, Bool, false, not, nat_eq, ◌==◌, ◌&&◌, if◌then◌else◌, Option, None}
use Rattle.std.specs.List.{list_any}
use Rattle.std.specs.Option.{option_map_or}
use Rattle.circ_term.specs.Tree.{Tree, Var, App, none, more, sort_of}
use Rattle.circ_term.specs.Limits.{Limit, first_limit, or_else}
use Rattle.circ_term.specs.Order.{is_same}
use Rattle.circ_theory.specs.Theory.{Theory, Pair, pair_with, Derivative}
use Rattle.circ_theory.specs.Experiment.{derived}
use Rattle.circ_theory.specs.Observing.{is_hidden, cases_of}
use Rattle.circ_theory.specs.Fresh.{fresh_after, numbered_from, variables_from, parameter_sorts}
use Rattle.circ_theory.specs.Goal.{Goal}
use Rattle.circ_rewrite.specs.Norm.{Normalised, Normal_form, Budget_spent, Limit_passed}
use Rattle.circ_rewrite.specs.TheoryRules.{theory_rules}
use Rattle.circ_conditional_norm.specs.Norm.{conditional_norm}
use Rattle.circ_entry.specs.Entries.{Written, written_entry}

-- a pair that waits, with the entries that led to it from the goal
pub record Waiting : Type 0 where
  pub left : Tree
  pub right : Tree
  pub by : List Written

abbrev pub waiting : Tree → Tree → List Written → Waiting
waiting s t es = record { left = s; right = t; by = es }

-- What is found of a goal: an experiment leads its sides to these two constants; no pair is left; a budget is spent; or a term passes a limit.
pub data Refuted : Type 0 where
  Told_apart : (entries : List Written) (left right : Tree) → Refuted
  Alike : Refuted
  Spent : Refuted
  Past_limit : (limit : Limit) → Refuted

-- what is found, with the rewrites and the Derives that are left
pub record Conclusion : Type 0 where
  pub refuted : Refuted
  pub rewrites : ℕ
  pub derives : ℕ

abbrev pub conclude : Refuted → (rewrites derives : ℕ) → Conclusion
conclude r n d = record { refuted = r; rewrites = n; derives = d }

-- ---- pairs of normal forms

-- whether both constants are in the case list of the sort
abbrev pub are_listed : Theory → (sort first second : ℕ) → Bool
are_listed th s a b = option_map_or (λ ks. list_any (λ c. nat_eq c a) ks && list_any (λ c. nat_eq c b) ks) (cases_of th s) false

-- whether the terms are two different constants of one case list
abbrev pub are_two_cases : Theory → Tree → Tree → Bool
are_two_cases th (App a s none) (App b r none) = not (a == b) && ((s == r) && are_listed th s a b)
are_two_cases th (Var n s) t = false
are_two_cases th (App a s (more x xs)) t = false
are_two_cases th (App a s none) (Var n r) = false
are_two_cases th (App a s none) (App b r (more x xs)) = false

-- whether the pair has these sides, in this order
abbrev pub is_pair : Tree → Tree → Pair → Bool
is_pair l m p = is_same l p.left && is_same m p.right

-- ---- expanding a pair

-- the entry of a derivative, whose number this is, with variables numbered from k for its parameters
abbrev pub entry_from : (k number : ℕ) → Derivative → Written
entry_from k i d = written_entry i (variables_from k (parameter_sorts d))

-- the number of the first parameter: behind those of the terms' variables, and not 0
abbrev pub first_parameter : Tree → Tree → ℕ
first_parameter l m = max 1 (fresh_after l m)

-- the derivative on both terms, to which these entries led
abbrev pub child : (by : List Written) (l m : Tree) (k number : ℕ) → Derivative → Waiting
child by l m k i d = waiting (derived d l (numbered_from k)) (derived d m (numbered_from k)) (by ++ entry_from k i d ∷ [])

-- one for each derivative whose hole has the terms' sort; the first of the derivatives has number i
abbrev pub children : (by : List Written) (l m : Tree) (k i : ℕ) → List Derivative → List Waiting
children by l m k i [] = []
children by l m k i (d ∷ ds) =
    if d.hole == sort_of l then child by l m k i d ∷ children by l m k (i + 1) ds else children by l m k (i + 1) ds

-- the first limit that a term of the pairs passes, in order
abbrev pub waiting_limit : List Waiting → Option Limit
waiting_limit [] = None
waiting_limit (w ∷ ws) = or_else (first_limit w.left) (or_else (first_limit w.right) (waiting_limit ws))

-- What a pair is expanded to: it is put behind those that were expanded, and its children behind those that wait, unless one of them passes a limit.
abbrev pub grow : (go_on : ℕ → List Pair → List Waiting → Conclusion) → (derives : ℕ) → (left right : Tree) → (rewrites : ℕ)
    → (expanded : List Pair) → (queue children : List Waiting) → Conclusion
grow go_on d l m n seen ws cs = option_map_or (λ x. conclude (Past_limit x) n d) (waiting_limit cs) (go_on n (seen ++ pair_with l m ∷ []) (ws ++ cs))

-- ---- the pairs one after another

-- the normal form by the theory's rules, with no try around the term
abbrev pub normal : Theory → (budget : ℕ) → Tree → Normalised
normal th n t = conditional_norm 0 th.signature (theory_rules th) [] n t

-- what a normal form, with the rewrites that are left, leads to
abbrev pub with_normal : (derives : ℕ) → Normalised → (Tree → ℕ → Conclusion) → Conclusion
with_normal d Budget_spent f = conclude Spent 0 d
with_normal d (Limit_passed limit n) f = conclude (Past_limit limit) n d
with_normal d (Normal_form t ts n) f = f t n

-- A pair of normal forms is passed over where its sides are equal or it was expanded before, or where it is visible and no difference. A hidden one is expanded.
abbrev pub judge : Theory → (pass expand : Conclusion) → (derives : ℕ) → List Written → (left right : Tree) → (rewrites : ℕ) → (expanded : List Pair) → Conclusion
judge th pass expand d by l m n seen =
    if is_same l m then pass
    else if is_hidden th (sort_of l) then (if list_any (is_pair l m) seen then pass else expand)
    else if are_two_cases th l m then conclude (Told_apart by l m) n d
    else pass

-- what is found on expanding a pair, with the rewrites that are left
abbrev pub Expanding : Type 0
Expanding = List Written → (left right : Tree) → (rewrites : ℕ) → (expanded : List Pair) → (queue : List Waiting) → Conclusion

module _ (th : Theory) where
  -- The pairs are taken in order, and normalised, left then right. Where none is left the sides are alike.
  abbrev pub through : Expanding → (derives rewrites : ℕ) → (expanded : List Pair) → (queue : List Waiting) → Conclusion
  through expand d n seen [] = conclude Alike n d
  through expand d n seen (w ∷ ws) =
      with_normal d (normal th n w.left)
      (λ l k. with_normal d (normal th k w.right) (λ m j. judge th (through expand d j seen ws) (expand w.by l m j seen ws) d w.by l m j seen))

  -- with so many Derives, of which each expansion uses one
  abbrev pub refute : (derives rewrites : ℕ) → (expanded : List Pair) → (queue : List Waiting) → Conclusion
  refute zero = through (λ by l m n seen ws. conclude Spent n 0) 0
  refute (suc d) =
      through (λ by l m n seen ws. grow (refute d) d l m n seen ws (children by l m (first_parameter l m) 0 th.derivatives)) (suc d)

  -- what is found of one goal
  abbrev pub refutation : (derives rewrites : ℕ) → Goal → Conclusion
  refutation d n g = refute d n [] (waiting g.left g.right [] ∷ [])

-- ---- several goals

-- what is found of goals: the number of the one that decides, and what is found of it
pub record Decision : Type 0 where
  pub goal : ℕ
  pub conclusion : Conclusion

abbrev pub decide : (goal : ℕ) → Conclusion → Decision
decide i c = record { goal = i; conclusion = c }

-- a goal that is not alike decides
abbrev pub unless_alike : Refuted → (this next : Decision) → Decision
unless_alike Alike this next = next
unless_alike (Told_apart es l m) this next = this
unless_alike Spent this next = this
unless_alike (Past_limit x) this next = this

-- Goals in order, of which the first has number i: each is tried with what those before it left. Where all are alike the number is that behind the last.
abbrev pub refutations : Theory → (i derives rewrites : ℕ) → List Goal → Decision
refutations th i d n [] = decide i (conclude Alike n d)
refutations th i d n (g ∷ gs) =
    unless_alike (refutation th d n g).refuted (decide i (refutation th d n g))
    (refutations th (i + 1) (refutation th d n g).derives (refutation th d n g).rewrites gs)

-- the goals of blocks, in order
abbrev pub goals_in : List (List Goal) → List Goal
goals_in [] = []
goals_in (b ∷ bs) = b ++ goals_in bs

-- with these budgets this is found of the goals of the blocks, which are counted from 1
abbrev pub PlainRefutation : Theory → (blocks : List (List Goal)) → (derives rewrites : ℕ) → Decision → Type 0
PlainRefutation th blocks d n x = refutations th 1 d n (goals_in blocks) ≡ x
