-- Where a refutation stands, and what a turn of it comes to.
use Rattle.std.specs.Prelude.{◌≡◌, ℕ, ◌+◌, ◌*◌, ◌≤◌, ◌<◌, ◌^◌, zero, suc, List, [], ◌∷◌, map, length, Result, Ok, Err}
use Rattle.std.specs.List.{AllByRecursion}
use Rattle.circ_term.specs.Tree.{Tree}
use Rattle.circ_theory.specs.Limits.{derivative_limit}
use Rattle.circ_theory.specs.Theory.{Theory, Pair, pair_with, IsWellSortedPair}
use Rattle.circ_theory.specs.Fresh.{above}
use Rattle.circ_theory.specs.Goal.{Goal}
use Rattle.circ_rewrite.specs.TheoryRules.{theory_rules}
use Rattle.circ_memo.specs.Value.{Rewriting}
use Rattle.circ_entry.specs.Entries.{Written}
use Rattle.circ_refute.specs.PlainRefutation.{Waiting, waiting, Conclusion, conclude, Spent, Expanding, grow, judge, children, first_parameter, refute}
use Rattle.circ_refute.specs.Plain.{plain_refuted, plain_waiting, pair_of, led_to}
use Rattle.circ_refute.specs.declared.descendant.Descendant.{Descendant}
use Rattle.circ_refute.specs.declared.halt.Halt.{Halt}
use Rattle.circ_refute.specs.declared.halt.Halt.TheVariants as halt
use Rattle.circ_refute.specs.declared.refuter.Refuter.{Refuter}

-- the pairs that wait, those that were expanded, and what is left of the budgets
pub record Progress : Type 0 where
  pub queue : List Waiting
  pub expanded : List Pair
  pub rewrites : ℕ
  pub derives : ℕ

abbrev pub progress_with : List Waiting → List Pair → (rewrites derives : ℕ) → Progress
progress_with ws seen n d = record { queue = ws; expanded = seen; rewrites = n; derives = d }

abbrev pub plain_queue : Theory → (expanded queue : List Descendant) → List Waiting
plain_queue th xs ys = map (plain_waiting th (led_to th xs)) ys

abbrev pub progress_of : Theory → (expanded queue : List Descendant) → (rewrites derives : ℕ) → Progress
progress_of th xs ys n d = progress_with (plain_queue th xs ys) (map pair_of xs) n d

abbrev pub progress : Refuter → Progress
progress r = progress_of r.theory.now r.expanded.items r.queue.items r.rewrites r.derives

-- at the start the goal alone waits
abbrev pub first_progress : Goal → (rewrites derives : ℕ) → Progress
first_progress g n d = progress_with (waiting g.left g.right [] ∷ []) [] n d

-- how much may still be done: an expansion adds a pair for each derivative at most
abbrev pub work : Progress → ℕ
work p = derivative_limit * p.derives + length p.queue

-- what terms are rewritten by
abbrev pub rewriting_in : Theory → Rewriting
rewriting_in th = record { theory = th; rules = theory_rules th; assumptions = [] }

-- what is found from here on
abbrev pub conclusion_from : Theory → Progress → Conclusion
conclusion_from th p = refute th p.derives p.rewrites p.expanded p.queue

-- on expanding a pair, where so many Derives are left
abbrev pub expanding : Theory → (derives : ℕ) → Expanding
expanding th zero = λ by l m n seen ws. conclude Spent n 0
expanding th (suc d) = λ by l m n seen ws. grow (refute th d) d l m n seen ws (children by l m (first_parameter l m) 0 th.derivatives)

abbrev pub conclusion_of_expanding : Theory → Progress → List Written → (left right : Tree) → Conclusion
conclusion_of_expanding th p by l m = expanding th p.derives by l m p.rewrites p.expanded p.queue

abbrev pub conclusion_of_pair : Theory → Progress → List Written → (left right : Tree) → Conclusion
conclusion_of_pair th p by l m = judge th (conclusion_from th p) (conclusion_of_expanding th p by l m) p.derives by l m p.rewrites p.expanded

-- both terms are well-sorted, of one sort, with variables of numbers below the bound
pub record IsLowPair (th : Theory) (bound : ℕ) (l m : Tree) : Type 0 where
  pub sorted : IsWellSortedPair th.signature (pair_with l m)
  pub left : above l ≤ bound
  pub right : above m ≤ bound

abbrev pub AreLowPairs : Theory → (bound : ℕ) → List Waiting → Type 0
AreLowPairs th bound ws = AllByRecursion (λ w. IsLowPair th bound w.left w.right) ws

-- There is a bound below which the variables of the pairs have their numbers, with room for the parameters to come.
pub record HasRoom (th : Theory) (p : Progress) : Type 0 where
  pub bound : ℕ
  pub some : 1 ≤ bound
  pub room : bound + 8 * p.derives + 8 ≤ 2 ^ 32
  pub pairs : AreLowPairs th bound p.queue

-- the same, with a pair in hand
pub record HasRoomFor (th : Theory) (p : Progress) (l m : Tree) : Type 0 where
  pub rest : HasRoom th p
  pub pair : IsLowPair th rest.bound l m

-- What it halts with is what is found, with what is left of the budgets; or memory ran out.
abbrev pub HaltsWith : Conclusion → Progress → Halt → Type 0
HaltsWith c p (halt.Found r) = c ≡ conclude (plain_refuted r) p.rewrites p.derives
HaltsWith c p halt.Memory = Unit {0}

-- It goes on to the same conclusion, with less to be done than this; or it halts with it.
abbrev pub GoesOn : {X : Type 0} → Theory → Conclusion → (most : ℕ) → Progress → Result X Halt → Type 0
GoesOn th c most p (Ok x) = (c ≡ conclusion_from th p) × HasRoom th p × (work p < most)
GoesOn th c most p (Err e) = HaltsWith c p e
