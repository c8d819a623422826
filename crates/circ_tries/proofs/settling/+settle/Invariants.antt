use Rattle.std.proofs.Common.{◌≡◌, ◌≤◌, ◌+◌, ◌-◌, ◌*◌, List, [], ◌∷◌, drop, map, length}
use Rattle.circ_term.specs.Tree.{Tree, args_of}
use Rattle.circ_term.specs.Subst.{substitution_of}
use Rattle.circ_theory.specs.Pairs.{plain_pair}
use Rattle.circ_rewrite.specs.Replacement.{Traced}
use Rattle.circ_nodes.specs.Named.{IsNamed}
use Rattle.circ_due.specs.Bounds.{bounds_in}
use Rattle.circ_conditional_norm.specs.Tries.{conditions_hold, rules_tried}
use Rattle.circ_conditional_norm.specs.Within.{IsInRoom}
use Rattle.circ_conditional_norm.specs.Work.{map_found}
use Rattle.circ_tries.specs.Store.{HasWorked}
use Rattle.circ_tries.specs.Turning.{plain_room, GoesOn, IsAlike, Writes}
use Rattle.circ_tries.specs.Trying.{conditions_by, due_in, norm_by, passes_before}
use Rattle.circ_tries.proofs.Measures.{depth_at}
use Rattle.circ_tries.proofs.settling.+settle.Given as goal

-- a replacement or a try takes one from the budget, and makes terms of depth 1,000 at most
abbrev pub decreases-settle_whole : goal.decreases-settle_whole
decreases-settle_whole l = l.budget.now * 20020 + 16 * depth_at l.store.now.nodes l.number + 8

abbrev pub decreases-settle : goal.decreases-settle
decreases-settle l = l.budget.now * 20020 + 16 * depth_at l.store.now.nodes l.number + 7

abbrev pub decreases-turn : goal.decreases-turn
decreases-turn l = l.budget.now * 20020 + 16 * depth_at l.store.now.nodes l.here + 6

abbrev pub decreases-settle_args : goal.decreases-settle_args
decreases-settle_args l = l.budget.now * 20020 + 16 * depth_at l.store.now.nodes l.number + 5

abbrev pub decreases-settle_arg : goal.decreases-settle_arg
decreases-settle_arg l = l.budget.now * 20020 + 16 * depth_at l.store.now.nodes l.here + 4

abbrev pub decreases-advance : goal.decreases-advance
decreases-advance l = l.budget.now * 20020 + 3

abbrev pub decreases-find_due : goal.decreases-find_due
decreases-find_due l = l.budget.now * 20020 + 2

abbrev pub decreases-try_rules : goal.decreases-try_rules
decreases-try_rules l = l.budget.now * 20020 + 1

abbrev pub decreases-try_rule : goal.decreases-try_rule
decreases-try_rule l = l.budget.now * 20020

abbrev pub decreases-try_conditions : goal.decreases-try_conditions
decreases-try_conditions l = l.budget.now * 20020 + 16010

abbrev pub decreases-try_condition : goal.decreases-try_condition
decreases-try_condition l = l.budget.now * 20020 + 16009

abbrev pub invariant-settle-loop-stop : goal.invariant-settle-loop-stop
invariant-settle-loop-stop l = record {
  worked : HasWorked l.means l.initial.store l.store l.initial.budget l.budget;
  way :
      (t u : Tree) × (vs : List Traced) × IsNamed l.initial.store.nodes l.number t × IsNamed l.store.nodes l.here u
      × GoesOn (due_in l.means l.tries) l.room [] t l.initial.budget [] u vs l.budget × Writes l.initial.course.path.items l.initial.course l.course vs
      × IsInRoom (plain_room l.room) u;
  below : l.budget * 20020 + 16 * depth_at l.store.nodes l.here ≤ l.initial.budget * 20020 + 16 * depth_at l.initial.store.nodes l.number;
}

abbrev pub decreases-settle-loop-stop : goal.decreases-settle-loop-stop
decreases-settle-loop-stop l = l.budget

abbrev pub invariant-settle_args-loop-place : goal.invariant-settle_args-loop-place
invariant-settle_args-loop-place l = record {
  worked : HasWorked l.means l.initial.store l.store l.initial.budget l.budget;
  way :
      (t u : Tree) × (vs : List Traced) × IsNamed l.initial.store.nodes l.number t × IsNamed l.store.nodes l.here u
      × GoesOn (due_in l.means l.tries) l.room [] t l.initial.budget (l.place ∷ []) u vs l.budget
      × IsAlike t u × Writes l.initial.course.path.items l.initial.course l.course vs × IsInRoom (plain_room l.room) u × (length (args_of t) ≡ l.len);
  below : l.budget * 20020 + 16 * depth_at l.store.nodes l.here ≤ l.initial.budget * 20020 + 16 * depth_at l.initial.store.nodes l.number;
}

abbrev pub invariant-try_rules-loop-store : goal.invariant-try_rules-loop-store
invariant-try_rules-loop-store l = record {
  worked : HasWorked l.means l.initial.store l.store l.initial.budget l.budget;
  tried :
      (t : Tree) → IsNamed l.initial.store.nodes l.number t
      → rules_tried (conditions_by l.means l.tries) l.means.rules.items l.initial.budget t
      ≡ rules_tried (conditions_by l.means l.tries) (drop l.from l.means.rules.items) l.budget t;
}

abbrev pub decreases-try_rules-loop-store : goal.decreases-try_rules-loop-store
decreases-try_rules-loop-store l = length l.means.rules.items - l.from

abbrev pub invariant-try_conditions-loop-cond : goal.invariant-try_conditions-loop-cond
invariant-try_conditions-loop-cond l = record {
  worked : HasWorked l.means l.initial.store l.store l.initial.budget l.budget;
  held :
      conditions_hold (norm_by l.means l.tries) (substitution_of (bounds_in l.initial.store.nodes l.given)) (map plain_pair l.conds) l.initial.budget
      ≡ map_found (passes_before l.passes.items)
      (conditions_hold (norm_by l.means l.tries) (substitution_of (bounds_in l.initial.store.nodes l.given)) (map plain_pair (drop l.cond-index l.conds)) l.budget);
}
