use Rattle.std.proofs.Common.{◌≡◌, ◌≤◌, ◌+◌, ◌*◌, length}
use Rattle.circ_term.specs.Tree.{Tree}
use Rattle.circ_nodes.specs.Named.{IsNamed}
use Rattle.circ_due.specs.Chosen.{due_by}
use Rattle.circ_memo.specs.Settling.{IsWithin, ArePassed, AreLinked, IsPassing, HasPassed, passed_count}
use Rattle.circ_memo.specs.Working.{IsStore, Extends}
use Rattle.circ_memo.proofs.Stores.{depth_named}
use Rattle.circ_memo.proofs.settling.+settle.Given as goal

-- a replacement takes one from the budget, and makes a term of depth 1,000 at most
abbrev pub decreases-settle : goal.decreases-settle
decreases-settle l = l.budget.now * 4004 + 4 * depth_named l.store.now.nodes l.number + 3

abbrev pub decreases-turn : goal.decreases-turn
decreases-turn l = l.budget.now * 4004 + 4 * depth_named l.store.now.nodes l.here + 2

abbrev pub decreases-settle_args : goal.decreases-settle_args
decreases-settle_args l = l.budget.now * 4004 + 4 * depth_named l.store.now.nodes l.here + 1

abbrev pub decreases-settle_arg : goal.decreases-settle_arg
decreases-settle_arg l = (l.budget.now + l.passing.now.count) * 4004 + 4 * l.passing.now.depth

abbrev pub invariant-settle-loop-stop : goal.invariant-settle-loop-stop
invariant-settle-loop-stop l = record {
  store : IsStore l.means l.store;
  extends : Extends l.initial.store l.store;
  way :
      (t u : Tree) × IsNamed l.initial.store.nodes l.number t × IsNamed l.store.nodes l.here u × ArePassed (due_by l.means) l.store.nodes l.bounds t l.steps.items u
      × IsWithin l.bounds u;
  linked : AreLinked l.store.nodes l.store.entries l.number l.steps.items l.here;
  count : passed_count l.steps.items + l.budget ≡ l.initial.budget;
  mark : l.mark ≤ length l.steps.items;
  below : l.budget * 4004 + 4 * depth_named l.store.nodes l.here ≤ l.initial.budget * 4004 + 4 * depth_named l.initial.store.nodes l.number;
}

abbrev pub decreases-settle-loop-stop : goal.decreases-settle-loop-stop
decreases-settle-loop-stop l = l.budget

abbrev pub invariant-settle_args-loop-place : goal.invariant-settle_args-loop-place
invariant-settle_args-loop-place l = record {
  store : IsStore l.means l.store;
  extends : Extends l.initial.store l.store;
  passing :
      (t : Tree) × IsNamed l.initial.store.nodes l.here t × IsPassing (due_by l.means) l.store.nodes l.bounds t l.place l.passing
      × HasPassed l.store.nodes l.store.entries t l.place l.passing;
  len : length l.passing.args.items ≡ l.len;
  count : l.budget + l.passing.count ≡ l.initial.budget;
}
