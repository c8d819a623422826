use Rattle.std.proofs.Common.{◌≡◌, ◌<◌, ◌+◌, ◌*◌, ◌⊎◌, ℕ}
use Rattle.circ_term.specs.Tree.{Tree, Trees, App}
use Rattle.circ_rewrite.specs.Plain.{plain_traces}
use Rattle.circ_nodes.specs.Built.{AreBuilt}
use Rattle.circ_nodes.specs.Named.{IsNamed, AreNamed}
use Rattle.circ_due.specs.Chosen.{due_by}
use Rattle.circ_chain.specs.Listed.{Lists, ListsThrough}
use Rattle.circ_memo.specs.Keeping.{IsNumberKept}
use Rattle.circ_memo.specs.Listing.{count_at}
use Rattle.circ_memo.proofs.Stores.{depth_named}
use Rattle.circ_memo.proofs.listing.+list.Given as goal

-- an argument is less deep and has no more replacements, and the next term has fewer, and a depth of 1,000 at most
abbrev pub decreases-list : goal.decreases-list
decreases-list l = count_at l.store.now.entries l.number * 4004 + 4 * depth_named l.store.now.nodes l.number + 2

abbrev pub decreases-list_step : goal.decreases-list_step
decreases-list_step l = count_at l.store.now.entries l.here * 4004 + 4 * depth_named l.store.now.nodes l.here + 1

abbrev pub decreases-list_args : goal.decreases-list_args
decreases-list_args l = count_at l.store.now.entries l.here * 4004 + 4 * depth_named l.store.now.nodes l.here

abbrev pub decreases-list_arg : goal.decreases-list_arg
decreases-list_arg l = count_at l.store.now.entries l.arg * 4004 + 4 * depth_named l.store.now.nodes l.arg + 3

abbrev pub invariant-list-loop-next : goal.invariant-list-loop-next
invariant-list-loop-next l = record {
  kept : (c : ℕ) × IsNumberKept l.store.entries l.here c;
  built : AreBuilt l.store.nodes l.terms;
  path : l.path.items ≡ l.initial.path.items;
  lists :
      (t u : Tree) × IsNamed l.store.nodes l.number t × IsNamed l.store.nodes l.here u
      × Lists (due_by l.means) l.initial.path.items t u (plain_traces l.initial.traces.items) (plain_traces l.traces.items);
  fewer : (l.here ≡ l.number) ⊎ (count_at l.store.entries l.here < count_at l.store.entries l.number);
}

abbrev pub decreases-list-loop-next : goal.decreases-list-loop-next
decreases-list-loop-next l = count_at l.store.entries l.here

abbrev pub invariant-list_args-loop-place : goal.invariant-list_args-loop-place
invariant-list_args-loop-place l = record {
  built : AreBuilt l.store.nodes l.terms;
  path : l.path.items ≡ l.initial.path.items;
  lists :
      (f s : ℕ) × (ts us : Trees) × IsNamed l.store.nodes l.here (App f s ts) × AreNamed l.store.nodes l.args ts
      × ListsThrough (due_by l.means) l.initial.path.items f s l.place ts us (plain_traces l.initial.traces.items) (plain_traces l.traces.items);
}
