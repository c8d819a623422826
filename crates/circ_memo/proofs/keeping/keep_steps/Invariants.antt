use Rattle.std.proofs.Common.{◌≡◌, ℕ, ◌+◌, length, Option}
use Rattle.std.specs.List.{AllByRecursion}
use Rattle.circ_term.specs.Tree.{Tree}
use Rattle.circ_rewrite.specs.Replacement.{Replacement}
use Rattle.circ_memo.specs.Keeping.{AreKept, IsForm, IsInBounds, IsNumberKept, Stays}
use Rattle.circ_memo.specs.Settling.{ArePassed, AreLinked, IsStepIn, passed_count}
use Rattle.circ_memo.specs.declared.parts.Bounds.{Bounds}
use Rattle.circ_memo.proofs.keeping.keep_steps.Given as goal

abbrev pub invariant-loop-step : goal.invariant-loop-step
invariant-loop-step l = record {
  nodes : l.store.nodes ≡ l.initial.store.nodes;
  there : AllByRecursion (IsStepIn l.store.nodes) l.steps.items;
  count : passed_count l.steps.items + l.last.count ≡ passed_count l.initial.steps.items + l.initial.last.count;
  kept :
      (due : Tree → Option Replacement) (b : Bounds) (t u : Tree) (n m : ℕ) → AreKept due l.initial.store.nodes l.initial.store.entries
      → ArePassed due l.initial.store.nodes b t l.initial.steps.items u → IsForm due l.initial.store.nodes u l.initial.last → IsInBounds b l.initial.last
      → AreLinked l.initial.store.nodes l.initial.store.entries n l.initial.steps.items m → IsNumberKept l.initial.store.entries m l.initial.last.count
      → (k : ℕ) × AreKept due l.store.nodes l.store.entries × Stays l.initial.store.entries l.store.entries
      × AreLinked l.store.nodes l.store.entries n l.steps.items k × IsNumberKept l.store.entries k l.last.count;
  form :
      (due : Tree → Option Replacement) (b : Bounds) (t u : Tree)
      → ArePassed due l.initial.store.nodes b t l.initial.steps.items u → IsForm due l.initial.store.nodes u l.initial.last → IsInBounds b l.initial.last
      → (v : Tree) × ArePassed due l.store.nodes b t l.steps.items v × IsForm due l.store.nodes v l.last × IsInBounds b l.last;
}

abbrev pub decreases-loop-step : goal.decreases-loop-step
decreases-loop-step l = length l.steps.items
