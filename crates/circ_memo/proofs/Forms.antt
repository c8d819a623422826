-- What is kept stays right when terms are added, and when more is kept.
use Rattle.std.proofs.Common.{ℕ, List, [], ◌∷◌, Option}
use Rattle.circ_term.specs.Tree.{Tree}
use Rattle.circ_rewrite.specs.Replacement.{Replacement}
use Rattle.circ_rewrite.specs.declared.fault.RewriteFault.{RewriteFault}
use Rattle.circ_rewrite.specs.declared.fault.RewriteFault.TheVariants.{Spent, TooBig, TooDeep, Memory}
use Rattle.circ_term.specs.Growing.{Grows}
use Rattle.circ_nodes.proofs.Numbers.{named_later, are_named_later}
use Rattle.circ_memo.proofs.Telling.{told_later}
use Rattle.circ_memo.specs.Keeping.{IsForm, AreKept}
use Rattle.circ_memo.specs.Settling.{Stops, IsWay, IsPassed, ArePassed, IsPassing}
use Rattle.circ_memo.specs.declared.parts.Bounds.{Bounds}
use Rattle.circ_memo.specs.declared.parts.Entry.{Entry}
use Rattle.circ_memo.specs.declared.parts.Way.{Way}
use Rattle.circ_memo.specs.declared.parts.Step.{Step}
use Rattle.circ_memo.specs.declared.parts.Passing.{Passing}
use Rattle.circ_memo.specs.declared.parts.Stop.{Stop}
use Rattle.circ_memo.specs.declared.parts.Stop.TheVariants as stop

module _ (due : Tree → Option Replacement) where
  module _ (old new : List Tree) (g : Grows old new) where
    pub form_later : (t : Tree) (e : Entry) → IsForm due old t e → IsForm due new t e
    form_later t e f = record { value = f.value; traces = f.traces; there = named_later old new e.value f.value g f.there; form = f.form }

    pub kept_later : (es : List (Option Entry)) → AreKept due old es → AreKept due new es
    kept_later es h n e k =
        let a = h n e k in
        record {
          term = a.term;
          here = named_later old new n a.term g a.here;
          form = form_later a.term e a.form;
          told = told_later es old new g due n a.term e a.told;
        }

    pub way_later : (b : Bounds) (t : Tree) (w : Way) (u : Tree) → IsWay due old b t w u → IsWay due new b t w u
    way_later b t w u h = record {
      traces = h.traces;
      there = named_later old new w.ready u g h.there;
      count = h.count;
      readies = h.readies;
      small = h.small;
      shallow = h.shallow;
    }

    pub passed_later : (b : Bounds) (t : Tree) (s : Step) (v : Tree) → IsPassed due old b t s v → IsPassed due new b t s v
    passed_later b t s v h = record {
      ready = h.ready;
      replacement = h.replacement;
      here = named_later old new s.here t g h.here;
      way = way_later b t s.way h.ready h.way;
      is_due = h.is_due;
      next = named_later old new s.next v g h.next;
      new = h.new;
      small = h.small;
      shallow = h.shallow;
    }

    pub are_passed_later : (b : Bounds) (t : Tree) (ss : List Step) (u : Tree) → ArePassed due old b t ss u → ArePassed due new b t ss u
    are_passed_later b t [] u h = h
    are_passed_later b t (s ∷ ss) u h = (h.0, passed_later b t s h.0 h.1, are_passed_later b h.0 ss u h.2)

    pub passing_later : (b : Bounds) (t : Tree) (i : ℕ) (p : Passing) → IsPassing due old b t i p → IsPassing due new b t i p
    passing_later b t i p h = record {
      args = h.args;
      traces = h.traces;
      named = are_named_later old new p.args.items h.args g h.named;
      few = h.few;
      within = h.within;
      size = h.size;
      depth = h.depth;
      count = h.count;
      through = h.through;
      small = h.small;
      shallow = h.shallow;
    }

    pub stops_later : (b : Bounds) (k left : ℕ) (t : Tree) (s : Stop) → Stops due old b k left t s → Stops due new b k left t s
    stops_later b k left t (stop.Fault e) h = faulted e h
      where
        faulted : (e : RewriteFault) → Stops due old b k left t (stop.Fault e) → Stops due new b k left t (stop.Fault e)
        faulted Spent h = h
        faulted (TooBig n) h = h
        faulted (TooDeep n) h = h
        faulted Memory h = h
    stops_later b k left t (stop.Outgrows m) h = (h.0, named_later old new m h.0 g h.1, h.2)
