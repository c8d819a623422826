-- What is said of words is said of the same words.
use Rattle.std.proofs.Common.{◌≡◌, ℕ, List, subst}
use Rattle.std.specs.Str.Lines.{lines as lines_of}
use Rattle.circ_outer.specs.Shelf.{ShelfState}
use Rattle.circ_outer.specs.Sink.{SinkState}
use Rattle.circ_status.specs.declared.status.Status.{Status}
use Rattle.circ_page.specs.Page.{RunsPage}

pub run_moved : {v w theory goals proof : List ℕ} {r : Status} {after : ShelfState} {end : SinkState} → v ≡ w
    → RunsPage (lines_of v) theory goals proof r after end → RunsPage (lines_of w) theory goals proof r after end
run_moved {v} {w} {theory} {goals} {proof} {r} {after} {end} e = subst (λ u. RunsPage (lines_of u) theory goals proof r after end) e
