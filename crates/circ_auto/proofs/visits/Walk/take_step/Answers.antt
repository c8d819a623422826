use Rattle.std.proofs.Common.{◌≡◌, ◌<◌, length, ◌+◌, slice_get, Some, true, false, arith, ◌∙◌, sym, ap, refl}
use Rattle.circ_auto.specs.declared.visits.Visit.{Visit}
use Rattle.circ_auto.specs.Graph.{Graph}
use Rattle.circ_auto.proofs.Shortest.{inside_list}
use Rattle.circ_auto.proofs.Keeping.{step_seen, step_new, get_is}
use Rattle.circ_auto.specs.Knows.{graph_of}
use Rattle.circ_auto.proofs.visits.Walk.take_step.Goals as goal

pub returns-then-index-clause-taken : goal.returns-then-index-clause-taken
returns-then-index-clause-taken c =
    let s = c.args.self.now in
    let g : Graph = graph_of s in
    let ok = c.requires.knows in
    let inside : c.step-point.result < length s.seen.items = omega (arith, c.step-point.ensures.below, ok.points) in
    let seen : slice_get s.seen.items (g.step c.args.visit.point c.args.letter) ≡ Some true = rw (sym c.step-point.ensures.step) (get_is s.seen.items c.step-point.result c.index.result.now inside c.index.ensures ∙ ap Some c.if-index.true) in
    (step_seen g s.visits.items s.seen.items c.args.head c.args.letter c.args.visit ok c.requires.visit seen, c.requires.visit)

pub overflow_add-next : goal.overflow_add-next
overflow_add-next c =
    let s = c.args.self.now in
    omega (arith, c.requires.knows.shallow c.args.head c.args.visit c.requires.visit, inside_list s.visits.items c.args.head c.args.visit c.requires.visit, c.requires.knows.counted, c.known.ensures.few)

pub returns-clause-taken : goal.returns-clause-taken
returns-clause-taken c =
    let s = c.args.self.now in
    let g : Graph = graph_of s in
    let ok = c.requires.knows in
    let n : Visit = record { point = c.step-point.result; parent = c.args.head; letter = c.args.letter; depth = c.args.visit.depth + 1 } in
    let inside : c.step-point.result < length s.seen.items = omega (arith, c.step-point.ensures.below, ok.points) in
    let new : slice_get s.seen.items c.step-point.result ≡ Some false = get_is s.seen.items c.step-point.result c.index.result.now inside c.index.ensures ∙ ap Some c.if-index.false in
    rw c.in_ok-push.ensures.items
    (step_new g s.visits.items s.seen.items c.args.head c.args.letter c.args.visit n c.known.ensures.closed ok c.requires.visit c.requires.letter
    c.step-point.ensures.step refl refl refl (sym c.is_goal.ensures ∙ c.if-is_goal.false) new)
