use Rattle.std.proofs.Common.{◌+◌, length, refl, arith}
use Rattle.circ_nodes.specs.Named.{tree_at}
use Rattle.circ_nodes.proofs.Located.{tree_named}
use Rattle.circ_keeping.specs.Marks.{HasMark, IsArgument}
use Rattle.circ_keeping.proofs.Marked.{marks_as, marks_arguments, arguments_lower, all_lower}
use Rattle.circ_keeping.proofs.marking.mark_arguments.Goals as goal

pub mark_all-requires : goal.mark_all-requires
mark_all-requires c =
    all_lower c.in-Application.args.now (c.args.count + c.args.place) (c.args.count + length c.args.marks.now) (omega arith) c.in-Application.ensures.before

pub returns-in-Application-clause-set : goal.returns-in-Application-clause-set
returns-in-Application-clause-set c =
    let nodes = c.args.nodes.now in
    let n = c.args.count + c.args.place in
    let app = c.in-Application in
    let shape = app.ensures.shape (tree_at nodes n) (tree_named nodes n c.requires.there) in
    let found = marks_arguments nodes c.args.count n app.op app.sort app.args.now shape.0 shape.1 shape.2 c.args.marks.now c.mark_all.new.marks c.known.ensures.once c.mark_all.ensures in
    marks_as (λ i. IsArgument nodes (c.args.count + i) n) (λ i. HasMark c.args.marks.now c.args.place × IsArgument nodes (c.args.count + i) n) c.args.marks.now c.mark_all.new.marks
    (λ i p. (c.if-not-marks-place.false, p)) (λ i p. p.1) found

pub returns-in-Application-clause-lower : goal.returns-in-Application-clause-lower
returns-in-Application-clause-lower c = λ h.
    let nodes = c.args.nodes.now in
    let n = c.args.count + c.args.place in
    let app = c.in-Application in
    let shape = app.ensures.shape (tree_at nodes n) (tree_named nodes n c.requires.there) in
    arguments_lower nodes c.args.count n app.op app.sort app.args.now shape.0 shape.1 shape.2 c.args.place refl c.known.ensures.once app.ensures.before
