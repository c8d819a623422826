use Rattle.std.proofs.Common.{◌%◌, ◌+◌, length}
use Rattle.std.specs.Prelude.{slice_index}
use Rattle.circ_index.proofs.Seeking.{next_within}
use Rattle.circ_index.proofs.rows.Rows.is_long.Goals as goal

pub loop-count-init : goal.loop-count-init
loop-count-init c = λ few.
    let x = c.args.self.now in
    next_within x.keys x.width (length x.keys) (c.args.key % x.width) 0 c.first-place.result c.first-place.ensures few

pub loop-count-preserved : goal.loop-count-preserved
loop-count-preserved c = λ few.
    let x = c.args.self.now in
    next_within x.keys x.width (length x.keys) (slice_index x.keys c.loop-count.place % x.width) (c.loop-count.place + 1) c.behind-place.result c.behind-place.ensures few
