use Rattle.std.specs.Prelude.{codes, decimal}
use Rattle.circ_status.proofs.Joined.{on_ok_joined, place_joined}
use Rattle.circ_status.proofs.texts.push_place.Goals as goal

pub returns : goal.returns
returns c =
    on_ok_joined c.extend_from_slice.result c.push_numbered-2.new.out.items c.extend_from_slice.new.self.items (codes ", ") _ c.extend_from_slice.ensures.items
    (rw (c.in_ok-push_numbered-2.ensures, c.in_ok-push_numbered.ensures, c.from.ensures)
    (place_joined c.args.out.now.items (codes "unreadable: file ") (decimal c.args.file) c.args.words.now (decimal c.args.place) (codes ", ")))
