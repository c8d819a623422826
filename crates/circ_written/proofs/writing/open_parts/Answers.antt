use Rattle.std.proofs.Common.{refl}
use Rattle.circ_written.specs.Nodes.{Rope, Nothing, And_link, And_row, Around, No_parts, And_part, All_parts, rope_at}
use Rattle.circ_written.specs.Writing.{RowOpens, PartsOpen}
use Rattle.circ_written.specs.declared.nodes.Node.TheVariants as node
use Rattle.circ_written.proofs.Ropes.{node_as, node_within}
use Rattle.circ_written.proofs.Opened.{on_ok, opens_no_parts, opens_part}
use Rattle.circ_written.proofs.writing.open_parts.Goals as goal

pub returns-in-Part : goal.returns-in-Part
returns-in-Part c =
    let a = node_within c.args.nodes.now c.requires.nodes c.args.number c.index-nodes-number.result (node.Part c.in-Part.first c.in-Part.others) c.index-nodes-number.is c.requires.within c.in-Part.is in
    on_ok c.open_part.result
    (opens_part c.args.nodes.now c.args.way c.args.ahead.now.items c.open_part.new.ahead.items (rope_at c.args.nodes.now c.args.number) c.in-Part.first
    c.in-Part.others (node_as c.args.nodes.now c.requires.nodes c.args.number c.index-nodes-number.result (node.Part c.in-Part.first c.in-Part.others) c.index-nodes-number.is c.requires.within c.in-Part.is) a.0 a.1)
    c.open_part.ensures

pub returns-in-Empty : goal.returns-in-Empty
returns-in-Empty c =
    opens_no_parts c.args.nodes.now c.args.way c.args.ahead.now.items (rope_at c.args.nodes.now c.args.number)
    Nothing
    (node_as c.args.nodes.now c.requires.nodes c.args.number c.index-nodes-number.result node.Empty c.index-nodes-number.is c.requires.within c.in-Empty.is)
    refl

pub returns-in-Link : goal.returns-in-Link
returns-in-Link c =
    opens_no_parts c.args.nodes.now c.args.way c.args.ahead.now.items (rope_at c.args.nodes.now c.args.number)
    (And_link (rope_at c.args.nodes.now c.in-Link.first) c.in-Link.row)
    (node_as c.args.nodes.now c.requires.nodes c.args.number c.index-nodes-number.result (node.Link c.in-Link.first c.in-Link.row) c.index-nodes-number.is c.requires.within c.in-Link.is)
    refl

pub returns-in-Behind : goal.returns-in-Behind
returns-in-Behind c =
    opens_no_parts c.args.nodes.now c.args.way c.args.ahead.now.items (rope_at c.args.nodes.now c.args.number)
    (And_row (rope_at c.args.nodes.now c.in-Behind.first) c.in-Behind.way (rope_at c.args.nodes.now c.in-Behind.next))
    (node_as c.args.nodes.now c.requires.nodes c.args.number c.index-nodes-number.result (node.Behind c.in-Behind.first c.in-Behind.way c.in-Behind.next) c.index-nodes-number.is c.requires.within c.in-Behind.is)
    refl

pub returns-in-Between : goal.returns-in-Between
returns-in-Between c =
    opens_no_parts c.args.nodes.now c.args.way c.args.ahead.now.items (rope_at c.args.nodes.now c.args.number)
    (Around (rope_at c.args.nodes.now c.in-Between.left) (rope_at c.args.nodes.now c.in-Between.middle) (rope_at c.args.nodes.now c.in-Between.right))
    (node_as c.args.nodes.now c.requires.nodes c.args.number c.index-nodes-number.result (node.Between c.in-Between.left c.in-Between.middle c.in-Between.right) c.index-nodes-number.is c.requires.within c.in-Between.is)
    refl

pub returns-in-NoPart : goal.returns-in-NoPart
returns-in-NoPart c =
    opens_no_parts c.args.nodes.now c.args.way c.args.ahead.now.items (rope_at c.args.nodes.now c.args.number)
    No_parts
    (node_as c.args.nodes.now c.requires.nodes c.args.number c.index-nodes-number.result node.NoPart c.index-nodes-number.is c.requires.within c.in-NoPart.is)
    refl

pub returns-in-Cases : goal.returns-in-Cases
returns-in-Cases c =
    opens_no_parts c.args.nodes.now c.args.way c.args.ahead.now.items (rope_at c.args.nodes.now c.args.number)
    (All_parts c.in-Cases.term (rope_at c.args.nodes.now c.in-Cases.parts))
    (node_as c.args.nodes.now c.requires.nodes c.args.number c.index-nodes-number.result (node.Cases c.in-Cases.term c.in-Cases.parts) c.index-nodes-number.is c.requires.within c.in-Cases.is)
    refl
