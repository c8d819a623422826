use Rattle.std.proofs.Common.{refl}
use Rattle.circ_written.specs.Nodes.{Rope, Nothing, And_link, And_row, Around, No_parts, And_part, All_parts, rope_at}
use Rattle.circ_written.specs.Writing.{RowOpens, PartsOpen}
use Rattle.circ_written.specs.declared.nodes.Node.TheVariants as node
use Rattle.circ_written.proofs.Ropes.{node_as, node_within}
use Rattle.circ_written.proofs.Opened.{on_ok, of_rope, opens_no_row, opens_between, opens_cases}
use Rattle.circ_written.proofs.writing.open_row.Goals as goal

pub returns-in-Empty : goal.returns-in-Empty
returns-in-Empty c =
    opens_no_row c.args.nodes.now c.args.way c.args.ahead.now.items (rope_at c.args.nodes.now c.args.number)
    Nothing
    (node_as c.args.nodes.now c.requires.nodes c.args.number c.index-nodes-number.result node.Empty c.index-nodes-number.is c.requires.within c.in-Empty.is)
    refl

pub returns-in-NoPart : goal.returns-in-NoPart
returns-in-NoPart c =
    opens_no_row c.args.nodes.now c.args.way c.args.ahead.now.items (rope_at c.args.nodes.now c.args.number)
    No_parts
    (node_as c.args.nodes.now c.requires.nodes c.args.number c.index-nodes-number.result node.NoPart c.index-nodes-number.is c.requires.within c.in-NoPart.is)
    refl

pub returns-in-Part : goal.returns-in-Part
returns-in-Part c =
    opens_no_row c.args.nodes.now c.args.way c.args.ahead.now.items (rope_at c.args.nodes.now c.args.number)
    (And_part (rope_at c.args.nodes.now c.in-Part.first) (rope_at c.args.nodes.now c.in-Part.others))
    (node_as c.args.nodes.now c.requires.nodes c.args.number c.index-nodes-number.result (node.Part c.in-Part.first c.in-Part.others) c.index-nodes-number.is c.requires.within c.in-Part.is)
    refl

pub open_link-requires : goal.open_link-requires
open_link-requires c = (node_within c.args.nodes.now c.requires.nodes c.args.number c.index-nodes-number.result (node.Link c.in-Link.first c.in-Link.row) c.index-nodes-number.is c.requires.within c.in-Link.is).1

pub returns-in-Link : goal.returns-in-Link
returns-in-Link c =
    let a = node_within c.args.nodes.now c.requires.nodes c.args.number c.index-nodes-number.result (node.Link c.in-Link.first c.in-Link.row) c.index-nodes-number.is c.requires.within c.in-Link.is in
    of_rope c.open_link.result (RowOpens c.args.nodes.now c.args.way c.args.ahead.now.items c.open_link.new.ahead.items)
    (rope_at c.args.nodes.now c.args.number) (And_link (rope_at c.args.nodes.now c.in-Link.first) c.in-Link.row)
    (node_as c.args.nodes.now c.requires.nodes c.args.number c.index-nodes-number.result (node.Link c.in-Link.first c.in-Link.row) c.index-nodes-number.is c.requires.within c.in-Link.is)
    (c.open_link.ensures c.args.nodes.now a.0)

pub returns-in-Behind : goal.returns-in-Behind
returns-in-Behind c =
    let a = node_within c.args.nodes.now c.requires.nodes c.args.number c.index-nodes-number.result (node.Behind c.in-Behind.first c.in-Behind.own c.in-Behind.next) c.index-nodes-number.is c.requires.within c.in-Behind.is in
    of_rope c.open_behind.result (RowOpens c.args.nodes.now c.args.way c.args.ahead.now.items c.open_behind.new.ahead.items)
    (rope_at c.args.nodes.now c.args.number) (And_row (rope_at c.args.nodes.now c.in-Behind.first) c.in-Behind.own (rope_at c.args.nodes.now c.in-Behind.next))
    (node_as c.args.nodes.now c.requires.nodes c.args.number c.index-nodes-number.result (node.Behind c.in-Behind.first c.in-Behind.own c.in-Behind.next) c.index-nodes-number.is c.requires.within c.in-Behind.is)
    (c.open_behind.ensures c.args.nodes.now a.0 a.1)

pub returns-in-Between : goal.returns-in-Between
returns-in-Between c =
    let a = node_within c.args.nodes.now c.requires.nodes c.args.number c.index-nodes-number.result (node.Between c.in-Between.left c.in-Between.middle c.in-Between.right) c.index-nodes-number.is c.requires.within c.in-Between.is in
    on_ok c.open_three.result
    (opens_between c.args.nodes.now c.args.way c.args.ahead.now.items c.open_three.new.ahead.items (rope_at c.args.nodes.now c.args.number)
    c.in-Between.left c.in-Between.middle c.in-Between.right
    (node_as c.args.nodes.now c.requires.nodes c.args.number c.index-nodes-number.result (node.Between c.in-Between.left c.in-Between.middle c.in-Between.right) c.index-nodes-number.is c.requires.within c.in-Between.is) a.0 a.1.0 a.1.1)
    c.open_three.ensures

pub returns-in-Cases : goal.returns-in-Cases
returns-in-Cases c =
    on_ok c.open_cases.result
    (opens_cases c.args.nodes.now c.args.way c.args.ahead.now.items c.open_cases.new.ahead.items (rope_at c.args.nodes.now c.args.number)
    c.in-Cases.term c.in-Cases.parts
    (node_as c.args.nodes.now c.requires.nodes c.args.number c.index-nodes-number.result (node.Cases c.in-Cases.term c.in-Cases.parts) c.index-nodes-number.is c.requires.within c.in-Cases.is)
    (node_within c.args.nodes.now c.requires.nodes c.args.number c.index-nodes-number.result (node.Cases c.in-Cases.term c.in-Cases.parts) c.index-nodes-number.is c.requires.within c.in-Cases.is))
    c.open_cases.ensures
