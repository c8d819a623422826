use Rattle.circ_theory.specs.Operators.{operator_of}
use Rattle.circ_nodes.specs.Named.{tree_at}
use Rattle.circ_forms.proofs.Ways.{way_before, way_behind}
use Rattle.circ_forms.proofs.deciding.decide_two.Goals as goal

pub returns-then-is_behind : goal.returns-then-is_behind
returns-then-is_behind c =
    let nodes = c.args.nodes.now in (
      c.requires.second,
      c.requires.first,
      way_before (operator_of c.args.decl.now) c.args.op (tree_at nodes c.args.number) (tree_at nodes c.args.first) (tree_at nodes c.args.second)
          c.is_behind.result c.requires.operands c.requires.assoc c.requires.apart c.is_behind.ensures c.if-is_behind.true,
    )

pub returns : goal.returns
returns c =
    let nodes = c.args.nodes.now in (
      c.requires.first,
      c.requires.second,
      way_behind (operator_of c.args.decl.now) c.args.op (tree_at nodes c.args.number) (tree_at nodes c.args.first) (tree_at nodes c.args.second)
          c.is_behind.result c.requires.operands c.requires.assoc c.requires.apart c.is_behind.ensures c.if-is_behind.false,
    )
