use Rattle.std.proofs.Common.{refl, ap, sym, subst, ◌∙◌, arith, [], length}
use Rattle.std.specs.List.{slice_get}
use Rattle.circ_term.specs.Tree.{args_of, size_of, depth_of}
use Rattle.circ_nodes.specs.Named.{tree_at}
use Rattle.circ_nodes.proofs.Numbers.{named_one, are_named_length}
use Rattle.circ_chain.specs.Through.{Through}
use Rattle.circ_chain.proofs.Settling.{through_start}
use Rattle.circ_memo.proofs.parts.Passing.begin.Goals as goal

pub returns-clause-begins : goal.returns-clause-begins
returns-clause-begins c = λ due b t n w.
    let shape = c.in-Application.ensures.shape t n in
    let is = named_one c.args.nodes.now c.args.number (tree_at c.args.nodes.now c.args.number) t c.known_at.ensures.named n in
    let items = c.in_ok-from_slice.ensures.ok in (
      record {
        args = shape.0;
        traces = [];
        named = rw items shape.2;
        few = omega (arith, c.in-Application.ensures.few t n, ap length items, ap (λ x. length (args_of x)) shape.1, are_named_length c.args.nodes.now c.in-Application.args.now shape.0 shape.2);
        within = w;
        size = c.size.ensures.exact ∙ ap size_of (is ∙ shape.1);
        depth = c.depth.ensures.exact ∙ ap depth_of is;
        count = refl;
        through = subst (λ x. Through due 0 0 x [] c.in-Application.op c.in-Application.sort 0 shape.0) (sym shape.1) (through_start due c.in-Application.op c.in-Application.sort shape.0);
        small = omega arith;
        shallow = omega arith;
      },
      refl,
    )

pub returns-clause-kept : goal.returns-clause-kept
returns-clause-kept c = λ es t n.
    let shape = c.in-Application.ensures.shape t n in
    let items = c.in_ok-from_slice.ensures.ok in
    record {
      op = c.in-Application.op;
      sort = c.in-Application.sort;
      args = shape.0;
      numbers = c.in-Application.args.now;
      is = shape.1;
      named = shape.2;
      long = sym (ap length items);
      kept = λ j m l g. absurd (omega (arith, l));
      rest = λ j l. ap (λ ns. slice_get ns j) items;
    }
