use Rattle.std.proofs.Common.{List, length, Some, ap, sym, subst, ◌∙◌, arith}
use Rattle.std.proofs.lemmas.List.{drop_all}
use Rattle.circ_term.specs.Tree.{Tree, App, args_of, trees_of}
use Rattle.circ_term.proofs.Trees.{list_of-trees_of}
use Rattle.circ_nodes.specs.Named.{tree_at}
use Rattle.circ_nodes.proofs.Adding.{Taken, taken_none, taken_more, taken_all}
use Rattle.circ_nodes.proofs.Building.{above_read, above_below, there_read, named_ok, built_put}
use Rattle.circ_nodes.proofs.Located.{tree_named}
use Rattle.circ_nodes.proofs.Numbers.{all_below, are_named_one, are_named_length}
use Rattle.circ_nodes.proofs.terms.Terms.+term.Goals as goal

pub build_all-loop-number-init : goal.build_all-loop-number-init
build_all-loop-number-init t c =
    let P : List Tree → Type 0 = Taken c.args.nodes.now c.args.numbers.now c.args.numbers.now in
    record {
      built = c.requires.built;
      taken = subst P (sym c.in_ok-terms.ensures.items) (taken_none c.args.nodes.now c.args.numbers.now);
    }

pub build_all-loop-number-preserved : goal.build_all-loop-number-preserved
build_all-loop-number-preserved t c =
    let at = c.loop-number in
    record {
      built = c.term.ensures.built;
      taken =
          taken_more c.args.nodes.now c.args.numbers.now at.number-index c.in_ok-term.field-0 at.terms.items c.push.new.self.items
          c.loop-number-test.true c.in_ok-term.ensures.named c.in_ok-push.ensures.items at.invariant.taken;
    }

pub build_all-returns-clause-named : goal.build_all-returns-clause-named
build_all-returns-clause-named t c =
    let at = c.loop-number in
    let end = drop_all at.number-index c.args.numbers.now c.loop-number-test.false in
    taken_all c.args.nodes.now c.args.numbers.now at.number-index at.terms.items end at.invariant.taken

pub build_all-term-requires : goal.build_all-term-requires
build_all-term-requires t c =
    let at = c.loop-number in (
      omega (arith, above_read c.args.numbers.now at.number-index c.loop-number-test.true),
      (there_read c.args.nodes.now c.args.numbers.now at.number-index c.requires.there c.loop-number-test.true, at.invariant.built),
    )

pub build-build_all-requires : goal.build-build_all-requires
build-build_all-requires t c =
    let nodes = c.args.nodes.now in
    let app = c.in-Application in
    let shape = app.ensures.shape (tree_at nodes c.args.number) (tree_named nodes c.args.number c.requires.there) in
    (omega (arith, above_below app.args.now c.args.number app.ensures.before), (all_below nodes app.args.now shape.0 shape.2, c.requires.built))

pub build-app-requires : goal.build-app-requires
build-app-requires t c =
    let nodes = c.args.nodes.now in
    let app = c.in-Application in
    let u = tree_at nodes c.args.number in
    let here = tree_named nodes c.args.number c.requires.there in
    let shape = app.ensures.shape u here in
    let items = c.in_ok-args-in-Application.args.items in
    let l = are_named_length nodes app.args.now (trees_of items) c.in_ok-args-in-Application.ensures.named in
    let m = are_named_length nodes app.args.now shape.0 shape.2 in
    omega (arith, l, m, ap length (list_of-trees_of items), ap (λ x. length (args_of x)) shape.1, app.ensures.few u here)

pub build-returns-in-Variable-clause-named : goal.build-returns-in-Variable-clause-named
build-returns-in-Variable-clause-named t c =
    let nodes = c.args.nodes.now in
    let here = tree_named nodes c.args.number c.requires.there in
    here ∙ ap Some (c.in-Variable.ensures.shape (tree_at nodes c.args.number) here ∙ sym c.var.ensures)

pub build-returns-in_ok-args-in-Application-clause-named : goal.build-returns-in_ok-args-in-Application-clause-named
build-returns-in_ok-args-in-Application-clause-named t c =
    let nodes = c.args.nodes.now in
    let app = c.in-Application in
    let here = tree_named nodes c.args.number c.requires.there in
    let shape = app.ensures.shape (tree_at nodes c.args.number) here in
    let items = c.in_ok-args-in-Application.args.items in
    let same = are_named_one nodes app.args.now shape.0 (trees_of items) shape.2 c.in_ok-args-in-Application.ensures.named in
    let t : Tree = App app.op app.sort (trees_of items) in
    named_ok c.or_memory.result nodes c.args.number t (here ∙ ap Some (shape.1 ∙ ap (App app.op app.sort) same)) (c.or_memory.ensures t c.app.ensures)

pub term-returns-clause-built : goal.term-returns-clause-built
term-returns-clause-built t c =
    built_put c.args.nodes.now c.self-2.inside.built.entries c.insert.new.self.entries c.args.number c.in_ok-share.field-0
    (rw (← c.self-2.view_is) at c.build.ensures.built) (c.in_ok-term.ensures.named ∙ ap Some (sym c.in_ok-share.ensures.same)) c.in_ok-insert.ensures.updates.0
