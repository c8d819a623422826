use Rattle.std.proofs.Common.{ℕ, ◌<◌, List, length, Some, ap, sym, subst, ◌∙◌, arith}
use Rattle.std.specs.List.{AllByRecursion}
use Rattle.circ_term.specs.Tree.{args_of}
use Rattle.circ_nodes.specs.Named.{AreNamed, tree_at}
use Rattle.circ_nodes.proofs.Located.{tree_named}
use Rattle.circ_nodes.proofs.Numbers.{are_named_length}
use Rattle.circ_keeping.proofs.taking.part_at.Goals as goal

pub returns-in_ok-args-in-Application : goal.returns-in_ok-args-in-Application
returns-in_ok-args-in-Application c =
    let nodes = c.args.nodes.now in
    let n = c.args.number in
    let app = c.in-Application in
    let here = tree_named nodes n c.requires in
    let shape = app.ensures.shape (tree_at nodes n) here in
    let e = c.in_ok-args-in-Application.ensures.ok in
    let l = are_named_length nodes app.args.now shape.0 shape.2 in
    let P : List ℕ → Type 0 = λ ns. AreNamed nodes ns shape.0 in
    let Q : List ℕ → Type 0 = AllByRecursion (λ m. m < n) in (
      c.if-not-is_kept.false,
      (shape.0, here ∙ ap Some shape.1, subst P (sym e) shape.2),
      subst Q (sym e) app.ensures.before,
      omega (arith, ap length e, l, ap (λ x. length (args_of x)) shape.1, app.ensures.few (tree_at nodes n) here),
    )
