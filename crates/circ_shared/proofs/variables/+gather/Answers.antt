use Rattle.std.proofs.Common.{◌≡◌, map, length, refl, ap, sym, subst, ◌∙◌, arith}
use Rattle.circ_term.specs.Tree.{trees_of}
use Rattle.circ_theory.specs.Variables.{seen_in, seen_in_all}
use Rattle.circ_nodes.specs.Named.{tree_at}
use Rattle.circ_shared.specs.declared.variables.Variable.{Variable}
use Rattle.circ_shared.specs.Gathering.{Gathers}
use Rattle.circ_nodes.proofs.Located.{tree_named}
use Rattle.circ_shared.proofs.Loops.{above_least, above_each, all_there}
use Rattle.circ_shared.proofs.Shapes.{args_there, taken}
use Rattle.circ_shared.proofs.Seeing.{seen_ground, seen_again, gathers_same, gathers_variable, gathers_noted, looked_up}
use Rattle.circ_shared.proofs.variables.+gather.Goals as goal

pub gather-returns-then-is_ground : goal.gather-returns-then-is_ground
gather-returns-then-is_ground t c = λ vs h.
    let nodes = c.args.nodes.now in
    let term = tree_at nodes c.args.number in
    gathers_same nodes vs (seen_in term vs) c.args.seen.now.entries c.args.variables.now.keys
    (seen_ground term vs (sym c.is_ground.ensures ∙ c.if-is_ground.true)) h

pub gather-returns-then-is_some : goal.gather-returns-then-is_some
gather-returns-then-is_some t c = λ vs h.
    let nodes = c.args.nodes.now in
    let found = looked_up c.get.result _ c.get.ensures.value (sym c.is_some.ensures ∙ c.if-is_some.true) in
    gathers_same nodes vs (seen_in (tree_at nodes c.args.number) vs) c.args.seen.now.entries c.args.variables.now.keys
    (seen_again (tree_at nodes c.args.number) vs (h.all c.args.number found.0 found.1)) h

pub gather-gather_all-requires : goal.gather-gather_all-requires
gather-gather_all-requires t c =
    let nodes = c.args.nodes.now in
    let app = c.in-Application in
    let least = above_least app.args.now c.args.number app.ensures.before in
    (omega (arith, least), args_there nodes c.args.number app.op app.sort app.args.now c.requires app.ensures.shape)

pub gather_all-gather-requires : goal.gather_all-gather-requires
gather_all-gather-requires t c =
    let at = c.loop-number in
    let below = above_each c.args.numbers.now at.number-index c.loop-number-test.true in
    (omega (arith, below), all_there (length c.args.nodes.now) c.args.numbers.now at.number-index c.requires c.loop-number-test.true)

pub gather-returns-in_ok-insert-in-Variable : goal.gather-returns-in_ok-insert-in-Variable
gather-returns-in_ok-insert-in-Variable t c = λ vs h.
    let nodes = c.args.nodes.now in
    let k : Variable = record { number = c.in-Variable.number; sort = c.in-Variable.sort } in
    let term = tree_at nodes c.args.number in
    gathers_variable nodes vs c.args.seen.now.entries c.args.variables.now.keys c.insert.new.self.keys k c.args.number term refl
    (c.in-Variable.ensures.shape term (tree_named nodes c.args.number c.requires)) h c.in_ok-insert-in-Variable.ensures.keys

pub gather-returns-in_ok-insert-in-Application : goal.gather-returns-in_ok-insert-in-Application
gather-returns-in_ok-insert-in-Application t c = λ vs h.
    let nodes = c.args.nodes.now in
    let app = c.in-Application in
    let all = c.in_ok-gather_all-in-Application.ensures vs h in
    let is : seen_in_all (trees_of (map (tree_at nodes) app.args.now)) vs ≡ seen_in (tree_at nodes c.args.number) vs =
    ap (λ u. seen_in u vs) (sym (taken nodes c.args.number app.op app.sort app.args.now c.requires app.ensures.shape)) in
    gathers_noted nodes vs c.gather_all.new.seen.entries c.insert-in-Application.new.self.entries c.gather_all.new.variables.keys c.args.number c.args.number
    (subst (λ xs. Gathers nodes xs c.gather_all.new.seen.entries c.gather_all.new.variables.keys) is all) c.in_ok-insert-in-Application.ensures.updates.0
