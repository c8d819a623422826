use Rattle.std.proofs.Common.{◌≡◌, refl, ap}
use Rattle.circ_term.specs.Tree.{operator_number}
use Rattle.circ_aci.specs.Canonical.{canonical_under}
use Rattle.circ_nodes.specs.Named.{tree_at}
use Rattle.circ_nodes.proofs.Located.{tree_named}
use Rattle.circ_rewrite.specs.Replacement.{By_content}
use Rattle.circ_rewrite.specs.Due.{ruled}
use Rattle.circ_rewrite.proofs.Finding.{due_content, due_ruled}
use Rattle.circ_due.proofs.Chosen.{is_chosen}
use Rattle.circ_due.proofs.Settled.{settled_own}
use Rattle.circ_due.proofs.choosing.choose_besides_above.Goals as goal

pub returns-then-not-is_canonical_above-clause-chosen : goal.returns-then-not-is_canonical_above-clause-chosen
returns-then-not-is_canonical_above-clause-chosen c =
    let m = c.args.means.now in
    let t = tree_at c.args.nodes.now c.args.number in
    let form = canonical_under m.theory.now.signature c.in-Application.op t in
    (record { reason = By_content c.in-Application.op form; new = form }, refl)

pub returns-then-not-is_canonical_above-clause-exact : goal.returns-then-not-is_canonical_above-clause-exact
returns-then-not-is_canonical_above-clause-exact c = λ settled.
    let m = c.args.means.now in
    let nodes = c.args.nodes.now in
    let t = tree_at nodes c.args.number in
    let form = canonical_under m.theory.now.signature c.in-Application.op t in
    let shape = c.in-Application.ensures.shape t (tree_named nodes c.args.number c.requires.there) in
    let own = settled_own m.theory.now.signature m.rules.items m.assumptions c.in-Application.op t settled in (
      record { reason = By_content c.in-Application.op form; new = form },
      due_content m.theory.now.signature m.rules.items m.assumptions t c.in-Application.op c.requires.none (ap operator_number shape.1)
          (λ e. absurd (let y = (c.is_canonical_above.ensures own).1 e in let f = c.if-not-is_canonical_above.true in cc)),
      refl,
    )

pub returns-clause-chosen : goal.returns-clause-chosen
returns-clause-chosen c =
    let m = c.args.means.now in
    let t = tree_at c.args.nodes.now c.args.number in
    is_chosen c.args.nodes.now m t (ruled m.rules.items t) c.ruled.result c.ruled.ensures

pub returns-clause-exact : goal.returns-clause-exact
returns-clause-exact c = λ settled.
    let m = c.args.means.now in
    let nodes = c.args.nodes.now in
    let t = tree_at nodes c.args.number in
    let shape = c.in-Application.ensures.shape t (tree_named nodes c.args.number c.requires.there) in
    let own = settled_own m.theory.now.signature m.rules.items m.assumptions c.in-Application.op t settled in
    let form : canonical_under m.theory.now.signature c.in-Application.op t ≡ t = (c.is_canonical_above.ensures own).0 c.if-not-is_canonical_above.false in
    rw (due_ruled m.theory.now.signature m.rules.items m.assumptions t c.in-Application.op c.requires.none (ap operator_number shape.1) form) c.ruled.ensures
