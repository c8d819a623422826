use Rattle.std.proofs.Common.{refl, ap}
use Rattle.circ_term.specs.Tree.{operator_number}
use Rattle.circ_aci.specs.Canonical.{canonical_under}
use Rattle.circ_rewrite.specs.Replacement.{By_content}
use Rattle.circ_nodes.specs.Named.{tree_at}
use Rattle.circ_nodes.proofs.Located.{tree_named}
use Rattle.circ_due.proofs.Found.{content_other, content_same}
use Rattle.circ_due.proofs.finding.content_choice.Goals as goal

pub returns-then-is_canonical : goal.returns-then-is_canonical
returns-then-is_canonical c =
    let m = c.args.means.now in
    let nodes = c.args.nodes.now in
    let t = tree_at nodes c.args.number in
    let shape = c.in-Application.ensures.shape t (tree_named nodes c.args.number c.requires.there) in
    content_same m.theory.now.signature t c.in-Application.op (ap operator_number shape.1) (c.is_canonical.ensures.0 c.if-is_canonical.true)

pub returns : goal.returns
returns c =
    let m = c.args.means.now in
    let nodes = c.args.nodes.now in
    let t = tree_at nodes c.args.number in
    let form = canonical_under m.theory.now.signature c.in-Application.op t in
    let shape = c.in-Application.ensures.shape t (tree_named nodes c.args.number c.requires.there) in (
      record { reason = By_content c.in-Application.op form; new = form },
      content_other m.theory.now.signature t c.in-Application.op (ap operator_number shape.1)
          (λ e. absurd (let y = c.is_canonical.ensures.1 e in let f = c.if-is_canonical.false in cc)),
      refl,
    )
