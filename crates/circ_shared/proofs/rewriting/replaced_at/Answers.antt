use Rattle.std.proofs.Common.{◌≡◌, Some}
use Rattle.circ_term.specs.Limits.{IsWithinLimits}
use Rattle.circ_term.specs.Tree.{replaced}
use Rattle.circ_nodes.specs.Named.{tree_at}
use Rattle.circ_shared.proofs.Sharing.{named_with}
use Rattle.circ_shared.proofs.rewriting.replaced_at.Goals as goal

pub returns-in-Ok-Some-clause-exact : goal.returns-in-Ok-Some-clause-exact
returns-in-Ok-Some-clause-exact c =
    let nodes = c.args.nodes.now in
    let h = rw c.in-Ok-Some.field-0-is at c.in-Ok-Some.ensures.interns in
    let o = replaced (tree_at nodes c.args.term) c.args.path.now (tree_at nodes c.args.new) in
    named_with c.replace.new.nodes c.in-Ok-Some.made h.0 h.2 (λ x. (o ≡ Some x) × IsWithinLimits x) (h.1, h.3)
