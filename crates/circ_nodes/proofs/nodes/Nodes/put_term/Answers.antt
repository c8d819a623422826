use Rattle.std.proofs.Common.{None, refl, ap, subst, ◌∙◌}
use Rattle.circ_term.specs.Tree.{Tree}
use Rattle.circ_term.specs.Fingerprint.{fingerprint_of}
use Rattle.circ_nodes.specs.Roots.{Finds}
use Rattle.circ_nodes.specs.Rows.{plain_root}
use Rattle.circ_nodes.proofs.Parts.{enters_put}
use Rattle.circ_nodes.proofs.Rooted.{root_of_one, weight_same}
use Rattle.circ_nodes.proofs.nodes.Nodes.put_term.Goals as goal

pub put-requires-clause-root : goal.put-requires-clause-root
put-requires-clause-root c = (c.args.term.now, c.requires.root)

pub put-requires-clause-key : goal.put-requires-clause-key
put-requires-clause-key c = λ t root.
    c.fingerprint.ensures ∙ ap fingerprint_of (root_of_one c.args.self.now (plain_root c.args.root) c.args.term.now t c.requires.root root)

pub put-requires-clause-fresh : goal.put-requires-clause-fresh
put-requires-clause-fresh c = λ t root.
    let P : Tree → Type 0 = λ u. Finds c.args.self.now u None in
    subst P (root_of_one c.args.self.now (plain_root c.args.root) c.args.term.now t c.requires.root root) c.requires.fresh

pub put-requires-clause-weight : goal.put-requires-clause-weight
put-requires-clause-weight c = λ t root. weight_same c.args.self.now (plain_root c.args.root) c.args.term.now t c.weight_of.result c.requires.root root c.weight_of.ensures

pub returns-clause-named : goal.returns-clause-named
returns-clause-named c = c.put.ensures.named c.args.term.now c.requires.root

pub returns-clause-enters : goal.returns-clause-enters
returns-clause-enters c =
    enters_put c.put.result c.args.self.now c.put.new.self c.args.term.now c.args.term.now refl c.requires.fresh (c.put.ensures.put c.args.term.now c.requires.root)
