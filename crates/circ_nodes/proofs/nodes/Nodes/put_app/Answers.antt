use Rattle.std.proofs.Common.{refl, ap, sym, subst, inr, None, ◌∙◌}
use Rattle.circ_term.specs.Tree.{Tree, App}
use Rattle.circ_term.specs.Fingerprint.{fingerprint_of}
use Rattle.circ_nodes.specs.Rows.{application}
use Rattle.circ_nodes.specs.Roots.{HasRoot, Finds}
use Rattle.circ_nodes.proofs.Adding.{application_there}
use Rattle.circ_nodes.proofs.nodes.Nodes.put_app.Goals as goal

pub weigh-requires : goal.weigh-requires
weigh-requires c = application_there c.args.self.now c.args.op c.args.sort c.args.args.now c.requires.few c.requires.there

pub put-requires-clause-root : goal.put-requires-clause-root
put-requires-clause-root c = application_there c.args.self.now c.args.op c.args.sort c.args.args.now c.requires.few c.requires.there

pub put-requires-clause-key : goal.put-requires-clause-key
put-requires-clause-key c = λ t root. c.requires.key root.0 root.2 ∙ ap fingerprint_of (sym root.1)

pub put-requires-clause-fresh : goal.put-requires-clause-fresh
put-requires-clause-fresh c = λ t root.
    let P : Tree → Type 0 = λ u. Finds c.args.self.now u None in
    subst P (sym root.1) (c.requires.fresh root.0 root.2)

pub returns-in_ok-put-in-Ok-clause-interns : goal.returns-in_ok-put-in-Ok-clause-interns
returns-in_ok-put-in-Ok-clause-interns c = λ ts named.
    let t = App c.args.op c.args.sort ts in
    let root : HasRoot c.args.self.now (application c.args.op c.args.sort c.args.args.now) t = (ts, refl, named, c.requires.few) in
    (c.in_ok-put-in-Ok.ensures.named t root, (c.in-Ok.ensures t root).within)

pub returns-in-Err-clause-interns : goal.returns-in-Err-clause-interns
returns-in-Err-clause-interns c = λ ts named. c.in-Err.ensures (App c.args.op c.args.sort ts) (ts, refl, named, c.requires.few)

pub returns-in_ok-put-in-Ok-clause-enters : goal.returns-in_ok-put-in-Ok-clause-enters
returns-in_ok-put-in-Ok-clause-enters c = λ ts named.
    let t = App c.args.op c.args.sort ts in
    let root : HasRoot c.args.self.now (application c.args.op c.args.sort c.args.args.now) t = (ts, refl, named, c.requires.few) in
    inr (c.requires.fresh ts named, c.in_ok-put-in-Ok.ensures.put t root)
