use Rattle.std.proofs.Common.{ℕ, List, map, refl, subst}
use Rattle.circ_term.specs.Tree.{Tree}
use Rattle.circ_proof.specs.Plain.{LinkOf, plain_links}
use Rattle.circ_proof.specs.Link.{resolved_links}
use Rattle.circ_rules.specs.Due.{CertifiesNext}
use Rattle.circ_nodes.specs.Named.{tree_at}
use Rattle.circ_check.proofs.Numbered.{rules_there, links_in_table}
use Rattle.circ_check.proofs.Watching.{certificate_taken}
use Rattle.circ_check.proofs.checker.Checker.certify_entered.Goals as goal

pub certify_next-requires-clause-rules : goal.certify_next-requires-clause-rules
certify_next-requires-clause-rules c =
    let k = c.args.self.now in
    rules_there k.theory.now k c.requires.sound c.requires.begun _ refl c.as_slice.ensures.value c.as_slice-2.ensures.value c.numbers.ensures

pub certify_next-requires-clause-in_table : goal.certify_next-requires-clause-in_table
certify_next-requires-clause-in_table c =
    let k = c.args.self.now in
    rw c.numbers.ensures (links_in_table k.nodes k.lines c.requires.sound.lines (plain_links c.args.links.now) c.requires.ready.part.2)

pub returns-clause-took : goal.returns-clause-took
returns-clause-took c =
    let k = c.args.self.now in
    let d = c.certify_next.new.due in
    let links = plain_links c.args.links.now in
    let P : List ℕ → Type 0 =
    λ ns. CertifiesNext k.theory.now k.gamma k.due d (resolved_links (map (tree_at k.nodes) ns) links) c.in_ok-holds.holds in
    let Q : List (LinkOf Tree) → Type 0 = λ ls. CertifiesNext k.theory.now k.gamma k.due d ls c.in_ok-holds.holds in
    let exact = subst Q c.requires.named (subst P c.numbers.ensures c.in_ok-holds.ensures.exact) in
    certificate_taken k c.certify_next.new.nodes d c.counted-self.result c.in_ok-holds.holds links c.requires.sound
    c.requires.begun c.requires.ready.part.1 c.certify_next.ensures.same c.counted-self.ensures exact
