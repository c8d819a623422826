use Rattle.std.proofs.Common.{ap, get_or, length, arith}
use Rattle.circ_term.specs.Tree.{trees_of}
use Rattle.circ_term.specs.Fingerprint.{fingerprint_of}
use Rattle.circ_term.proofs.Trees.{list_of-trees_of}
use Rattle.circ_nodes.proofs.Building.{there_read}
use Rattle.circ_nodes.proofs.Comparing.{agree_at}
use Rattle.circ_nodes.proofs.Located.{named_tree}
use Rattle.circ_nodes.proofs.Numbers.{are_named_length}
use Rattle.circ_nodes.proofs.nodes.Nodes.have_keys.Goals as goal

pub returns-then-numbers-terms : goal.returns-then-numbers-terms
returns-then-numbers-terms c = λ named.
    let l = are_named_length c.args.self.now c.args.numbers.now (trees_of c.args.terms.now) named in
    let m = ap length (list_of-trees_of c.args.terms.now) in
    absurd (omega (arith, l, m, c.if-numbers-terms.true))

pub has_key-requires : goal.has_key-requires
has_key-requires c = there_read c.args.self.now c.args.numbers.now c.loop-i.i c.requires (omega arith)

pub returns-then-not-has_key : goal.returns-then-not-has_key
returns-then-not-has_key c = λ named.
    let nodes = c.args.self.now in
    let t = c.index-terms-i.result in
    let one = agree_at nodes c.args.numbers.now c.args.terms.now c.loop-i.i t (omega arith) (omega arith) c.index-terms-i.is named in
    absurd (let z = c.has_key.ensures.1 (ap fingerprint_of (named_tree nodes (get_or c.args.numbers.now c.loop-i.i 0) t one)) in let y = c.if-not-has_key.true in cc)
