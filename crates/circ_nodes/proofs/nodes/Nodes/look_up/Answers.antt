use Rattle.std.proofs.Common.{◌<◌, ℕ, List, Option, None, length, sym, subst}
use Rattle.std.proofs.lemmas.Option.{slice_get_within}
use Rattle.circ_hash_chains.specs.Keys.{IsLastBelow}
use Rattle.circ_term.specs.Tree.{Tree, args_of, trees_of}
use Rattle.circ_term.specs.Fingerprint.{fingerprint_of}
use Rattle.circ_nodes.specs.Named.{IsNamed, AreNamed, tree_at}
use Rattle.circ_nodes.specs.Roots.{Finds, trees_with}
use Rattle.circ_nodes.specs.Rows.{roots}
use Rattle.circ_nodes.proofs.Finding.{above_number, left_first, left_next, left_less}
use Rattle.circ_nodes.proofs.Keying.{key_named, keyed_there}
use Rattle.circ_nodes.proofs.Located.{tree_named}
use Rattle.circ_nodes.proofs.Numbers.{all_below}
use Rattle.circ_nodes.proofs.nodes.Nodes.look_up.Goals as goal

pub loop-next-init : goal.loop-next-init
loop-next-init c =
    let l = c.self.inside.rows in
    let keys = c.self.inside.chains in
    let t = c.args.term.now in
    let P : ℕ → Type 0 = λ key. IsLastBelow keys key (length keys) c.newest-next.result in
    left_first keys (fingerprint_of t) (trees_with (roots l)) t (key_named l keys c.self.invariant t) c.newest-next.result (subst P c.fingerprint.ensures c.newest-next.ensures)

pub arguments-requires : goal.arguments-requires
arguments-requires c =
    let left = rw c.in-Some.is at c.loop-next.invariant in
    keyed_there c.self.inside.rows c.self.inside.chains c.self.invariant c.args.self.now c.self.view_is c.in-Some.number (fingerprint_of c.args.term.now) left.0

pub have_keys-requires : goal.have_keys-requires
have_keys-requires c =
    let left = rw c.in-Some.is at c.loop-next.invariant in
    let nodes = c.args.self.now in
    let n = c.in-Some.number in
    let b = keyed_there c.self.inside.rows c.self.inside.chains c.self.invariant nodes c.self.view_is n (fingerprint_of c.args.term.now) left.0 in
    let u = tree_at nodes n in
    all_below nodes c.arguments.result.now (trees_of (args_of u)) (c.arguments.ensures u (tree_named nodes n b))

pub compare-requires : goal.compare-requires
compare-requires c =
    let left = rw c.in-Some.is at c.loop-next.invariant in
    keyed_there c.self.inside.rows c.self.inside.chains c.self.invariant c.args.self.now c.self.view_is c.in-Some.number (fingerprint_of c.args.term.now) left.0

pub older-next-requires : goal.older-next-requires
older-next-requires c =
    let left = rw c.in-Some.is at c.loop-next.invariant in
    slice_get_within c.self.inside.chains c.in-Some.number (fingerprint_of c.args.term.now) left.0

pub loop-next-preserved : goal.loop-next-preserved
loop-next-preserved c =
    let l = c.self.inside.rows in
    let keys = c.self.inside.chains in
    let t = c.args.term.now in
    let key = fingerprint_of t in
    let n = c.in-Some.number in
    let left = rw c.in-Some.is at c.loop-next.invariant in
    let P : List Tree → Type 0 = λ ts. IsNamed ts n t in
    let Q : List Tree → Type 0 = λ us. AreNamed c.args.self.now c.arguments.result.now (trees_of us) in
    left_next keys key (trees_with (roots l)) t (key_named l keys c.self.invariant t) n c.older-next.result left
    (λ e. absurd (let z = c.have_keys.ensures (subst Q (sym c.args-in-Some.ensures.value) (c.arguments.ensures t (subst P c.self.view_is e))) in let y = c.if-have_keys.false in cc))
    (c.older-next.ensures key left.0)

pub loop-next-smaller : goal.loop-next-smaller
loop-next-smaller c =
    let left = rw c.in-Some.is at c.loop-next.invariant in
    let P : Option ℕ → Type 0 = λ o. above_number c.older-next.result < above_number o in
    let key = fingerprint_of c.args.term.now in
    subst P (sym c.in-Some.is) (left_less c.self.inside.chains key c.in-Some.number c.older-next.result (c.older-next.ensures key left.0))

pub returns : goal.returns
returns c =
    let left = rw c.in_default.is at c.loop-next.invariant in
    let P : List Tree → Type 0 = λ ts. Finds ts c.args.term.now None in
    subst P c.self.view_is left
