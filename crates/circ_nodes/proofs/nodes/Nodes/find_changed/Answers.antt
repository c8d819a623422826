use Rattle.std.proofs.Common.{◌≡◌, ◌+◌, ◌≤◌, ◌<◌, ℕ, List, Option, length, refl, sym, subst, arith}
use Rattle.std.proofs.lemmas.Option.{slice_get_within}
use Rattle.circ_term.specs.Tree.{Tree}
use Rattle.circ_term.specs.Fingerprint.{fingerprint_of}
use Rattle.circ_nodes.specs.Roots.{HasRoot, trees_with}
use Rattle.circ_nodes.specs.Rows.{changed_root, roots}
use Rattle.circ_nodes.proofs.Changing.{set_read}
use Rattle.circ_nodes.proofs.Finding.{above_number, left_first, left_next, left_less}
use Rattle.circ_nodes.proofs.Keying.{key_rooted, keys_long}
use Rattle.circ_nodes.proofs.Laying.{length_roots}
use Rattle.circ_nodes.proofs.Rooted.{found, not_found, above_last}
use Rattle.circ_nodes.proofs.nodes.Nodes.find_changed.Goals as goal

pub loop-next-init : goal.loop-next-init
loop-next-init c =
    let l = c.self.inside.rows in
    let keys = c.self.inside.chains in
    let key = c.args.key in
    let p = changed_root c.args.root in
    let P : List Tree → Type 0 = λ ts. (t : Tree) → HasRoot ts p t → key ≡ fingerprint_of t in
    left_first keys key (roots l) p (key_rooted l keys c.self.invariant key p (subst P (sym c.self.view_is) c.requires.key)) c.newest-next.result c.newest-next.ensures

pub returns-then-after-len : goal.returns-then-after-len
returns-then-after-len c = λ t root.
    let here = rw (← c.self.view_is) at root in
    let r = c.args.root in
    let l = c.self.inside.rows in
    let long = c.self.invariant.kept.long in
    let last : length (trees_with (roots l)) ≤ r.new + 1 = omega (arith, long, length_roots l.args.items 0 l.rows.items, c.len.ensures, c.if-after-len.true) in
    rw (← c.self.view_is) (above_last c.self.invariant.kept (changed_root r) t here r.place r.new (set_read r.args.now r.place r.new c.requires.place) last)

pub is_changed-requires-clause-there : goal.is_changed-requires-clause-there
is_changed-requires-clause-there c =
    let l = c.self.inside.rows in
    let left = rw c.in-Some.is at c.loop-next.invariant in
    let within = slice_get_within c.self.inside.chains c.in-Some.found c.args.key left.0 in
    omega (arith, within, keys_long l c.self.inside.chains c.self.invariant, c.self.invariant.kept.long, length_roots l.args.items 0 l.rows.items)

pub returns-then-is_changed : goal.returns-then-is_changed
returns-then-is_changed c = λ t root.
    let here = rw (← c.self.view_is) at root in
    rw (← c.self.view_is) (found c.self.invariant.kept (changed_root c.args.root) t here c.in-Some.found (c.if-is_changed.ensures.0 refl))

pub older-next-requires : goal.older-next-requires
older-next-requires c =
    let left = rw c.in-Some.is at c.loop-next.invariant in
    slice_get_within c.self.inside.chains c.in-Some.found c.args.key left.0

pub loop-next-preserved : goal.loop-next-preserved
loop-next-preserved c =
    let left = rw c.in-Some.is at c.loop-next.invariant in
    let l = c.self.inside.rows in
    let keys = c.self.inside.chains in
    let key = c.args.key in
    let p = changed_root c.args.root in
    let P : List Tree → Type 0 = λ ts. (t : Tree) → HasRoot ts p t → key ≡ fingerprint_of t in
    left_next keys key (roots l) p (key_rooted l keys c.self.invariant key p (subst P (sym c.self.view_is) c.requires.key)) c.in-Some.found c.older-next.result left
    (λ e. absurd (let z = c.is_changed.ensures.1 e in let y = c.if-is_changed.false in cc)) (c.older-next.ensures c.args.key left.0)

pub loop-next-smaller : goal.loop-next-smaller
loop-next-smaller c =
    let left = rw c.in-Some.is at c.loop-next.invariant in
    let P : Option ℕ → Type 0 = λ o. above_number c.older-next.result < above_number o in
    subst P (sym c.in-Some.is) (left_less c.self.inside.chains c.args.key c.in-Some.found c.older-next.result (c.older-next.ensures c.args.key left.0))

pub returns : goal.returns
returns c = λ t root.
    let left = rw c.in_default.is at c.loop-next.invariant in
    let here = rw (← c.self.view_is) at root in
    rw (← c.self.view_is) (not_found c.self.invariant.kept (changed_root c.args.root) t here left)
