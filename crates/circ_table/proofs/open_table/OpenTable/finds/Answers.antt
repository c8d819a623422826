use Rattle.std.proofs.Common.{◌<◌, ℕ, Option, refl, sym, subst, arith}
use Rattle.std.proofs.lemmas.Option.{slice_get_within}
use Rattle.circ_table.specs.Lines.{plain, roots}
use Rattle.circ_table.proofs.Finding.{above_number, left_first, left_next, left_less}
use Rattle.circ_table.proofs.Keyed.{key_rooted, keys_long}
use Rattle.circ_table.proofs.Placing.{found_root, root_not_found}
use Rattle.circ_table.proofs.open_table.OpenTable.finds.Goals as goal

pub loop-next-init : goal.loop-next-init
loop-next-init c =
    let l = c.self.inside.lines in
    let keys = c.self.inside.chains in
    let p = plain c.args.root in
    left_first keys c.args.key (roots l) p (key_rooted l keys c.self.invariant c.args.key p c.requires.key) c.newest-next.result c.newest-next.ensures

pub is_here-requires-clause-place : goal.is_here-requires-clause-place
is_here-requires-clause-place c =
    let left = rw c.in-Some.is at c.loop-next.invariant in
    let within = slice_get_within c.self.inside.chains c.in-Some.number c.args.key left.0 in
    omega (arith, within, keys_long c.self.inside.lines c.self.inside.chains c.self.invariant)

pub returns-then-is_here : goal.returns-then-is_here
returns-then-is_here c =
    let l = c.self.inside.lines in
    let left = rw c.in-Some.is at c.loop-next.invariant in
    let within = slice_get_within c.self.inside.chains c.in-Some.number c.args.key left.0 in
    let long = keys_long l c.self.inside.chains c.self.invariant in
    rw (← c.self.view_is)
    (sym (found_root l.args.items l.rows.items c.in-Some.number (plain c.args.root) c.self.invariant.lines (omega (arith, within, long)) (c.if-is_here.ensures.0 refl)))

pub older-next-requires : goal.older-next-requires
older-next-requires c =
    let left = rw c.in-Some.is at c.loop-next.invariant in
    slice_get_within c.self.inside.chains c.in-Some.number c.args.key left.0

pub loop-next-preserved : goal.loop-next-preserved
loop-next-preserved c =
    let left = rw c.in-Some.is at c.loop-next.invariant in
    let l = c.self.inside.lines in
    let keys = c.self.inside.chains in
    let p = plain c.args.root in
    left_next keys c.args.key (roots l) p (key_rooted l keys c.self.invariant c.args.key p c.requires.key) c.in-Some.number c.older-next.result left
    (λ e. absurd (let z = c.is_here.ensures.1 e in let y = c.if-is_here.false in cc)) (c.older-next.ensures c.args.key left.0)

pub loop-next-smaller : goal.loop-next-smaller
loop-next-smaller c =
    let left = rw c.in-Some.is at c.loop-next.invariant in
    let P : Option ℕ → Type 0 = λ o. above_number c.older-next.result < above_number o in
    subst P (sym c.in-Some.is) (left_less c.self.inside.chains c.args.key c.in-Some.number c.older-next.result (c.older-next.ensures c.args.key left.0))

pub returns : goal.returns
returns c =
    let l = c.self.inside.lines in
    let left = rw c.in_default.is at c.loop-next.invariant in
    let there = rw (← c.self.view_is) at c.requires.there in
    rw (← c.self.view_is) (sym (root_not_found l.args.items l.rows.items (plain c.args.root) c.self.invariant.lines there left))
