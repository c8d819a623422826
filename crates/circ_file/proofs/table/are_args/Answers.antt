use Rattle.std.proofs.Common.{◌+◌, ◌<◌, ◌≤◌, ◌&&◌, Bool, length, drop, sym, ◌∙◌, ap, arith}
use Rattle.circ_proof_text.specs.TableText.{firsts_at}
use Rattle.circ_file.specs.Adding.{have_sorts}
use Rattle.circ_file.proofs.Firsts.{sorts_left, none_left, other_count}
use Rattle.circ_file.proofs.table.are_args.Goals as goal

pub returns-then-numbers-sorts : goal.returns-then-numbers-sorts
returns-then-numbers-sorts c = other_count c.args.rows.now c.args.numbers.now c.args.sorts.now c.if-numbers-sorts.true

pub returns-then-not-is_arg : goal.returns-then-not-is_arg
returns-then-not-is_arg c =
    let table = c.args.rows.now in
    let ns = c.args.numbers.now in
    let ss = c.args.sorts.now in
    let i = c.loop-i.i in
    let rest : Bool = have_sorts (firsts_at table (drop (i + 1) ns)) (drop (i + 1) ss) in
    let in_sorts : i < length ss = omega (arith, c.loop-i-test.true, c.if-numbers-sorts.false) in
    sym (sorts_left table ns ss i c.loop-i-test.true in_sorts ∙ ap (λ b. b && rest) (sym c.is_arg.ensures ∙ c.if-not-is_arg.true)) ∙ c.loop-i.invariant

pub loop-i-preserved : goal.loop-i-preserved
loop-i-preserved c =
    let table = c.args.rows.now in
    let ns = c.args.numbers.now in
    let ss = c.args.sorts.now in
    let i = c.loop-i.i in
    let rest : Bool = have_sorts (firsts_at table (drop (i + 1) ns)) (drop (i + 1) ss) in
    let in_sorts : i < length ss = omega (arith, c.loop-i-test.true, c.if-numbers-sorts.false) in
    sym (sorts_left table ns ss i c.loop-i-test.true in_sorts ∙ ap (λ b. b && rest) (sym c.is_arg.ensures ∙ c.if-not-is_arg.false)) ∙ c.loop-i.invariant

pub returns : goal.returns
returns c =
    let table = c.args.rows.now in
    let ns = c.args.numbers.now in
    let ss = c.args.sorts.now in
    let i = c.loop-i.i in
    let past : length ss ≤ i = omega (arith, c.loop-i-test.false, c.if-numbers-sorts.false) in
    none_left table ns ss i c.loop-i-test.false past ∙ c.loop-i.invariant
