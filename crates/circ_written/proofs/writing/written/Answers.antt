use Rattle.std.proofs.Common.{◌≡◌, ◌++◌, ◌∷◌, [], map, ap, sym, subst, ◌∙◌, arith}
use Rattle.circ_written.specs.Rows.{plain_row}
use Rattle.circ_written.specs.Writing.{AreOpen, all_due, all_weights, WritesOne}
use Rattle.circ_written.proofs.Opened.{last_due, last_weight, last_open}
use Rattle.circ_written.proofs.writing.written.Goals as goal

pub write_next-requires-clause-next : goal.write_next-requires-clause-next
write_next-requires-clause-next c =
    let ns = c.args.nodes.now in
    (last_open ns c.pop.new.self.items c.in-Some.next (subst (AreOpen ns) c.in-Some.ensures.items c.loop-next.invariant.are)).1

pub loop-next-smaller : goal.loop-next-smaller
loop-next-smaller c =
    let ns = c.args.nodes.now in
    let w = c.in_ok-write_next.ensures in
    let z = ap (all_weights ns) c.in-Some.ensures.items in
    let y = last_weight ns c.pop.new.self.items c.in-Some.next in
    omega (arith, w.lighter, z, y)

pub loop-next-preserved : goal.loop-next-preserved
loop-next-preserved c =
    let ns = c.args.nodes.now in
    let w = c.in_ok-write_next.ensures in
    let os = c.pop.new.self.items in
    let before = map plain_row c.loop-next.rows.items in
    record {
      are = w.are (last_open ns os c.in-Some.next (subst (AreOpen ns) c.in-Some.ensures.items c.loop-next.invariant.are)).0;
      same =
          w.same ∙ sym (ap (λ qs. before ++ qs) (ap (λ ps. all_due ns ps []) c.in-Some.ensures.items ∙ last_due ns os c.in-Some.next []))
          ∙ c.loop-next.invariant.same;
    }
