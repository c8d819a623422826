use Rattle.std.proofs.Common.{arith}
use Rattle.circ_mixfix.proofs.LeastNumbers.{reached_lower, again_lower}
use Rattle.circ_mixfix.proofs.reach.Reach.lower.Goals as goal
use Rattle.circ_mixfix.proofs.reach.Reach.lower.Goals.{then-before-self+in_ok-push, else-before-self}

pub invariant_of-self-2 : goal.invariant_of-self-2
invariant_of-self-2 c =
    let r = c.self.inside in
    let before = rw c.as_slice.ensures.value at c.least_of-before.ensures in
    let within = c.if-place-len.false in
    let length_is = c.len.ensures in
    elim c.if-before-self.branch [
      | then-before-self+in_ok-push w ↦ rw w.self-inside-is (reached_lower r.most r.least.items r.sorts.items w.push.new.self.items c.args.sort c.args.count c.self.invariant w.in_ok-push.ensures.items)
      | else-before-self w ↦ rw w.self-inside-is (again_lower r.most r.least.items r.sorts.items c.args.sort c.args.count c.self.invariant (omega arith) (let low = w.if-before-self.false in omega arith))
    ]
