use Rattle.std.proofs.Common.{◌≡◌, ◌+◌, ◌==◌, if◌then◌else◌, Option, Some, drop, take, ap, sym, subst, ◌∙◌, arith}
use Rattle.std.specs.Option.{IfSome}
use Rattle.circ_theory.specs.Theory.{Derivative}
use Rattle.circ_expansion.specs.Expand.{later_links, links_after}
use Rattle.circ_uses.specs.Certificates.{lists_in}
use Rattle.circ_uses.proofs.Guarding.{some_at}
use Rattle.circ_uses.proofs.Ends.{after_next}
use Rattle.circ_uses.proofs.certified.Certificates.after.Goals as goal

pub loop-number-preserved : goal.loop-number-preserved
loop-number-preserved c =
    let ds = c.args.self.now.theory.now.derivatives in
    let table = c.args.self.now.table.now in
    let k = c.loop-number.number in
    let s = c.args.sort in
    let V = lists_in table c.loop-number.rest.now in
    let there = some_at ds k (omega (arith, c.loop-number-test.true, c.requires)) in
    let P : Option Derivative → Type 0 = λ o. IfSome o (λ d. lists_in table c.passed-rest.result.now ≡ (if d.hole == s then later_links V else V)) in
    let here : P (Some there.0) = subst P there.1 c.passed-rest.ensures in
    ap (links_after (drop (k + 1) (take c.args.count ds)) s) here
    ∙ sym (after_next ds c.args.count s k there.0 (omega (arith, c.loop-number-test.true)) there.1 V) ∙ c.loop-number.invariant
