use Rattle.std.proofs.Common.{sym, ◌∙◌, ap, arith, [], None}
use Rattle.circ_proof.specs.Plain.{plain_why}
use Rattle.circ_proof.proofs.Rows.{split_plain}
use Rattle.circ_file.specs.Splits.{given, tops}
use Rattle.circ_file.specs.declared.splits.OpenSplit.{OpenSplit}
use Rattle.circ_file.proofs.Given.{tops-push, given_waits, given_whole}
use Rattle.circ_file.proofs.splits.give.Goals as goal

pub returns-then-len-split : goal.returns-then-len-split
returns-then-len-split c =
    let top : OpenSplit = record { chain = c.in-Some.split.chain; term = c.in-Some.split.term; count = c.in-Some.split.count; whys = c.push.new.self } in
    sym c.loop-split.invariant
    ∙ ap (λ s. given (tops s []) (plain_why c.loop-split.why)) c.in-Some.ensures.items
    ∙ given_waits c.pop.new.self.items c.in-Some.split c.loop-split.why c.push.new.self.items c.in_ok-push.ensures.items
    (λ z. c.if-len-split.true (omega (arith, c.len.ensures, z)))
    ∙ ap (λ s. (s, None)) (sym (ap (λ s. tops s []) c.in_ok-push-2.ensures.items ∙ tops-push c.pop.new.self.items top []))

pub loop-split-preserved : goal.loop-split-preserved
loop-split-preserved c =
    ap (given (tops c.pop.new.self.items [])) (split_plain c.in-Some.split.chain c.in-Some.split.term c.push.new.self)
    ∙ sym (given_whole c.pop.new.self.items c.in-Some.split c.loop-split.why c.push.new.self.items c.in_ok-push.ensures.items
    (omega (arith, c.if-len-split.false, c.len.ensures)))
    ∙ sym (ap (λ s. given (tops s []) (plain_why c.loop-split.why)) c.in-Some.ensures.items)
    ∙ c.loop-split.invariant
