use Rattle.std.proofs.Common.{OnOk, subst}
use Rattle.circ_mixfix.specs.Choices.{Extends}
use Rattle.circ_mixfix.specs.declared.choices.Choice.{Choice}
use Rattle.circ_mixfix.proofs.NamesKept.{extended_if}
use Rattle.circ_mixfix.proofs.choices.push.Goals as goal

pub returns : goal.returns
returns c =
    let ws = c.args.words.now in
    let new : Choice = record { seen = c.push_numbered.new.seen; terms = c.push_numbered.new.out } in
    subst (λ ts. OnOk c.push_numbered.result (Extends ws ts c.args.choice.now new)) c.deref.ensures.value
    (extended_if c.push_numbered.result ws c.deref.result.now c.args.choice.now new c.push_numbered.ensures.seen c.push_numbered.ensures.terms)
