use Rattle.std.proofs.Common.{ap, sym, ◌∙◌}
use Rattle.circ_read.specs.Adding.{constant_number}
use Rattle.circ_read.specs.declared.cause.Cause.TheVariants.{NoParse}
use Rattle.circ_read.specs.Outcomes.{or_cause}
use Rattle.circ_read.proofs.Tokens.{here_token, no_token}
use Rattle.circ_read.proofs.Parts.{one_more, no_more, none_yet, all_found}
use Rattle.circ_read.proofs.cases.constants_named.Goals as goal

pub loop-n-init : goal.loop-n-init
loop-n-init c = none_yet _ c.new-constants.result.items c.new-constants.ensures.items

pub loop-n-preserved : goal.loop-n-preserved
loop-n-preserved c =
    rw c.in_ok-push-in-Some.ensures.items
    (one_more (constant_number c.args.theory.now.signature c.args.sort) c.word.result.now _ _ (here_token c.args.tokens.now c.args.names c.loop-n.n c.word.result.now c.requires c.loop-n-test.true c.word.ensures)
    c.loop-n.constants.items _ c.loop-n.invariant c.in-Some.number (sym c.in_ok-found.ensures ∙ c.in-Some.is))

pub returns-in-None : goal.returns-in-None
returns-in-None c =
    rw c.because.ensures
    (ap (λ o. or_cause o NoParse)
    (no_more (constant_number c.args.theory.now.signature c.args.sort) c.word.result.now _ _ (here_token c.args.tokens.now c.args.names c.loop-n.n c.word.result.now c.requires c.loop-n-test.true c.word.ensures)
    c.loop-n.constants.items _ c.loop-n.invariant (sym c.in_ok-found.ensures ∙ c.in-None.is)))

pub returns : goal.returns
returns c = all_found (constant_number c.args.theory.now.signature c.args.sort) _ c.loop-n.constants.items _ NoParse (no_token c.args.tokens.now c.loop-n.n c.args.names.to c.loop-n-test.false) c.loop-n.invariant
