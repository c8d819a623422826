use Rattle.std.proofs.Common.{sym, ◌∙◌, refl}
use Rattle.circ_lexer.specs.TokenList.{tokens_in}
use Rattle.circ_read.proofs.Once.{SaidOnce}
use Rattle.circ_script.specs.Steps.{draft_of}
use Rattle.circ_script.proofs.Drafts.{unpaired, not_for, taken, not_taken, same_found, other_found}
use Rattle.circ_script.proofs.reader.take_item.Goals as goal

pub returns-then-closing-opening-clause-outcome : goal.returns-then-closing-opening-clause-outcome
returns-then-closing-opening-clause-outcome c =
    let ts = c.args.tokens.now in
    rw c.because.ensures
    (unpaired c.args.job (draft_of c.args.theory.now c.args.asked.now) (tokens_in ts c.args.before) (tokens_in ts c.args.after)
    (tokens_in ts c.set_aside-opening.result.rest)
    c.set_aside-opening.ensures.words ts c.in-Ok.item c.in-Ok.ensures
    (λ e. other_found c.set_aside-closing.result.found c.set_aside-opening.result.found c.if-closing-opening.true
    (c.set_aside-closing.ensures.found ∙ e ∙ sym c.set_aside-opening.ensures.found)))

pub returns-then-not-is_for-clause-outcome : goal.returns-then-not-is_for-clause-outcome
returns-then-not-is_for-clause-outcome c =
    let ts = c.args.tokens.now in
    let law : SaidOnce = record { said = c.said_in_one_way.ensures.said; out = c.said_in_one_way.ensures.left_out } in
    rw c.because-then-not-is_for.ensures
    (not_for c.args.job (draft_of c.args.theory.now c.args.asked.now) (tokens_in ts c.args.before) (tokens_in ts c.args.after)
    (tokens_in ts c.set_aside-opening.result.rest)
    c.set_aside-opening.ensures.words ts c.in-Ok.item c.in-Ok.ensures law (λ f. let t = (c.if-not-is_for.ensures ts).1 f in cc))

pub returns-else-not-is_for-clause-outcome : goal.returns-else-not-is_for-clause-outcome
returns-else-not-is_for-clause-outcome c =
    let ts = c.args.tokens.now in
    taken c.args.job (draft_of c.args.theory.now c.args.asked.now) (tokens_in ts c.args.before) (tokens_in ts c.args.after)
    (tokens_in ts c.set_aside-opening.result.rest)
    c.set_aside-opening.ensures.words ts c.in-Ok.item c.in-Ok.ensures (sym c.set_aside-closing.ensures.found
    ∙ same_found c.set_aside-closing.result.found c.set_aside-opening.result.found c.if-closing-opening.false
    ∙ c.set_aside-opening.ensures.found) ((c.if-not-is_for.ensures ts).0 refl)
    c.add_item.result (draft_of c.add_item.new.theory c.add_item.new.asked) c.add_item.ensures.outcome

pub returns-in-Err-clause-outcome : goal.returns-in-Err-clause-outcome
returns-in-Err-clause-outcome c =
    let ts = c.args.tokens.now in
    not_taken c.args.job (draft_of c.args.theory.now c.args.asked.now) (tokens_in ts c.args.before) (tokens_in ts c.args.after)
    (tokens_in ts c.set_aside-opening.result.rest)
    c.set_aside-opening.ensures.words ts c.in-Err.fault (draft_of c.args.theory.now c.args.asked.now) c.in-Err.ensures
