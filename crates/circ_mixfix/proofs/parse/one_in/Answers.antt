use Rattle.std.proofs.Common.{◌≡◌, None, ap, sym, ◌∙◌}
use Rattle.circ_lexer.specs.TokenList.{tokens_of, tokens_in}
use Rattle.circ_mixfix.specs.Answers.{too_many, long_count, ReadsOnly}
use Rattle.circ_mixfix.specs.Variables.{vars_in}
use Rattle.circ_mixfix.specs.Found.{IsOneSorted, IsWithParameters}
use Rattle.circ_mixfix.proofs.WellSorted.{one_sorted}
use Rattle.circ_mixfix.proofs.Telling.{told, if_answered}
use Rattle.circ_mixfix.proofs.TokenNumbers.{range_length}
use Rattle.circ_mixfix.proofs.parse.one_in.Goals as goal

pub returns-clause-reading : goal.returns-clause-reading
returns-clause-reading c =
    let toks = tokens_in c.args.tokens.now c.args.span in
    let short : long_count toks ≡ None = ap too_many (range_length (tokens_of c.args.tokens.now) c.args.span.from c.args.span.to c.requires.span.within) ∙ sym c.in_default.ensures in
    rw short (told c.in_ok-found.found c.answer.result (ReadsOnly c.args.scope.now.theory.now.signature (vars_in c.args.scope.now) c.args.scope.now.hole toks) c.in_ok-found.ensures.reading c.answer.ensures)

pub returns-clause-sorted : goal.returns-clause-sorted
returns-clause-sorted c = λ h.
    let th = c.args.scope.now.theory.now in
    let vars = vars_in c.args.scope.now in
    let toks = tokens_in c.args.tokens.now c.args.span in
    if_answered c.in_ok-found.found c.answer.result (IsOneSorted th.signature) c.answer.ensures
    (λ ts i. let r = c.in_ok-found.ensures.reading.enough.sound ts i in (r.0, r.1, one_sorted th vars c.args.scope.now.hole toks r.0 c.known.ensures h r.2))

pub returns-clause-parameters : goal.returns-clause-parameters
returns-clause-parameters c = λ h. if_answered c.in_ok-found.found c.answer.result IsWithParameters c.answer.ensures (c.in_ok-found.ensures.parameters h)
