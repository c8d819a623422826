use Rattle.circ_lexer.specs.TokenList.{tokens_in}
use Rattle.circ_mixfix.specs.Answers.{long_count}
use Rattle.circ_read.specs.Adding.{ReadsHole}
use Rattle.circ_read.specs.Outcomes.{derivative_added}
use Rattle.circ_read.proofs.Parts.{read_then_added, not_read}
use Rattle.circ_read.proofs.derivatives.add_derivative.Goals as goal

pub returns-in-Ok : goal.returns-in-Ok
returns-in-Ok c =
    let ws = tokens_in c.args.tokens.now c.args.term in
    read_then_added (long_count ws) (ReadsHole c.args.theory.now ws) c.args.theory.now (derivative_added c.args.theory.now)
    c.in-Ok.reading.terms.items c.add_term.result c.add_term.new.theory c.in-Ok.ensures.reading c.add_term.ensures

pub returns-in-Err : goal.returns-in-Err
returns-in-Err c =
    let ws = tokens_in c.args.tokens.now c.args.term in
    not_read (long_count ws) (ReadsHole c.args.theory.now ws) c.args.theory.now (derivative_added c.args.theory.now)
    c.in-Err.fault c.unread.result c.args.theory.now c.in-Err.ensures.reading c.unread.ensures
