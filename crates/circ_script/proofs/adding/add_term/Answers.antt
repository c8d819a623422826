use Rattle.std.proofs.Common.{refl}
use Rattle.circ_lexer.specs.TokenList.{tokens_in}
use Rattle.circ_script.specs.Steps.{draft_of}
use Rattle.circ_script.proofs.Drafts.{term_read, term_unread}
use Rattle.circ_script.proofs.adding.add_term.Goals as goal

pub returns-in-Ok : goal.returns-in-Ok
returns-in-Ok c =
    let one = c.in-Ok.ensures.sorted in
    term_read c.args.theory.now c.args.asked.now (record c.args.asked.now { terms = c.push_term.new.all }) (tokens_in c.args.tokens.now c.args.term)
    c.in-Ok.reading.terms.items one.0 c.push_term.result one.1 c.in-Ok.ensures.reading refl
    c.push_term.ensures.pushed c.push_term.ensures.fault

pub returns-in-Err : goal.returns-in-Err
returns-in-Err c =
    let d = draft_of c.args.theory.now c.args.asked.now in
    term_unread d (tokens_in c.args.tokens.now c.args.term) c.in-Err.fault c.unread.result d c.in-Err.ensures.reading c.unread.ensures
