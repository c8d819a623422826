use Rattle.std.proofs.Common.{sym, ap, ◌∙◌}
use Rattle.circ_lexer.specs.TokenList.{tokens_in}
use Rattle.circ_statement.specs.Words.{are_some_names}
use Rattle.circ_statement.proofs.Once.{variables_cut}
use Rattle.circ_statement.proofs.reading.variables.Goals as goal

pub returns-in_default-only_name : goal.returns-in_default-only_name
returns-in_default-only_name c said h =
    let ts = c.args.tokens.now in
    let cut = variables_cut (tokens_in ts c.args.span) (tokens_in ts c.in-Some.names) (tokens_in ts c.in-Some.last) c.in-Some.ensures.2 c.in-Some.ensures.3 said h in
    c.in_default-only_name.ensures h.sort (sym cut.1) h.is_name

pub returns-else-are_some_names : goal.returns-else-are_some_names
returns-else-are_some_names c said h =
    let ts = c.args.tokens.now in
    let cut = variables_cut (tokens_in ts c.args.span) (tokens_in ts c.in-Some.names) (tokens_in ts c.in-Some.last) c.in-Some.ensures.2 c.in-Some.ensures.3 said h in
    let no = c.are_some_names.ensures ∙ ap are_some_names (sym cut.0) ∙ h.are_names in
    let is = c.if-are_some_names.false in
    absurd (cc)
