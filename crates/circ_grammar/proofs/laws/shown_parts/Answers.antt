use Rattle.circ_grammar.proofs.Shown.{next_shown, shown_first}
use Rattle.circ_grammar.proofs.ShownBy.{shown_is}
use Rattle.circ_grammar.proofs.laws.shown_parts.Goals as goal

pub returns-clause-line : goal.returns-clause-line
returns-clause-line c = next_shown

pub returns-clause-first : goal.returns-clause-first
returns-clause-first c = shown_first

pub returns-clause-counted : goal.returns-clause-counted
returns-clause-counted c = shown_is
