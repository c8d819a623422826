use Rattle.std.proofs.Common.{◌∙◌}
use Rattle.circ_spelling.proofs.Marked.{worded_alike}
use Rattle.circ_spelling.proofs.usable.worded_part.Goals as goal

pub returns : goal.returns
returns c = worded_alike c.args.grammar.now (record { rules = c.in_ok-rules.rules; variables = c.in_ok-variables.variables }) c.args.tokens.now
    c.requires.words (rw (c.deref.ensures.value) at c.in_ok-rules.ensures) (c.in_ok-variables.ensures.items ∙ c.deref-2.ensures.value)
