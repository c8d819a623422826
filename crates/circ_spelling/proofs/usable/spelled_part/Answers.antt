use Rattle.std.proofs.Common.{◌∙◌}
use Rattle.circ_spelling.proofs.Marked.{spelled_alike}
use Rattle.circ_spelling.proofs.usable.spelled_part.Goals as goal

pub returns : goal.returns
returns c = λ n covers.
    spelled_alike c.args.grammar.now (record { rules = c.in_ok-rules.rules; variables = c.in_ok-variables.variables }) n c.args.marks.now
    c.requires.words covers (rw (c.deref.ensures.value) at c.in_ok-rules.ensures) (c.in_ok-variables.ensures.items ∙ c.deref-2.ensures.value)
