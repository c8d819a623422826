use Rattle.std.proofs.Common.{◌∙◌, ap}
use Rattle.circ_regex.specs.Making.{with_lang_parts}
use Rattle.circ_regex.proofs.Parts.{all_parts}
use Rattle.circ_regex.proofs.lang.lang_theory.Goals as goal

pub returns-in-Ok : goal.returns-in-Ok
returns-in-Ok c = c.in-Ok.ensures ∙ ap with_lang_parts c.in_ok-theory.ensures ∙ all_parts
