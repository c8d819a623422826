use Rattle.std.proofs.Common.{◌∙◌, ◌∷◌, [], append_assoc, codes, decimal}
use Rattle.std.proofs.lemmas.Result.{on_ok_weaker}
use Rattle.circ_line.specs.Text.{path_word, way_word}
use Rattle.circ_line.specs.Written.{spaced}
use Rattle.circ_line.proofs.writing.put_link.Goals as goal

pub returns-in-Assumption-clause-text : goal.returns-in-Assumption-clause-text
returns-in-Assumption-clause-text c =
    let fields = spaced (way_word c.in-Assumption.way ∷ decimal c.in-Assumption.number ∷ path_word c.in-Assumption.path.items ∷ []) in
    rw c.in-Assumption.is
    (on_ok_weaker c.put_rule.result (λ e. e ∙ append_assoc c.args.out.now.items (codes " assumption") fields) c.put_rule.ensures.text)
