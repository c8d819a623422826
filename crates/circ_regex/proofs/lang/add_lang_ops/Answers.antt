use Rattle.circ_regex.specs.Making.{with_lang_ops}
use Rattle.circ_regex.proofs.lang.add_lang_ops.Goals as goal

pub returns : goal.returns
unfolding with_lang_ops
returns c = c.add_ops.ensures
