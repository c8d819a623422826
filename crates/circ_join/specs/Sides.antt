-- What contracts see of both sides after a pass.
use Rattle.circ_conditional_search.specs.Joining.{Swept}
use Rattle.circ_join.specs.Sweeping.{plain_swept}
use Rattle.circ_join.specs.declared.swept_sides.SweptSides.{SweptSides}

abbrev pub plain_swept_sides : SweptSides → Swept × Swept
plain_swept_sides s = (plain_swept s.left, plain_swept s.right)
