-- What contracts see of two contents set apart.
use Rattle.circ_content_join.specs.Apart.{Apart, apart}
use Rattle.circ_moves.specs.declared.apart.Apart.{Apart as TheApart}

abbrev pub plain_apart : TheApart → Apart
plain_apart d = apart d.both.items d.left.items d.right.items
