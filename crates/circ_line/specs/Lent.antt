-- What contracts see of lines that are lent.
use Rattle.circ_proof.specs.Plain.{plain_link}
use Rattle.circ_line.specs.Line.{Application_line, Line, table_line, left_line, right_line}
use Rattle.circ_line.specs.declared.lent.LentLine.{LentLine}
use Rattle.circ_line.specs.declared.lent.LentLine.TheVariants.{Application, Left, Right}

abbrev pub plain_lent_line : LentLine → Line
plain_lent_line (Application op args) = table_line (Application_line op args.now)
plain_lent_line (Left link) = left_line (plain_link link.now)
plain_lent_line (Right link) = right_line (plain_link link.now)
