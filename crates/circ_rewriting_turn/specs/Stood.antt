-- How a proof tells pairs of sides apart.
use Rattle.std.specs.Coded.{Coded, coded×, coded_list}
use Rattle.circ_term.specs.Code.{tree_code}
use Rattle.circ_attempt.specs.Attempt.{Stood}

abbrev pub stood_code : Coded Stood
stood_code = coded_list (coded× tree_code tree_code)
