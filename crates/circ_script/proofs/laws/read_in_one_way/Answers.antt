use Rattle.circ_read.proofs.Once.{SaidOnce}
use Rattle.circ_read.proofs.TextOnce.{CutOnce}
use Rattle.circ_script.proofs.Once.{script_once, script_or_cause, cause_once}
use Rattle.circ_script.proofs.laws.read_in_one_way.Goals as goal

cut : (c : goal.After-said_in_one_way) → CutOnce
cut c = record { tokens = c.cut_in_one_way.ensures.tokens; one = c.cut_in_one_way.ensures.one }

law : (c : goal.After-said_in_one_way) → SaidOnce
law c = record { said = c.said_in_one_way.ensures.said; out = c.said_in_one_way.ensures.left_out }

pub returns-clause-script : goal.returns-clause-script
returns-clause-script c = script_once (cut c) (law c)

pub returns-clause-either : goal.returns-clause-either
returns-clause-either c = script_or_cause (cut c) (law c)

pub returns-clause-number : goal.returns-clause-number
returns-clause-number c = λ th job bytes n m d e h k. (cause_once (cut c) (law c) th job bytes n m d e h k).0

pub returns-clause-cause : goal.returns-clause-cause
returns-clause-cause c = λ th job bytes n m d e h k. (cause_once (cut c) (law c) th job bytes n m d e h k).1
