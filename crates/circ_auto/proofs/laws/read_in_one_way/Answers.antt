use Rattle.circ_auto.proofs.Once.{CutOnce, automaton_once, automaton_or_cause, cause_once}
use Rattle.circ_auto.proofs.laws.read_in_one_way.Goals as goal

cut : (c : goal.After-cut_in_one_way) → CutOnce
cut c = record { tokens = c.cut_in_one_way.ensures.tokens; one = c.cut_in_one_way.ensures.one }

pub returns-clause-automaton : goal.returns-clause-automaton
returns-clause-automaton c = automaton_once (cut c)

pub returns-clause-either : goal.returns-clause-either
returns-clause-either c = automaton_or_cause (cut c)

pub returns-clause-number : goal.returns-clause-number
returns-clause-number c = λ bytes j k d e a b. (cause_once (cut c) bytes j k d e a b).0

pub returns-clause-cause : goal.returns-clause-cause
returns-clause-cause c = λ bytes j k d e a b. (cause_once (cut c) bytes j k d e a b).1
