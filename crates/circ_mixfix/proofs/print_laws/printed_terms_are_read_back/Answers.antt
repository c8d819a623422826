use Rattle.circ_mixfix.proofs.ReadBack.{spelled_once, printed_once}
use Rattle.circ_mixfix.proofs.PrintedGoals.{pair_once, goal_once}
use Rattle.circ_mixfix.proofs.print_laws.printed_terms_are_read_back.Goals as goal

pub returns-clause-one_spelling : goal.returns-clause-one_spelling
returns-clause-one_spelling c = λ sig vars hole t ws b s q ok none_of sorted cut k. spelled_once sig vars hole t ws b s q ok none_of sorted cut k

pub returns-clause-one_term : goal.returns-clause-one_term
returns-clause-one_term c = λ sig hole t u ok h k a b e. printed_once sig hole t u ok h k a b e

pub returns-clause-one_pair : goal.returns-clause-one_pair
returns-clause-one_pair c = λ sig p q ok a b e. pair_once sig ok p q a b e

pub returns-clause-one_goal : goal.returns-clause-one_goal
returns-clause-one_goal c = λ sig g h ok a c b d e. goal_once sig ok g h a b c d e
