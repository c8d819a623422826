use Rattle.circ_top.proofs.PlainWords.{no_words, one_plain, two_plain, behind_minuses}
use Rattle.circ_top.proofs.laws.words_as_they_stand.Goals as goal

pub returns-clause-none : goal.returns-clause-none
returns-clause-none c = no_words

pub returns-clause-one : goal.returns-clause-one
returns-clause-one c = one_plain

pub returns-clause-two : goal.returns-clause-two
returns-clause-two c = two_plain

pub returns-clause-behind_minuses : goal.returns-clause-behind_minuses
returns-clause-behind_minuses c = behind_minuses
