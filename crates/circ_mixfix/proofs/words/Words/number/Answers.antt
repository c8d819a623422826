use Rattle.std.proofs.Common.{sym}
use Rattle.circ_mixfix.proofs.WordLists.{number_there, number_absent}
use Rattle.circ_mixfix.proofs.words.Words.number.Goals as goal

pub returns-in-Some : goal.returns-in-Some
returns-in-Some c = rw (← c.self.view_is) (number_there (λ k. k.now) c.self.inside.texts.keys c.args.text.now c.in-Some.number (sym c.in-Some.ensures.index))

pub returns-in-None : goal.returns-in-None
returns-in-None c = rw (← c.self.view_is) (number_absent (λ k. k.now) c.self.inside.texts.keys c.args.text.now (sym c.in-None.ensures.found))
