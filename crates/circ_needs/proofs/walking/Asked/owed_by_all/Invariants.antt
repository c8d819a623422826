use Rattle.circ_needs.specs.Owing.{AreMet}
use Rattle.circ_needs.proofs.walking.Asked.owed_by_all.Given as goal

abbrev pub invariant-loop-look : goal.invariant-loop-look
invariant-loop-look l = AreMet l.self l.path l.row l.look-index l.owed
