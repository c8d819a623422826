use Rattle.circ_line.proofs.TakenBack.{taken_back}
use Rattle.circ_line.proofs.lent.write_lent_line.Goals as goal

pub returns-in-Err-clause-err : goal.returns-in-Err-clause-err
returns-in-Err-clause-err c = let e = taken_back c.args.out.now.items c.put_lent_line.new.out.items c.put_lent_line.ensures.keeps in cc
