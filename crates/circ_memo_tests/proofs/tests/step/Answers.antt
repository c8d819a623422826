use Rattle.std.specs.Prelude.{refl}
use Rattle.circ_memo_tests.proofs.tests.step.Goals as goal

pub returns-clause-rewrites : goal.returns-clause-rewrites
returns-clause-rewrites c = rw (c.in_ok-constant.ensures, c.in_ok-constant-2.ensures, c.new.ensures) (record { application = refl; bound = refl })
