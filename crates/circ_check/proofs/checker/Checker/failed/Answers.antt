use Rattle.std.proofs.Common.{subst}
use Rattle.circ_theory.specs.WellFormed.{IsWellFormed}
use Rattle.circ_check.specs.Watching.{failed_of}
use Rattle.circ_check.proofs.Watching.{found, found_early, found_behave}
use Rattle.circ_check.proofs.checker.Checker.failed.Goals as goal

pub returns-clause-exact : goal.returns-clause-exact
returns-clause-exact c th p f s = found th p c.args.self.now f s

pub returns-clause-early : goal.returns-clause-early
returns-clause-early c th p xs ys n f all s e = found_early th p xs ys n c.args.self.now f all s e

pub returns-clause-sound : goal.returns-clause-sound
returns-clause-sound c th p f s =
    let k = c.args.self.now in
    found_behave th p (subst IsWellFormed s.sound.theory c.known.ensures) f (failed_of k) (found th p k f s)
