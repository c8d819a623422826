use Rattle.std.proofs.Common.{◌≡◌, map, ap, sym, subst}
use Rattle.circ_theory.specs.WellFormed.{IsWellFormed}
use Rattle.circ_proof.specs.Accepted.{Derives}
use Rattle.circ_check.specs.Deciding.{plain_list}
use Rattle.circ_check.specs.Watching.{derived_of}
use Rattle.circ_check.proofs.Behaving.{derived_lists_behave}
use Rattle.circ_check.proofs.Watching.{found_derived}
use Rattle.circ_check.proofs.checker.Checker.derived.Goals as goal

pub returns-clause-exact : goal.returns-clause-exact
returns-clause-exact c th p f s e =
    let same : map plain_list c.as_slice.result.now ≡ derived_of c.args.self.now = ap (map plain_list) c.as_slice.ensures.value in
    subst (Derives th p) (sym same) (found_derived th p c.args.self.now f s e)

pub returns-clause-sound : goal.returns-clause-sound
returns-clause-sound c th p f s e =
    let same : map plain_list c.as_slice.result.now ≡ derived_of c.args.self.now = ap (map plain_list) c.as_slice.ensures.value in
    let ok = subst IsWellFormed s.sound.theory c.known.ensures in
    derived_lists_behave th ok p f (map plain_list c.as_slice.result.now)
    (subst (Derives th p) (sym same) (found_derived th p c.args.self.now f s e))
