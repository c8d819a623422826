-- What the checker accepts behaves.
use Rattle.std.proofs.Common.{List}
use Rattle.circ_theory.specs.Theory.{Theory}
use Rattle.circ_theory.specs.WellFormed.{IsWellFormed}
use Rattle.circ_theory.specs.Goal.{Goal}
use Rattle.circ_proof.specs.Proof.{Proof, ProofFor}
use Rattle.circ_proof.specs.Accepted.{Derives}
use Rattle.circ_soundness.proofs.Sound.{derived_behave}
use Rattle.circ_check.specs.Deciding.{DerivedBehave}

pub derived_lists_behave : (th : Theory) → IsWellFormed th → (p : Proof) → ProofFor th p → (dss : List (List Goal)) → Derives th p dss
    → DerivedBehave th dss
derived_lists_behave th ok p f dss d ds c g e = derived_behave th ok p f dss d ds c g e
