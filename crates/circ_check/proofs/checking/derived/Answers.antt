use Rattle.std.proofs.Common.{[], map, sym, subst}
use Rattle.circ_theory.specs.Theory.{Theory}
use Rattle.circ_proof.specs.PlainProof.{plain_proof}
use Rattle.circ_proof.specs.Proof.{ProofFor}
use Rattle.circ_proof.specs.Accepted.{Derives}
use Rattle.circ_proof.specs.Parts.{parts_of}
use Rattle.circ_check.specs.Deciding.{plain_list}
use Rattle.circ_check.specs.Watching.{Stands}
use Rattle.circ_check.proofs.Behaving.{derived_lists_behave}
use Rattle.circ_check.proofs.Watching.{none_failed, found_derived}
use Rattle.circ_check.proofs.checking.derived.Goals as goal

pub take_proof-requires-clause-fits : goal.take_proof-requires-clause-fits
take_proof-requires-clause-fits c =
    let P : Theory → Type 0 = λ th. ProofFor th (plain_proof c.args.proof.now) in subst P (sym c.new-checker.ensures.sound.theory) c.requires.fits

pub take_proof-requires-clause-start : goal.take_proof-requires-clause-start
take_proof-requires-clause-start c =
    let P : Theory → Type 0 = λ th. Stands th [] c.new-checker.result in subst P (sym c.new-checker.ensures.sound.theory) c.new-checker.ensures

pub returns-clause-exact : goal.returns-clause-exact
returns-clause-exact c =
    let th = c.args.theory.now in
    let p = plain_proof c.args.proof.now in
    let k = c.take_proof.new.self in
    let P : Theory → Type 0 = λ x. Stands x (parts_of p) k in
    let s = subst P c.new-checker.ensures.sound.theory c.in_ok-take_proof.ensures in
    subst (Derives th p) (sym c.take_derived.ensures)
    (found_derived th p k c.requires.fits s (none_failed th p k c.requires.fits c.requires.accepted s))

pub returns-clause-sound : goal.returns-clause-sound
returns-clause-sound c =
    let th = c.args.theory.now in
    let p = plain_proof c.args.proof.now in
    let k = c.take_proof.new.self in
    let P : Theory → Type 0 = λ x. Stands x (parts_of p) k in
    let s = subst P c.new-checker.ensures.sound.theory c.in_ok-take_proof.ensures in
    let d = found_derived th p k c.requires.fits s (none_failed th p k c.requires.fits c.requires.accepted s) in
    derived_lists_behave th c.known.ensures p c.requires.fits (map plain_list c.take_derived.result.items) (subst (Derives th p) (sym c.take_derived.ensures) d)
