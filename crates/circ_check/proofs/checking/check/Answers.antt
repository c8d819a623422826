use Rattle.std.proofs.Common.{sym, subst, []}
use Rattle.circ_theory.specs.Theory.{Theory}
use Rattle.circ_proof.specs.PlainProof.{plain_proof}
use Rattle.circ_proof.specs.Proof.{ProofFor}
use Rattle.circ_proof.specs.Parts.{parts_of}
use Rattle.circ_check.specs.Watching.{Stands}
use Rattle.circ_check.proofs.checking.check.Goals as goal

pub take_proof-requires-clause-fits : goal.take_proof-requires-clause-fits
take_proof-requires-clause-fits c =
    let P : Theory → Type 0 = λ th. ProofFor th (plain_proof c.args.proof.now) in subst P (sym c.new-checker.ensures.sound.theory) c.requires

pub take_proof-requires-clause-start : goal.take_proof-requires-clause-start
take_proof-requires-clause-start c =
    let P : Theory → Type 0 = λ th. Stands th [] c.new-checker.result in subst P (sym c.new-checker.ensures.sound.theory) c.new-checker.ensures

pub returns-clause-exact : goal.returns-clause-exact
returns-clause-exact c =
    let p = plain_proof c.args.proof.now in
    let P : Theory → Type 0 = λ th. Stands th (parts_of p) c.take_proof.new.self in
    c.verdict_of.ensures.exact c.args.theory.now p c.requires (subst P c.new-checker.ensures.sound.theory c.in_ok-take_proof.ensures)

pub returns-clause-sound : goal.returns-clause-sound
returns-clause-sound c =
    let p = plain_proof c.args.proof.now in
    let P : Theory → Type 0 = λ th. Stands th (parts_of p) c.take_proof.new.self in
    c.verdict_of.ensures.sound c.args.theory.now p c.requires (subst P c.new-checker.ensures.sound.theory c.in_ok-take_proof.ensures)
