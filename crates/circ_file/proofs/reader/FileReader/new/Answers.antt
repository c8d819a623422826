use Rattle.std.proofs.Common.{◌≡◌, ◌∙◌, None, refl, sym, ap, subst, []}
use Rattle.circ_file.specs.View.{queue_of}
use Rattle.circ_file.specs.Lines.{seen_of}
use Rattle.circ_proof_text.specs.Reading.{Reading, StandsFor, nothing_read}
use Rattle.circ_proof_text.proofs.Standing.{starts}
use Rattle.circ_file.specs.Feeding.{reading_of}
use Rattle.circ_file.specs.declared.reader.FileReader.{FileReader}
use Rattle.circ_file.proofs.Standing.{reading_with, same_reading}
use Rattle.circ_file.proofs.reader.FileReader.new.Goals as goal

pub returns-clause-stands : goal.returns-clause-stands
returns-clause-stands c =
    let th = c.args.theory.now in
    let told = c.new.ensures in
    let new : FileReader = record { reader = c.new.result; lines = 0; rest = c.new-2.result; fault = None } in
    let same : reading_of [] new ≡ nothing_read
    = ap (λ n. reading_with 0 c.new-2.result.items n (seen_of [] c.new.result) (queue_of c.new.result.machine)) told.begin
    ∙ same_reading nothing_read 0 c.new-2.result.items (seen_of [] c.new.result) (queue_of c.new.result.machine) refl c.new-2.ensures.items told.seen told.queue in
    let S : Reading → Type 0 = λ k. StandsFor th [] [] k in
    record { theory = told.theory; wanted = []; stands = subst S (sym same) (starts th); fault = refl }
