use Rattle.std.proofs.Common.{◌≡◌, true, false, refl, sym, ◌∙◌}
use Rattle.circ_reports.proofs.SameFiles.{second_file_fault, taken_over, other_letters_fault}
use Rattle.circ_reports.proofs.comparing.take_second.Goals as goal

pub returns-in-Err-clause-fault : goal.returns-in-Err-clause-fault
returns-in-Err-clause-fault g c = second_file_fault c.args.name.now c.args.first.now _ _ c.in-Err.status c.in-Err.ensures.fault

pub returns-then-same_letters-clause-takes : goal.returns-then-same_letters-clause-takes
returns-then-same_letters-clause-takes g c =
    taken_over c.args.name.now c.args.first.now c.in-Ok.second _ (c.if-same_letters.ensures.0 refl) c.in-Ok.ensures.takes

pub returns-then-same_letters-clause-letters : goal.returns-then-same_letters-clause-letters
returns-then-same_letters-clause-letters g c = c.if-same_letters.ensures.0 refl

pub returns-else-same_letters-clause-fault : goal.returns-else-same_letters-clause-fault
returns-else-same_letters-clause-fault g c =
    other_letters_fault c.args.name.now c.args.first.now c.in-Ok.second _ (g.S.Shelf.state c.args.shelf.now) c.in-Ok.ensures.takes (λ e.
    let never : true ≡ false = sym (c.same_letters.ensures.1 e) ∙ c.if-same_letters.false in cc)
