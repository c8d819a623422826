use Rattle.std.proofs.Common.{subst}
use Rattle.circ_theory.specs.WellFormed.{IsWellFormed}
use Rattle.circ_file.proofs.Handing.{with_machine, pop_handed, hands_fit, hands_first, hands_shown}
use Rattle.circ_file.proofs.reader.FileReader.next.Goals as goal

pub returns-in-None-clause-stands : goal.returns-in-None-clause-stands
returns-in-None-clause-stands c th x handed s =
    let told = c.pop.ensures in
    pop_handed th x handed c.args.self.now c.pop.new.self c.pop.result s told.popped told.next told.places

pub returns-in-None-clause-fit : goal.returns-in-None-clause-fit
returns-in-None-clause-fit c th x handed s =
    let told = c.pop.ensures in
    hands_fit th x handed c.pop.result (with_machine c.args.self.now c.pop.new.self)
    (pop_handed th x handed c.args.self.now c.pop.new.self c.pop.result s told.popped told.next told.places)

pub returns-in-None-clause-first : goal.returns-in-None-clause-first
returns-in-None-clause-first c th x later handed p s r =
    let told = c.pop.ensures in
    hands_first th x later handed c.pop.result (with_machine c.args.self.now c.pop.new.self) p (subst IsWellFormed s.theory c.known.ensures)
    (pop_handed th x handed c.args.self.now c.pop.new.self c.pop.result s told.popped told.next told.places) r

pub returns-in-None-clause-shown : goal.returns-in-None-clause-shown
returns-in-None-clause-shown c th x later handed p s r =
    let told = c.pop.ensures in
    hands_shown th x later handed c.pop.result (with_machine c.args.self.now c.pop.new.self) p (subst IsWellFormed s.theory c.known.ensures)
    (pop_handed th x handed c.args.self.now c.pop.new.self c.pop.result s told.popped told.next told.places) r
