use Rattle.std.proofs.Common.{true, List, sym, subst}
use Rattle.circ_proof.specs.Parts.{Head}
use Rattle.circ_special.specs.declared.place.Place.{Place}
use Rattle.circ_check.specs.declared.checker.Checker.{Checker}
use Rattle.circ_check.specs.Watching.{Took}
use Rattle.circ_check.proofs.Watching.{head_taken}
use Rattle.circ_check.proofs.checker.Checker.begin_proof.Goals as goal

pub returns : goal.returns
returns c =
    let k = c.args.self.now in
    let p = c.args.proof.now in
    let e = c.enter_proof.new.self in
    let r = c.in_ok-enter_proof.ensures in
    let gamma = c.in_ok-gamma.gamma in
    let P : Checker → Type 0 =
    λ x. Took k.theory.now (Head p.table.items gamma) k
    (record x { gamma = gamma; due = c.all-self.result; base = c.len-self.result; is_begun = true }) in
    let taken = subst P (sym c.enter_proof.ensures.others)
    (head_taken k e.nodes e.equations e.derivatives e.lines p.table.items gamma c.all-self.result c.len-self.result c.requires.sound
    c.enter_proof.ensures.grows r.knows r.lines r.stay r.table (c.all-self.ensures k.theory.now gamma) c.len-self.ensures) in
    let Q : List Place → Type 0 =
    λ gs. Took k.theory.now (Head p.table.items gs) k
    (record c.enter_proof.new.self { gamma = gamma; due = c.all-self.result; base = c.len-self.result; is_begun = true }) in
    subst Q c.in_ok-gamma.ensures taken
