use Rattle.std.proofs.Common.{◌≡◌, ◌&&◌, ◌∙◌, true, sym, ap, refl, inl, inr, List}
use Rattle.std.specs.Option.{option_map}
use Rattle.circ_term.specs.Tree.{Tree}
use Rattle.circ_theory.specs.Pairs.{plain_pair}
use Rattle.circ_proof.specs.Proof.{pair_at}
use Rattle.circ_line.specs.Line.{given_line}
use Rattle.circ_proof_text.specs.Checks.{is_condition}
use Rattle.circ_file.specs.Adding.{terms_in}
use Rattle.circ_file.specs.View.{IsMachineOf, Moves}
use Rattle.circ_file.specs.declared.lines.LineReader.{LineReader}
use Rattle.circ_file.proofs.Taking.{given_counted}
use Rattle.circ_file.proofs.lines.LineReader.take_given.Goals as goal

pub returns-then-not-is_second-clause-taken : goal.returns-then-not-is_second-clause-taken
returns-then-not-is_second-clause-taken c w =
    let old = c.args.self.now in
    inr (ap (λ x. x && is_condition old.theory.now (terms_in old.table) c.args.left c.args.right) (sym c.if-not-is_second.ensures))

pub returns-then-not-is_opened-clause-taken : goal.returns-then-not-is_opened-clause-taken
returns-then-not-is_opened-clause-taken c w = inl (c.if-not-is_opened.ensures.given (c.args.left, c.args.right) refl)

pub returns-clause-taken : goal.returns-clause-taken
returns-clause-taken c w =
    let old = c.args.self.now in
    let new : LineReader = record old { machine = c.put_given.new.self; table = c.condition.new.self; counts = c.count_given.new.self } in
    let moves : (ts : List Tree) → IsMachineOf ts old.machine → plain_pair c.in-Some.pair ≡ pair_at ts (c.args.left, c.args.right)
    → Moves true ts old.machine (given_line c.args.left c.args.right) c.put_given.new.self
    = rw c.if-not-branch.false at c.in_ok-put_given.ensures in
    given_counted w old new c.args.left c.args.right (plain_pair c.in-Some.pair) c.requires.reader (sym c.if-not-is_second.ensures)
    (ap (option_map plain_pair) (sym c.in-Some.is) ∙ c.in_ok-pair.ensures.pair) moves c.count_given.result c.count_given.ensures refl
    c.condition.ensures.terms c.condition.ensures.state
