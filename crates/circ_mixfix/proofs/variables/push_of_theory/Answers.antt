use Rattle.std.proofs.Common.{[], sym, append-nil}
use Rattle.circ_theory.specs.Theory.{declared}
use Rattle.circ_mixfix.proofs.Written.{none_declared, one_declared, placed}
use Rattle.circ_mixfix.proofs.variables.push_of_theory.Goals as goal

pub returns-in_default : goal.returns-in_default
returns-in_default c = ([], sym (append-nil c.args.out.now.items), none_declared c.args.word c.args.name.now c.args.theory.now.variables (sym c.in_default.ensures))

pub returns-in_default-var : goal.returns-in_default-var
returns-in_default-var c = absurd (placed c.args.word c.args.name.now c.args.theory.now.variables c.in-Some.number (sym c.in-Some.ensures) (sym c.in_default-var.ensures))

pub returns : goal.returns
returns c = (
  _,
  c.in_ok-push.ensures.items,
  one_declared c.args.word c.args.name.now c.args.theory.now.variables c.in-Some.number (declared c.in-Some-var.field-0-0.now c.in-Some-var.sort)
      c.known_names.ensures.variables (sym c.in-Some.ensures) (sym c.in-Some-var.ensures),
)
