use Rattle.std.proofs.Common.{Option, sym, subst}
use Rattle.std.specs.Option.{option_map_or}
use Rattle.circ_term.specs.Tree.{Var}
use Rattle.circ_term.specs.Limits.{Builds}
use Rattle.circ_theory.specs.Signature.{Operator}
use Rattle.circ_theory.specs.Operators.{operator_of}
use Rattle.circ_proof.specs.Certified.{start_term}
use Rattle.circ_proof.proofs.Starting.{few_args}
use Rattle.circ_entry.specs.Entries.{derivative_at}
use Rattle.circ_uses.proofs.starting.start_at.Goals as goal

pub start_of-requires : goal.start_of-requires
start_of-requires c = few_args c.args.theory.now c.known.ensures c.args.place.op (operator_of c.in-Some.decl.now) (sym c.in-Some.ensures)

pub returns-in-Some : goal.returns-in-Some
returns-in-Some c =
    let d = derivative_at c.args.theory.now c.args.derivative in
    let P : Option Operator → Type 0 = λ o. Builds c.start_of.result (option_map_or (λ p. start_term p c.args.place d) o (Var 0 0)) in
    subst P c.in-Some.ensures c.start_of.ensures
