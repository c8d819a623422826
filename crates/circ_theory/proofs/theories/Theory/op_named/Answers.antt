use Rattle.std.proofs.Common.{List, ℕ, false, ◌∙◌}
use Rattle.circ_theory.specs.declared.theories.OpKey.{OpKey}
use Rattle.circ_form.specs.declared.forms.Piece.{Piece}
use Rattle.circ_theory.specs.declared.parts.Side.TheVariants.{Neither}
use Rattle.circ_theory.specs.Signature.{Operator}
use Rattle.circ_theory.proofs.Keys.{key_position}
use Rattle.circ_theory.proofs.theories.Theory.op_named.Goals as goal

abbrev asked : List Piece → List ℕ → Operator
asked form args = record { form = form; args = args; result = 0; prec = 0; side = Neither; assoc = false; comm = false; idem = false }

pub returns-in-Some : goal.returns-in-Some
returns-in-Some c =
    let k : OpKey = record { form = c.in_ok-spell.field-0; args = c.in_ok-from_slice.field-0 } in
    rw (← c.self.view_is)
    ((rw c.deref.ensures at c.in-Some.ensures.index)
    ∙ key_position k (asked c.args.form.now c.args.args.now) c.self.inside.parts.value.ops.entries
    (record { form = c.in_ok-spell.ensures; is_form = c.known.ensures; args = c.in_ok-from_slice.ensures.items }) c.self.invariant.entries)

pub returns-in-None : goal.returns-in-None
returns-in-None c =
    let k : OpKey = record { form = c.in_ok-spell.field-0; args = c.in_ok-from_slice.field-0 } in
    rw (← c.self.view_is)
    ((rw c.deref.ensures at c.in-None.ensures.index)
    ∙ key_position k (asked c.args.form.now c.args.args.now) c.self.inside.parts.value.ops.entries
    (record { form = c.in_ok-spell.ensures; is_form = c.known.ensures; args = c.in_ok-from_slice.ensures.items }) c.self.invariant.entries)
