use Rattle.std.proofs.Common.{map}
use Rattle.circ_statement.specs.Said.{spelled_of}
use Rattle.circ_statement.proofs.Declaring.{unforeign, ungiven, unnamed, fault_of, is_declared}
use Rattle.circ_statement.proofs.reading.operators.Goals as goal

pub returns-in_default-attributes_of : goal.returns-in_default-attributes_of
returns-in_default-attributes_of c =
    let head = c.in-Some.ensures.4 in
    (ungiven head c.args.is_one c.in_default-attributes_of.ensures, unforeign head c.in_default-foreign_mark.ensures)

pub returns-then-not-is_named : goal.returns-then-not-is_named
returns-then-not-is_named c =
    let head = c.in-Some.ensures.4 in (
      unnamed head c.args.is_one (λ some names name.
          let yes = c.is_named.ensures.1 (record { some = some; are_names = names; is_name = name }) in
          let no = c.if-not-is_named.true in
          absurd (cc)),
      unforeign head c.in_default-foreign_mark.ensures,
    )

pub returns-in-Err : goal.returns-in-Err
returns-in-Err c =
    let head = c.in-Some.ensures.4 in
    fault_of head c.args.is_one c.in-Some-attributes_of.given c.in-Some-attributes_of.ensures c.in-Err.fault c.args.tokens.now c.args.span
    (unforeign head c.in_default-foreign_mark.ensures) c.in-Err.ensures

pub returns-in-Ok : goal.returns-in-Ok
returns-in-Ok c =
    let h = c.in-Some.ensures in
    let names = c.is_named.ensures.0 c.if-not-is_named.false in (
      is_declared h.4 c.args.is_one c.in-Some-attributes_of.given c.in-Some-attributes_of.ensures (map spelled_of c.in-Ok.forms.items) c.in-Ok.ensures names.some names.are_names names.is_name,
      (h.1, h.2),
      unforeign h.4 c.in_default-foreign_mark.ensures,
    )
