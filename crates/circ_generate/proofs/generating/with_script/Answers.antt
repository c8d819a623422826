use Rattle.std.proofs.Common.{refl, sym, ap}
use Rattle.circ_script.specs.Script.{plain_script}
use Rattle.circ_status.specs.Ending.{stored_as, plain_stored, plain_ending}
use Rattle.circ_generate.proofs.Summaries.{accepted_text, none_generates, some_generates}
use Rattle.circ_generate.proofs.generating.with_script.Goals as goal

pub searchable-requires-clause-fit : goal.searchable-requires-clause-fit
searchable-requires-clause-fit c = c.scripts_are_fit.ensures.fit c.args.theory.now _ _ _ c.known.ensures c.requires.script

pub searchable-requires-clause-goals : goal.searchable-requires-clause-goals
searchable-requires-clause-goals c = c.scripts_are_fit.ensures.is_for c.args.theory.now _ _ _ c.requires.script

pub summary-requires : goal.summary-requires
summary-requires c =
    accepted_text c.proved_is_accepted.ensures c.args.theory.now c.known.ensures (plain_script c.args.script.now) c.searchable.ensures.searchable c.args.number
    (plain_ending c.in_ok-status.field-0) (rw (c.as_slice.ensures.value, sym c.searchable.ensures.same) at c.in_ok-status.ensures)
    (stored_as c.in-Some.proof.name.now c.in-Some.proof.bytes.items) c.as_slice-in-Some.result.now (ap plain_stored c.in-Some.is) c.as_slice-in-Some.ensures.value

pub returns-in-None : goal.returns-in-None
returns-in-None c =
    none_generates c.proved_is_accepted.ensures c.args.theory.now c.known.ensures (plain_script c.args.script.now) c.searchable.ensures.searchable c.args.number
    _ (rw (c.as_slice.ensures.value, sym c.searchable.ensures.same, c.in-None.is) at c.in_ok-status.ensures) c.requires.theory c.requires.script refl

pub returns-in-Some : goal.returns-in-Some
returns-in-Some c =
    some_generates c.proved_is_accepted.ensures c.args.theory.now c.known.ensures (plain_script c.args.script.now) c.searchable.ensures.searchable c.args.number
    (plain_ending c.in_ok-status.field-0) (rw (c.as_slice.ensures.value, sym c.searchable.ensures.same) at c.in_ok-status.ensures)
    c.requires.theory c.requires.script c.summary.result (stored_as c.in-Some.proof.name.now c.in-Some.proof.bytes.items) c.as_slice-in-Some.result.now
    (ap plain_stored c.in-Some.is) c.as_slice-in-Some.ensures.value c.summary.ensures
