use Rattle.circ_files.proofs.Readings.{reads_once}
use Rattle.circ_files.proofs.Scripts.{scripts_once}
use Rattle.circ_top.proofs.Proofs.{proofs_come_once}
use Rattle.circ_top.proofs.SameOutcomes.{automata_once}
use Rattle.circ_top.proofs.Promising.{Laws, promises_kept}
use Rattle.circ_top.proofs.command.circ.Goals as goal

pub returns : goal.returns
returns g c =
    let laws : Laws = record {
      readings = reads_once c.read_in_one_way.ensures.either c.read_in_one_way.ensures.number c.read_in_one_way.ensures.cause c.read_in_one_way.ensures.theory;
      proofs = proofs_come_once c.one_answer.ensures.proof c.one_answer.ensures.not_both c.one_answer.ensures.cause c.one_verdict.ensures.not_both
          c.one_verdict.ensures.one_failure c.one_verdict.ensures.one_relation;
      scripts = scripts_once c.read_in_one_way-2.ensures.either c.read_in_one_way-2.ensures.number c.read_in_one_way-2.ensures.cause
          c.read_in_one_way-2.ensures.script;
      automata = automata_once c.read_in_one_way-3.ensures.automaton c.read_in_one_way-3.ensures.either c.read_in_one_way-3.ensures.number
          c.read_in_one_way-3.ensures.cause;
      regexes = c.read_in_one_way-4.ensures;
      searches = c.one_answer-2.ensures;
      printing = c.printed_in_one_way.ensures;
      found = c.proved_is_accepted.ensures;
      behave = c.goals_behave.ensures;
      alike = c.expressions_that_behave_match.ensures;
    } in
    record {
      promises = promises_kept _ c.answer.result (rw c.as_slice.ensures.value at c.answer.ensures.answers)
          (rw c.as_slice.ensures.value at c.answer.ensures.quiet) c.answer.ensures.shelf_tells c.answer.ensures.shelf_count c.answer.ensures.sink_frame laws;
    }
