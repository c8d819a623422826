use Rattle.std.proofs.Common.{[], ◌∷◌, ◌++◌, subst, sym, ap, ◌∙◌}
use Rattle.circ_table.specs.Part.{plain_part}
use Rattle.circ_file.specs.Feeding as reader
use Rattle.circ_file.specs.declared.reader.FileReader.{FileReader}
use Rattle.circ_reports.proofs.Pieces.{part_taken}
use Rattle.circ_reports.proofs.incoming.Incoming.take_waiting.Goals as goal

pub take-requires : goal.take-requires
take-requires c =
    let given = c.requires.read in
    let r = c.loop-part.invariant.read given.0 given.1 given.2 given.3 in
    (given.0, r.0, r.1.checked, c.in-Some.ensures.fit given.0 given.1 r.0 r.1.read)

pub loop-part-preserved : goal.loop-part-preserved
loop-part-preserved c =
    let kept = c.loop-part.invariant in
    let told = c.in-Some.ensures in
    let took = c.in_ok-take.ensures in
    let P : FileReader → Type 0 = reader.IsSound in
    record {
      sound = subst P (sym took.reader) told.sound;
      fault = ap reader.fault_of took.reader ∙ told.fault ∙ kept.fault;
      lines = ap reader.whole_lines_in took.reader ∙ told.lines ∙ kept.lines;
      theory = took.theory ∙ kept.theory;
      read = λ th bytes parts h.
          let r = kept.read th bytes parts h in (
            r.0 ++ plain_part c.in-Some.part ∷ [],
            part_taken th bytes r.0 (plain_part c.in-Some.part) c.next.new.self c.loop-part.self c.take.new.self r.1
                (told.stands th bytes r.0 r.1.read) took.reader (took.taken th r.0 r.1.checked) took.goals,
          );
    }

pub returns-clause-read : goal.returns-clause-read
returns-clause-read c th bytes parts h =
    let r = c.loop-part.invariant.read th bytes parts h in
    (r.0, record { read = (c.in_default.ensures.stands th bytes r.0 r.1.read).1; checked = r.1.checked; goals = r.1.goals })
