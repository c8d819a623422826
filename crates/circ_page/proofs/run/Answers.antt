use Rattle.std.proofs.Common.{refl, map, string_bytes}
use Rattle.circ_outer.specs.SureShelf.{state_of as shelf_state}
use Rattle.circ_outer.specs.SureSink.{state_of as sink_state}
use Rattle.circ_top.specs.Run.{Run}
use Rattle.circ_top.proofs.NoFaults.{never_rose, sure_outcome}
use Rattle.circ_page.proofs.run.Goals as goal

pub returns : goal.returns
returns c =
    let run : Run = record {
      words = map string_bytes c.in_ok-words.words.items;
      before = shelf_state c.in_ok-shelf.shelf;
      after = shelf_state c.circ-status.new.shelf;
      start = sink_state c.new-sink.result;
      end = sink_state c.circ-status.new.out;
    } in
    record {
      run = run;
      words_are = c.in_ok-words.ensures;
      after_is = refl;
      end_is = refl;
      held = c.in_ok-shelf.ensures;
      nothing = c.new-sink.ensures.written;
      promises = c.circ-status.ensures.promises;
      outcome = λ h. sure_outcome run c.circ-status.result c.circ-status.ensures.promises never_rose never_rose refl refl h;
    }
