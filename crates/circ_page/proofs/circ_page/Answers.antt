use Rattle.std.proofs.Common.{[], codes, sym}
use Rattle.circ_outer.specs.SureShelf.{state_of as shelf_state, holds_of}
use Rattle.circ_outer.specs.SureSink.{state_of as sink_state, written_of}
use Rattle.circ_page.specs.Page.{file_bytes, no_words, no_memory, ran}
use Rattle.circ_page.proofs.Handed.{handed_moved, nothing_handed, number_moved}
use Rattle.circ_page.proofs.Moved.{run_moved}
use Rattle.circ_page.proofs.circ_page.Goals as goal

pub returns-in_default : goal.returns-in_default
returns-in_default c =
    record {
      text_bytes = [];
      proof_bytes = [];
      comes = no_words c.in_default.ensures.cases.0;
      text_handed = nothing_handed c.args.text.now;
      proof_handed = nothing_handed c.args.stored.now;
    }

pub returns-in_default-run : goal.returns-in_default-run
returns-in_default-run c =
    record {
      text_bytes = [];
      proof_bytes = [];
      comes = no_memory;
      text_handed = nothing_handed c.args.text.now;
      proof_handed = nothing_handed c.args.stored.now;
    }

pub returns : goal.returns
returns c =
    let run = c.in-Ok-run.run' in
    record {
      text_bytes = written_of run.sink;
      proof_bytes = file_bytes (holds_of run.shelf (codes "proof"));
      comes =
          number_moved (sym c.number.ensures)
          (ran run.status (shelf_state run.shelf) (sink_state run.sink) (run_moved c.in-Ok.ensures.cases.0 c.in-Ok-run.ensures));
      text_handed = handed_moved c.bytes.ensures c.hand_out-lengths.ensures;
      proof_handed = handed_moved c.proof_in.ensures c.hand_out-lengths-2.ensures;
    }
