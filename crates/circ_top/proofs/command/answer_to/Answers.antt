use Rattle.circ_top.specs.Answer.{work_done, refusal}
use Rattle.circ_top.specs.Command.{plain_request}
use Rattle.circ_top.specs.Refusals.{refusal_text}
use Rattle.circ_top.specs.Storing.{stored_first}
use Rattle.circ_status.specs.Ending.{plain_stored}
use Rattle.std.proofs.Common.{None}
use Rattle.circ_top.proofs.Concluding.{ends_since, quiet_run, refused_run}
use Rattle.circ_top.proofs.command.answer_to.Goals as goal

pub returns-in-Ok-clause-answers : goal.returns-in-Ok-clause-answers
returns-in-Ok-clause-answers g c = λ words i.
    let k = plain_request c.args.request.now in
    let e = c.in-Ok.ending in
    record {
      answer = e.status;
      text = e.text.items;
      stored = plain_stored e.stored;
      due = work_done k e.status e.text.items (plain_stored e.stored) i c.in-Ok.ensures.comes;
      ends = ends_since _ _ _ c.in-Ok.ensures.frame c.in-Ok.ensures.quiet words _ _ e.status e.text.items (plain_stored e.stored) c.conclude.result
          (c.conclude.ensures.ends words);
    }

pub returns-in-Ok-clause-quiet : goal.returns-in-Ok-clause-quiet
returns-in-Ok-clause-quiet g c = λ words i.
    let k = plain_request c.args.request.now in
    let e = c.in-Ok.ending in
    quiet_run _ _ _ c.in-Ok.ensures.frame c.in-Ok.ensures.quiet words (g.S.Shelf.state c.conclude.new.shelf) e.status e.text.items (plain_stored e.stored)
    c.conclude.result
    (work_done k e.status e.text.items (plain_stored e.stored) i c.in-Ok.ensures.comes) c.conclude.ensures.quiet

pub returns-in-Err-clause-answers : goal.returns-in-Err-clause-answers
returns-in-Err-clause-answers g c = λ words i.
    let k = plain_request c.args.request.now in
    record {
      answer = c.in-Err.status;
      text = refusal_text k c.in-Err.status;
      stored = None;
      due = refusal k c.in-Err.status i c.in-Err.ensures.refuses;
      ends = stored_first c.refuse.result c.run.ensures.frame.holds c.refuse.ensures.delivers;
    }

pub returns-in-Err-clause-quiet : goal.returns-in-Err-clause-quiet
returns-in-Err-clause-quiet g c = λ words i. refused_run words _ _ c.in-Err.status c.refuse.result c.in-Err.ensures.quiet c.refuse.ensures.unread
