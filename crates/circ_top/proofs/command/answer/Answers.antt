use Rattle.std.proofs.Common.{[], None, refl, sym, append-nil}
use Rattle.circ_top.specs.Answer.{no_command, words_unread}
use Rattle.circ_top.specs.Delivery.{whole}
use Rattle.circ_top.specs.Storing.{stored_first}
use Rattle.circ_top.specs.Refusals.{usage_text}
use Rattle.circ_status.specs.declared.status.Status.TheVariants as status
use Rattle.circ_top.proofs.Requests.{asks_bounded}
use Rattle.circ_top.proofs.command.answer.Goals as goal

pub returns-in-Ok-None-clause-answers : goal.returns-in-Ok-None-clause-answers
returns-in-Ok-None-clause-answers g c = record {
  answer = status.Usage;
  text = usage_text;
  stored = None;
  due = no_command (rw c.in-Ok-None.field-0-is at c.in-Ok-None.ensures);
  ends = stored_first c.deliver.result (λ n. refl) (rw c.usage.ensures at c.deliver.ensures.delivers);
}

pub returns-in-Ok-Some-clause-answers : goal.returns-in-Ok-Some-clause-answers
returns-in-Ok-Some-clause-answers g c = c.answer_to.ensures.answers _ (rw c.in-Ok-Some.field-0-is at c.in-Ok-Some.ensures)

pub returns-in-Err-clause-answers : goal.returns-in-Err-clause-answers
returns-in-Err-clause-answers g c = record {
  answer = status.Memory;
  text = [];
  stored = None;
  due = words_unread;
  ends = stored_first status.Memory (λ n. refl) (whole (record { quiet = refl; printed = λ t. sym (append-nil _) }));
}

pub answer_to-requires : goal.answer_to-requires
answer_to-requires g c = asks_bounded _ _ (rw c.in-Ok-Some.field-0-is at c.in-Ok-Some.ensures)
