-- That a run keeps what is promised: from the answer that is due, and from the laws of the crates below.
use Rattle.std.proofs.Common.{◌≡◌, ◌≤◌}
use Rattle.circ_outer.specs.Sink.{SinkFrame}
use Rattle.circ_status.specs.declared.status.Status.{Status}
use Rattle.circ_top.specs.Answer.{AnswersDue}
use Rattle.circ_top.specs.Causes.{IsQuietRun}
use Rattle.circ_top.specs.Promises.{Promises}
use Rattle.circ_top.specs.Run.{Run}
use Rattle.circ_files.proofs.Readings.{ReadsOnce}
use Rattle.circ_files.proofs.Scripts.{ScriptsOnce}
use Rattle.circ_top.proofs.Proofs.{ProofsOnce}
use Rattle.circ_top.proofs.SameOutcomes.{AutomataOnce}
use Rattle.circ_top.proofs.Searches.{SearchesOnce}
use Rattle.circ_top.proofs.RegexOutcomes.{ExpressionsOnce, GoalsBehave, AlikeMatch}
use Rattle.circ_top.proofs.Agreeing.{PrintsOnce}
use Rattle.circ_top.proofs.Answers.{ProofsFound, answers_succeed, answers_accepted, answers_proved, answers_equal, answers_told_apart, answers_upgraded, answers_written}
use Rattle.circ_top.proofs.Answers.{answers_refused, answers_hold, answers_past_limit, answers_read_fault, answers_write_fault, read_outcome, accepted_read_outcome}
use Rattle.circ_top.proofs.Outcomes.{answers_outcome, answers_come, answers_memory}

-- the laws of the crates below: what is read, searched or printed comes once, and what it then says
pub record Laws : Type 0 where
  pub readings : ReadsOnce
  pub proofs : ProofsOnce
  pub scripts : ScriptsOnce
  pub automata : AutomataOnce
  pub regexes : ExpressionsOnce
  pub searches : SearchesOnce
  pub printing : PrintsOnce
  pub found : ProofsFound
  pub behave : GoalsBehave
  pub alike : AlikeMatch

pub promises_kept : (run : Run) (r : Status) → AnswersDue run r → IsQuietRun run.words run.before run.after r → run.after.tells ≡ run.before.tells
    → run.before.count ≤ run.after.count → SinkFrame run.start run.end → Laws → Promises run r
promises_kept run r a q tells count frame laws =
    let come = answers_come laws.readings laws.proofs laws.scripts laws.automata laws.regexes laws.searches laws.printing run r a in
    record {
      accepted = answers_accepted run r a q;
      refused = answers_refused run r a q;
      proved = answers_proved run r a laws.found q;
      expressions = answers_equal run r a laws.found laws.behave laws.alike q;
      told_apart = answers_told_apart run r a q;
      upgraded = answers_upgraded run r a q;
      expansion = answers_written run r a q;
      succeeded = answers_succeed run r a q;
      answers = a;
      outcome = answers_outcome run r a;
      complete = come;
      first_failure = λ t report th p n f fail. come t _ _ _ (read_outcome run.words run.before.holds report th p n f fail);
      accepted_text = λ t report th p derived f d. come t _ _ _ (accepted_read_outcome run.words run.before.holds report th p derived f d);
      file_limit = answers_past_limit run r a;
      read_fault = answers_read_fault run r a;
      write_fault = answers_write_fault run r a;
      memory =
          λ e. answers_memory laws.readings laws.proofs laws.scripts laws.automata laws.regexes laws.searches laws.printing run r a;
      quiet = q;
      holds = answers_hold run r a;
      shelf_tells = tells;
      shelf_count = count;
      sink_frame = frame;
    }
