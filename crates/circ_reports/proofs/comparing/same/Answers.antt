use Rattle.circ_reports.specs.Same.{ReadsOver, SecondRefusal, first_fault, second_fault}
use Rattle.circ_files.proofs.FileFaults.{quiet_fault}
use Rattle.circ_reports.proofs.SameFiles.{taken_since}
use Rattle.circ_reports.proofs.comparing.same.Goals as goal

pub returns-in-Err-clause-refused : goal.returns-in-Err-clause-refused
returns-in-Err-clause-refused g c = first_fault c.in-Err.status c.in-Err.ensures.fault

pub returns-in-Err-take_second-clause-refused : goal.returns-in-Err-take_second-clause-refused
returns-in-Err-take_second-clause-refused g c =
    second_fault c.in-Err-take_second.status c.in-Ok.first c.in-Ok.ensures.takes
    (quiet_fault 2 c.args.second.now (SecondRefusal c.in-Ok.first) _ _ _ c.in-Err-take_second.status
    c.in-Ok.ensures.frame c.in-Ok.ensures.quiet c.in-Err-take_second.ensures.fault)

pub returns-clause-compared : goal.returns-clause-compared
returns-clause-compared g c = (
  record {
    m = c.in-Ok.first;
    n = c.in-Ok-take_second.second;
    compared = c.in_ok-compared.ensures.compared;
    takes_first = c.in-Ok.ensures.takes;
    takes_second = taken_since (ReadsOver c.in-Ok.first) c.args.second.now c.in-Ok-take_second.second _ _ c.in-Ok.ensures.frame
        c.in-Ok-take_second.ensures.takes;
  },
  c.in_ok-compared.ensures.stored,
)
