use Rattle.std.proofs.Common.{sym}
use Rattle.circ_script.specs.Script.{plain_script}
use Rattle.circ_script.specs.declared.job.Job.TheVariants as job
use Rattle.circ_files.specs.ScriptFile.{ScriptRefusal}
use Rattle.circ_status.specs.declared.status.Status.TheVariants as status
use Rattle.circ_files.proofs.FileFaults.{quiet_fault}
use Rattle.circ_files.proofs.Scripts.{script_before}
use Rattle.circ_top.specs.Scripted.{theory_fault, script_fault}
use Rattle.circ_top.proofs.trace.trace.Goals as goal

pub returns-in-Err-clause-refused : goal.returns-in-Err-clause-refused
returns-in-Err-clause-refused g c = theory_fault c.in-Err.status c.in-Err.ensures.fault

pub returns-in-Err-take_script-clause-refused : goal.returns-in-Err-take_script-clause-refused
returns-in-Err-take_script-clause-refused g c =
    script_fault c.in-Err-take_script.status c.in-Ok.theory
    (record { bytes = c.in-Ok.ensures.takes.bytes; well_formed = c.in-Ok.ensures.takes.well_formed; reads = c.in-Ok.ensures.takes.reads })
    (quiet_fault 2 c.args.script.now (ScriptRefusal c.in-Ok.theory job.Prove) _ _ _ c.in-Err-take_script.status
    c.in-Ok.ensures.frame c.in-Ok.ensures.quiet c.in-Err-take_script.ensures.fault)

pub searchable-requires-clause-fit : goal.searchable-requires-clause-fit
searchable-requires-clause-fit g c =
    let read = c.in-Ok-take_script.ensures.takes.bytes in
    rw c.in-Ok-take_script.ensures.kept
    (c.scripts_are_fit.ensures.fit c.in-Ok.theory job.Prove read.bytes (plain_script c.in-Ok-take_script.script) c.in-Ok.ensures.takes.well_formed read.are)

pub searchable-requires-clause-goals : goal.searchable-requires-clause-goals
searchable-requires-clause-goals g c =
    let read = c.in-Ok-take_script.ensures.takes.bytes in
    c.scripts_are_fit.ensures.is_for c.in-Ok.theory job.Prove read.bytes (plain_script c.in-Ok-take_script.script) read.are

pub returns-in-Ok-trace_search-clause-traced : goal.returns-in-Ok-trace_search-clause-traced
returns-in-Ok-trace_search-clause-traced g c =
    let th = c.in-Ok.theory in
    let sc = plain_script c.in-Ok-take_script.script in
    record {
      done = record {
        th = th;
        sc = sc;
        ends = rw (c.as_slice.ensures.value, sym c.searchable.ensures.same, c.in-Ok-take_script.ensures.kept) at c.in-Ok-trace_search.ensures;
        takes_theory = record { bytes = c.in-Ok.ensures.takes.bytes; well_formed = c.in-Ok.ensures.takes.well_formed; reads = c.in-Ok.ensures.takes.reads };
        takes_script = script_before c.args.script.now th job.Prove sc _ _ c.in-Ok.ensures.frame c.in-Ok-take_script.ensures.takes;
      };
      searchable = rw c.in-Ok-take_script.ensures.kept at c.searchable.ensures.searchable;
    }

pub returns-clause-refused : goal.returns-clause-refused
returns-clause-refused g c = theory_fault status.Memory tt

pub trace-requires : goal.trace-requires
trace-requires g c = record { searchable = rw (c.as_slice.ensures.value, sym c.searchable.ensures.same) c.searchable.ensures.searchable }
