use Rattle.std.proofs.Common.{sym}
use Rattle.circ_script.specs.Script.{plain_script}
use Rattle.circ_script.specs.declared.job.Job.TheVariants as job
use Rattle.circ_files.specs.ScriptFile.{ScriptRefusal}
use Rattle.circ_status.specs.declared.status.Status.TheVariants as status
use Rattle.circ_files.proofs.FileFaults.{quiet_fault}
use Rattle.circ_files.proofs.Scripts.{script_before}
use Rattle.circ_top.specs.Scripted.{theory_fault, script_fault}
use Rattle.circ_top.proofs.differ.differ.Goals as goal

pub returns-in-Err-clause-refused : goal.returns-in-Err-clause-refused
returns-in-Err-clause-refused g c = theory_fault c.in-Err.status c.in-Err.ensures.fault

pub returns-in-Err-take_script-clause-refused : goal.returns-in-Err-take_script-clause-refused
returns-in-Err-take_script-clause-refused g c =
    script_fault c.in-Err-take_script.status c.in-Ok.theory
    (record { bytes = c.in-Ok.ensures.takes.bytes; well_formed = c.in-Ok.ensures.takes.well_formed; reads = c.in-Ok.ensures.takes.reads })
    (quiet_fault 2 c.args.script.now (ScriptRefusal c.in-Ok.theory job.Differ) _ _ _ c.in-Err-take_script.status
    c.in-Ok.ensures.frame c.in-Ok.ensures.quiet c.in-Err-take_script.ensures.fault)

pub plainly_searchable-requires-clause-fit : goal.plainly_searchable-requires-clause-fit
plainly_searchable-requires-clause-fit g c =
    let read = c.in-Ok-take_script.ensures.takes.bytes in
    rw c.in-Ok-take_script.ensures.kept
    (c.scripts_are_fit.ensures.fit c.in-Ok.theory job.Differ read.bytes (plain_script c.in-Ok-take_script.script) c.in-Ok.ensures.takes.well_formed read.are)

pub plainly_searchable-requires-clause-goals : goal.plainly_searchable-requires-clause-goals
plainly_searchable-requires-clause-goals g c =
    let read = c.in-Ok-take_script.ensures.takes.bytes in
    c.scripts_are_fit.ensures.is_for c.in-Ok.theory job.Differ read.bytes (plain_script c.in-Ok-take_script.script) read.are

pub returns-in-Ok-look_for_difference-clause-sought : goal.returns-in-Ok-look_for_difference-clause-sought
returns-in-Ok-look_for_difference-clause-sought g c =
    let th = c.in-Ok.theory in
    let sc = plain_script c.in-Ok-take_script.script in
    record {
      done = record {
        th = th;
        sc = sc;
        ends = rw (c.as_slice.ensures.value, sym c.plainly_searchable.ensures.same, c.in-Ok-take_script.ensures.kept) at c.in-Ok-look_for_difference.ensures;
        takes_theory = record { bytes = c.in-Ok.ensures.takes.bytes; well_formed = c.in-Ok.ensures.takes.well_formed; reads = c.in-Ok.ensures.takes.reads };
        takes_script = script_before c.args.script.now th job.Differ sc _ _ c.in-Ok.ensures.frame c.in-Ok-take_script.ensures.takes;
      };
      searchable = rw c.in-Ok-take_script.ensures.kept at c.plainly_searchable.ensures.searchable;
    }

pub returns-clause-refused : goal.returns-clause-refused
returns-clause-refused g c = theory_fault status.Memory tt

pub differ-requires-clause-searchable : goal.differ-requires-clause-searchable
differ-requires-clause-searchable g c = rw (c.as_slice.ensures.value, sym c.plainly_searchable.ensures.same) c.plainly_searchable.ensures.searchable
