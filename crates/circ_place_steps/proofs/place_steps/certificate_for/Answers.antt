use Rattle.circ_entry.specs.Entries.{derivative_at}
use Rattle.circ_expansion.specs.Expand.{start_at, trail}
use Rattle.circ_tasks.specs.Tasks.{background_in, certificate_setting}
use Rattle.circ_tasks.proofs.Stepping.{names_first}
use Rattle.circ_place_steps.proofs.place_steps.certificate_for.Goals as goal

pub returns-in-Err : goal.returns-in-Err
returns-in-Err c =
    let fr = c.args.frame.now in
    let start = start_at fr.theory.now c.args.place (derivative_at fr.theory.now c.args.derivative) in
    names_first start (trail (certificate_setting fr) ((background_in fr).certificate c.args.place c.args.derivative) start) c.in-Err.fault c.in-Err.ensures

pub returns-in-Ok : goal.returns-in-Ok
returns-in-Ok c = c.certificate_from.ensures c.in-Ok.ensures.0
