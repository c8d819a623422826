use Rattle.std.proofs.Common.{Ok, Err, refl, ap, sym, ◌∙◌}
use Rattle.circ_proof.specs.Plain.{plain_link}
use Rattle.circ_proof.specs.Link.{resolved_link}
use Rattle.circ_expansion.specs.Expand.{link_terms, link_setting}
use Rattle.circ_expansion.specs.Machine.{links_step, all_uses}
use Rattle.circ_tasks.specs.Settings.{setting_of}
use Rattle.circ_written.specs.Values.{values_of}
use Rattle.circ_tasks.specs.Tasks.{call_of, basis_of, background_in, jobs_of, links_at, links_job, stepped, link_goes}
use Rattle.circ_tasks.specs.declared.tasks.Links.{Links}
use Rattle.circ_tasks.proofs.Advancing.{links_end, step_first, step_past, built_at}
use Rattle.circ_tasks.proofs.Counting.{no_items}
use Rattle.circ_tasks.proofs.Stepping.{no_row, row_there, steps_same, tests_none}
use Rattle.circ_link_steps.proofs.link_steps.links_step.Goals as goal

pub returns-then-not-ends_in_row : goal.returns-then-not-ends_in_row
returns-then-not-ends_in_row c =
    let fr = c.args.frame.now in
    let f = background_in fr in
    let l = c.args.links in
    let w = c.args.work.now in
    no_row (values_of w.values) (λ v us. links_step (all_uses f) f (call_of fr l.call.value) (basis_of fr l.basis.value) (links_at fr l.links.now) l.term (jobs_of fr w) v us w.left)
    (sym c.ends_in_row.ensures ∙ c.if-not-ends_in_row.true)

pub returns-in_default : goal.returns-in_default
returns-in_default c =
    let fr = c.args.frame.now in
    let l = c.args.links in
    let w = c.args.work.now in
    links_end fr (call_of fr l.call.value) (basis_of fr l.basis.value) (links_at fr l.links.now) l.term (jobs_of fr w) (values_of w.values) w.left
    (ap (links_at fr) (no_items l.links.now c.in_default.ensures.cases)) (sym c.ends_in_row.ensures ∙ c.if-not-ends_in_row.false)

pub returns-in-Err : goal.returns-in-Err
returns-in-Err c =
    let fr = c.args.frame.now in
    let l = c.args.links in
    let w = c.args.work.now in
    let r = row_there (values_of w.values) (sym c.ends_in_row.ensures ∙ c.if-not-ends_in_row.false) in
    let x = c.in-Some.link.now in
    let s = c.side.result in
    step_past fr l w x c.in-Some.rest.now r.0 r.1 c.in-Err.fault c.in-Some.ensures.cases.0 r.2
    (built_at (Err c.in-Err.fault) (setting_of s) (link_setting (background_in fr) (basis_of fr l.basis.value)) s.table.now fr.table.now x l.term
    (c.side.ensures.setting ∙ ap (λ b. link_setting (background_in fr) (basis_of fr b)) c.deref.ensures) c.side.ensures.table c.in-Err.ensures)

pub returns : goal.returns
returns c =
    let fr = c.args.frame.now in
    let l = c.args.links in
    let w = c.args.work.now in
    let r = row_there (values_of w.values) (sym c.ends_in_row.ensures ∙ c.if-not-ends_in_row.false) in
    let x = c.in-Some.link.now in
    let s = c.side.result in
    let more : Links = record { call = l.call; basis = l.basis; links = c.in-Some.rest; term = c.in-Ok.next } in
    let S = link_setting (background_in fr) (basis_of fr l.basis.value) in
    let y = resolved_link fr.table.now (plain_link x) in
    let b = built_at (Ok c.in-Ok.next) (setting_of s) S s.table.now fr.table.now x l.term
    (c.side.ensures.setting ∙ ap (λ b. link_setting (background_in fr) (basis_of fr b)) c.deref.ensures) c.side.ensures.table c.in-Ok.ensures in
    steps_same fr (stepped fr (links_job fr l) w) (link_goes fr w l.term more y r.0 r.1) c.link_step.new.work c.link_step.result
    (step_first fr l w x c.in-Some.rest.now more r.0 r.1 c.in-Some.ensures.cases.0 refl refl refl b.0 r.2
    ∙ tests_none (link_terms S y l.term) (link_goes fr w l.term more y r.0 r.1) b.1)
    (c.link_step.ensures r.0 r.1 r.2)
