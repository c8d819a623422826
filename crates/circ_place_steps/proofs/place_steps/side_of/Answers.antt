use Rattle.std.proofs.Common.{ap, ◌∙◌}
use Rattle.circ_expansion.specs.Expand.{Call as Use}
use Rattle.circ_expansion.specs.Machine.{Links as Links_job}
use Rattle.circ_uses.specs.Uses.{entries_of}
use Rattle.circ_uses.specs.Valuations.{by_of}
use Rattle.circ_tasks.specs.Tasks.{call_of, basis_of, links_at}
use Rattle.circ_place_steps.proofs.place_steps.side_of.Goals as goal

pub returns : goal.returns
returns c =
    let fr = c.args.frame.now in
    let x = c.args.certificate.now in
    let is_use = ap (call_of fr) c.in_ok-call.ensures.ok
    ∙ (λ i. let y : Use = c.in_ok-side.ensures fr i in record y {
      entries = entries_of fr.theory.now (c.in_ok-held.ensures i);
      by = by_of (c.in_ok-given.ensures.cases i);
    }) in
    λ i. Links_job (is_use i) (basis_of fr (c.in_ok-basis.ensures.cases i)) (links_at fr x.links.now) (c.in_ok-term.ensures.same i)
