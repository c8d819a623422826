use Rattle.std.proofs.Common.{drop, ap, ◌∙◌}
use Rattle.circ_term.specs.Substitution.{instance}
use Rattle.circ_expansion.specs.Expand.{Call as Use, paths_of}
use Rattle.circ_expansion.specs.Machine.{Occurrences}
use Rattle.circ_uses.specs.Uses.{entries_of, layers_of}
use Rattle.circ_uses.specs.Valuations.{by_of}
use Rattle.circ_uses.specs.Paths.{plain_paths}
use Rattle.circ_tasks.specs.Tasks.{call_of}
use Rattle.circ_place_steps.proofs.AtPlaces.{all_paths}
use Rattle.circ_place_steps.proofs.place_steps.changes.Goals as goal

pub returns-clause-job : goal.returns-clause-job
returns-clause-job c =
    let fr = c.args.frame.now in
    let x = c.args.certificate.now in
    let here = instance (by_of c.args.ends.now.left.value) x.last in
    let is = ap (call_of fr) c.in_ok-call.ensures.ok
    ∙ (λ i. let y : Use = c.in_ok-middle.ensures fr i in record y { entries = entries_of fr.theory.now (c.in_ok-held.ensures i) }) in
    let paths = ap (λ v. drop 0 (plain_paths v.items)) c.in_ok-paths.ensures.ok ∙ all_paths c.in_ok-found.found.items
    ∙ c.in_ok-found.ensures ∙ ap (λ s. paths_of 0 s x.last) c.arg_sort.ensures in
    λ i. Occurrences (is i) (layers_of fr.theory.now (c.in_ok-layers.ensures i)) (c.in_ok-to.ensures.same i) (c.in_ok-last.ensures.same i) (paths i) here
