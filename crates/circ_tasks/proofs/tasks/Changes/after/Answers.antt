use Rattle.std.proofs.Common.{◌≡◌, ◌+◌, drop, arith}
use Rattle.circ_expansion.specs.Machine.{Occurrences}
use Rattle.circ_uses.specs.Paths.{plain_paths}
use Rattle.circ_uses.specs.Uses.{layers_of}
use Rattle.circ_tasks.specs.Tasks.{call_of}
use Rattle.circ_tasks.proofs.tasks.Changes.after.Goals as goal

pub returns : goal.returns
returns c = λ fr here.
    let x = c.args.self.now in
    let n : c.in-Some.done ≡ x.done + 1 = omega (arith, c.in-Some.ensures) in
    λ i. Occurrences (call_of fr (c.in_ok-clone.ensures.cases i)) (layers_of fr.theory.now (c.in_ok-share.ensures i)) (c.in_ok-share-2.ensures.same i)
    (c.in_ok-share-3.ensures.same i) (drop (n i) (plain_paths (c.in_ok-clone-2.ensures.cases i).items)) here
