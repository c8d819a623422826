use Rattle.std.proofs.Common.{◌∙◌, ◌++◌, ◌∷◌, [], sym, ap}
use Rattle.circ_proof.specs.Plain.{plain_chain}
use Rattle.circ_file.proofs.OpenConds.{opens_inside}
use Rattle.circ_file.proofs.machine.Machine.on_if.Goals as goal

pub returns-in_ok-push-in-Joining : goal.returns-in_ok-push-in-Joining
returns-in_ok-push-in-Joining c ts =
    let old = c.args.self.now in
    opens_inside ts old c.push.new.self c.replace-cond.new.dest c.in-Joining.is (sym c.if-not-takes_cond.ensures)
    (c.in_ok-push-in-Joining.ensures.items ∙ ap (λ x. old.conds.items ++ x ∷ []) c.replace-cond.ensures.value)
    (ap plain_chain c.replace-cond.ensures.after ∙ c.empty_chain.ensures)
