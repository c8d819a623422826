use Rattle.circ_file.proofs.OpenConds.{ends_inside}
use Rattle.circ_file.proofs.machine.Machine.end_cond.Goals as goal

pub returns-in_ok-given-in-Some : goal.returns-in_ok-given-in-Some
returns-in_ok-given-in-Some c ts =
    ends_inside ts c.args.self.now c.pop.new.self c.give_chain.new.chain c.requires c.in_ok-given-in-Some.given c.in-Some.outer c.replace-cond.result
    c.in-Some.ensures.items c.replace-cond.ensures.value c.in_ok-given-in-Some.ensures
