use Rattle.circ_weigh.specs.declared.weighing.Part.{Part}
use Rattle.circ_weigh.proofs.Summing.{adds_sum, adds_leaf}
use Rattle.circ_weigh.proofs.weighing.note.Goals as goal

pub returns-in_ok-push-in-Some-clause-adds : goal.returns-in_ok-push-in-Some-clause-adds
returns-in_ok-push-in-Some-clause-adds c =
    let x : Part = record { size = c.size-size.result; number = c.args.number; left = c.args.left; right = c.args.right } in
    adds_sum c.args.nodes.now c.args.op x c.args.sums.now.data.items c.push.new.self.data.items c.args.leaves.now.items
    (record { there = c.requires; size = c.size-size.ensures.exact }) c.in_ok-push-in-Some.ensures.permutation

pub returns-in_ok-push-in-None-clause-adds : goal.returns-in_ok-push-in-None-clause-adds
returns-in_ok-push-in-None-clause-adds c =
    let x : Part = record { size = c.size-size.result; number = c.args.number; left = c.args.left; right = c.args.right } in
    adds_leaf c.args.nodes.now c.args.op x c.args.sums.now.data.items c.args.leaves.now.items c.push-in-None.new.self.items
    (record { there = c.requires; alone = c.in-None.ensures }) c.in_ok-push-in-None.ensures.items
