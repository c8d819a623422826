use Rattle.circ_theory.specs.Pairs.{plain_pair}
use Rattle.circ_file.proofs.OpenGoals.{pair_given}
use Rattle.circ_file.proofs.givens.give_pair.Goals as goal

pub returns : goal.returns
returns c =
    pair_given c.args.goals.now.items c.pop.new.self.items c.push-2.new.self.items c.in-Some.goal (plain_pair c.args.pair) c.push.new.self c.in-Some.ensures.items
    c.in_ok-push.ensures.pushed c.in_ok-push-2.ensures.items
