use Rattle.circ_file.proofs.OpenGoals.{names_given}
use Rattle.circ_file.proofs.givens.give_names.Goals as goal

pub returns : goal.returns
returns c =
    names_given c.args.names.now.items c.pop.new.self.items c.push-2.new.self.items c.in-Some.last (c.args.left, c.args.right) c.push.new.self c.in-Some.ensures.items
    c.in_ok-push.ensures.items c.in_ok-push-2.ensures.items
