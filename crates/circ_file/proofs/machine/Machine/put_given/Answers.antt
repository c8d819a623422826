use Rattle.circ_theory.specs.Pairs.{plain_pair}
use Rattle.circ_file.proofs.OpenGoals.{no_goal, given_moves}
use Rattle.circ_file.proofs.machine.Machine.put_given.Goals as goal

pub returns-then-not-branch : goal.returns-then-not-branch
returns-then-not-branch c ts k same =
    no_goal ts c.args.self.now c.args.left c.args.right (plain_pair c.args.pair) c.requires (rw c.if-not-branch.true at c.in_ok-give_pair.ensures) k same

pub returns : goal.returns
returns c ts k same =
    given_moves c.in_ok-given.given ts c.args.self.now c.args.left c.args.right (plain_pair c.args.pair) c.give_pair.new.goals c.give_names.new.names c.requires
    (rw c.if-not-branch.false at c.in_ok-give_pair.ensures) c.in_ok-given.ensures k same
