use Rattle.std.proofs.Common.{◌++◌, refl, ap, ◌∙◌}
use Rattle.circ_proof.specs.Rules.{State}
use Rattle.circ_steps.specs.States.{shared_goal}
use Rattle.circ_check.proofs.Numbered.{none_seen}
use Rattle.circ_check.proofs.checker.Checker.end_block.Goals as goal

pub returns-clause-ended : goal.returns-clause-ended
returns-clause-ended c =
    let k = c.args.self.now in
    let cut = c.cut.ensures in
    record {
      nodes = cut.nodes;
      hyps = c.in_ok-append.ensures.items ∙ ap (λ ps. ps ++ k.own.items) cut.hyps;
      goals = none_seen (shared_goal c.cut.new.nodes) c.cut.new.self.goals.items (ap {A = State} (λ x. x.goals) cut.cut);
      own = c.in_ok-append.ensures.other_items;
      earlier = c.len-self.ensures ∙ c.append.new.self.ok.0;
      built = c.new.ensures c.cut.new.nodes;
      others = refl;
    }

pub cut-requires : goal.cut-requires
cut-requires c = c.requires.stays.earlier
