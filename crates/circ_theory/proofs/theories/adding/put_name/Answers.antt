use Rattle.std.proofs.Common.{map, ap, ◌∙◌}
use Rattle.circ_theory.proofs.Lists.{name_last}
use Rattle.circ_theory.proofs.theories.adding.put_name.Goals as goal

pub returns-clause-put : goal.returns-clause-put
returns-clause-put c =
    ap (map (λ k. k.items)) c.in_ok-insert.ensures.keys ∙ name_last (λ k. k.items) c.args.sorts.now.keys c.in_ok-copy.copy c.args.name.now c.in_ok-copy.ensures.items c.requires
