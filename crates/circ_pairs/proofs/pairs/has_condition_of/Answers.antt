use Rattle.std.proofs.Common.{◌==◌, ap, sym, ◌∙◌}
use Rattle.circ_term.specs.Tree.{sort_of}
use Rattle.circ_pairs.specs.Pairs.{plain_pair}
use Rattle.circ_pairs.specs.Pair.{has_condition_of}
use Rattle.circ_pairs.proofs.Lists.{list_any-map}
use Rattle.circ_pairs.proofs.pairs.has_condition_of.Goals as goal

pub returns : goal.returns
returns c =
    c.is_sort_of_one.ensures ∙ sym (list_any-map (λ p. c.args.sort == sort_of p.left) plain_pair c.as_slice.result.now) ∙ ap (has_condition_of c.args.sort) c.as_slice.ensures
