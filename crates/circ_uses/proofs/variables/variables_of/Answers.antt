use Rattle.std.proofs.Common.{[], map, ap, ◌∙◌}
use Rattle.circ_theory.specs.Pairs.{plain_pair}
use Rattle.circ_theory.specs.Variables.{seen_in}
use Rattle.circ_replay.specs.Gathering.{gathered, gathered_pairs}
use Rattle.circ_replay.proofs.Gathering.{gathered_seen, gathered_pairs_seen}
use Rattle.circ_uses.specs.Valuations.{variable_of}
use Rattle.circ_uses.proofs.variables.variables_of.Goals as goal

pub returns : goal.returns
returns c =
    let s = c.args.left.now in
    let t = c.args.right.now in
    let E = map plain_pair c.args.conds.now in
    let first = ap (λ ks. gathered s (map variable_of ks)) c.new-variables.ensures.empty ∙ gathered_seen s [] in
    let sides = c.in_ok-gather-2.ensures ∙ ap (gathered t) (c.in_ok-gather.ensures ∙ first) ∙ gathered_seen t (seen_in s []) in
    c.in_ok-gather_pairs.ensures ∙ ap (gathered_pairs E) sides ∙ gathered_pairs_seen E (seen_in t (seen_in s []))
