use Rattle.std.proofs.Common.{◌≡◌, [], map, length, ap, ◌∙◌}
use Rattle.circ_theory.specs.Occurring.{variable_of}
use Rattle.circ_theory.specs.Variables.{seen_in, seen_in_pairs}
use Rattle.circ_join.proofs.Bound.{bound_told}
use Rattle.circ_join.proofs.reading.adds_no_variable.Goals as goal

pub returns : goal.returns
returns c =
    let g = c.args.goal.now in
    let us = c.gather.new.variables.keys in
    let ws = c.gather_pairs.new.variables.keys in
    let a : map variable_of us ≡ seen_in g.left [] = c.in_ok-gather.ensures ∙ ap (λ x. seen_in g.left (map variable_of x)) c.requires.empty in
    let b : map variable_of ws ≡ seen_in_pairs g.conds (seen_in g.right (map variable_of us)) =
    c.in_ok-gather_pairs.ensures ∙ ap (λ E. seen_in_pairs E (map variable_of c.gather-2.new.variables.keys)) c.as_slice.ensures ∙ ap (seen_in_pairs g.conds) c.in_ok-gather-2.ensures in
    let count : c.len-count.result ≡ length us = c.len-count.ensures.len in
    let all : c.len.result ≡ length ws = c.len.ensures.len in
    rw (count, all) (bound_told variable_of g.left g.right g.conds us ws a b)
