use Rattle.std.proofs.Common.{◌++◌, [], ap, map, refl, ◌∙◌}
use Rattle.circ_expansion.specs.Expand.{paths_of}
use Rattle.circ_uses.specs.Paths.{plain_paths}
use Rattle.circ_uses.proofs.Finding.{same_map}
use Rattle.circ_uses.proofs.paths.paths_of.Goals as goal

pub returns : goal.returns
returns c =
    let ps = paths_of c.args.number c.args.sort c.args.term.now in
    c.in_ok-find.ensures.found
    ∙ ap (λ vs. plain_paths vs ++ map (λ p. c.new-here.result.items ++ p) ps) c.new-paths.ensures.items
    ∙ ap (λ h. map (λ p. h ++ p) ps) c.new-here.ensures.items ∙ same_map (λ p. [] ++ p) (λ p. refl) ps
