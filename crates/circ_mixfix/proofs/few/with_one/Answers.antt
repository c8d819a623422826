use Rattle.std.proofs.Common.{◌≡◌, [], ◌∷◌}
use Rattle.circ_mixfix.specs.Numbering.{numbered_anew}
use Rattle.circ_mixfix.proofs.FewSets.{enough_two}
use Rattle.circ_mixfix.proofs.few.with_one.Goals as goal

pub returns-then-is_full : goal.returns-then-is_full
returns-then-is_full c = enough_two c.args.found (λ ts. ts ≡ numbered_anew c.args.hole c.args.term.now ∷ []) (c.is_full.ensures c.if-is_full.true) c.requires
