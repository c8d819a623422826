use Rattle.std.proofs.Common.{ap, sym, ◌∙◌, arith}
use Rattle.std.specs.Option.{option_or}
use Rattle.circ_term.specs.Subst.{found}
use Rattle.circ_term.proofs.Within.{depth_at}
use Rattle.circ_uses.specs.Valuations.{bounds_in}
use Rattle.circ_uses.proofs.Ends.{images_end, or_none}
use Rattle.circ_uses.proofs.patterns.+match_into.Goals as goal

pub match_all-match_into-requires : goal.match_all-match_into-requires
match_all-match_into-requires t c =
    (omega (arith, depth_at c.args.patterns.now c.loop-i.i c.index-patterns-i.result (omega arith) c.index-patterns-i.is), tt)

pub match_all-returns : goal.match_all-returns
match_all-returns t c = λ n s.
    let o = found (bounds_in c.loop-i.values) n s in
    sym (ap (option_or o) (images_end c.args.patterns.now c.args.terms.now c.loop-i.i n s (omega (arith, c.loop-i-test.false, c.min-i-end.ensures))) ∙ or_none o)
    ∙ c.loop-i.invariant n s
