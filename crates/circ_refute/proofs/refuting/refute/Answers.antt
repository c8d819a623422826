use Rattle.std.proofs.Common.{sym, subst}
use Rattle.circ_theory.specs.Theory.{Theory}
use Rattle.circ_plain_search.specs.PlainSearch.{IsSearchable}
use Rattle.circ_refute.specs.PlainRefutation.{refutation}
use Rattle.circ_refute.specs.Difference.{IsRight}
use Rattle.circ_refute.proofs.Decisions.{right_found}
use Rattle.circ_refute.proofs.refuting.refute.Goals as goal

pub returns-clause-right : goal.returns-clause-right
returns-clause-right c =
    let th = c.args.theory.now in
    let g = c.args.goal.now in
    let r = c.in_ok-refuter.refuter in
    let s : IsSearchable th g = record {
      sorted = c.requires.sorted;
      no_conds = c.requires.no_conds;
      left_within = c.known-2.ensures;
      right_within = c.known-3.ensures;
      numbers = c.requires.low;
    } in
    let T : Theory → Type 0 = λ t. IsRight th g (refutation t r.derives r.rewrites g).refuted in
    let right = subst T (sym c.in_ok-refuter.ensures.theory) (c.differences_are_right.ensures th c.known.ensures g s r.derives r.rewrites) in
    right_found th g (refutation r.theory.now r.derives r.rewrites g) _ _ c.refute-found.result right c.refute-found.ensures.exact
