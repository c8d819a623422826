use Rattle.std.proofs.Common.{◌≡◌, drop}
use Rattle.circ_conditional_search.specs.Search.{whys_are_deep}
use Rattle.circ_proof.specs.Plain.{plain_whys}
use Rattle.circ_block.proofs.deep.+why_is_deep.Given as goal

abbrev pub invariant-whys_are_deep-loop-why : goal.invariant-whys_are_deep-loop-why
invariant-whys_are_deep-loop-why l = whys_are_deep l.theory l.hyps (plain_whys (drop l.why-index l.whys)) ≡ whys_are_deep l.theory l.hyps (plain_whys l.whys)
