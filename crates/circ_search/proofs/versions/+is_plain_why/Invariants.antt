use Rattle.std.proofs.Common.{◌≡◌, drop}
use Rattle.circ_proof.specs.Plain.{plain_whys}
use Rattle.circ_conditional_search.specs.Versions.{are_plain_whys}
use Rattle.circ_search.proofs.versions.+is_plain_why.Given as goal

abbrev pub invariant-are_plain_whys-loop-why : goal.invariant-are_plain_whys-loop-why
invariant-are_plain_whys-loop-why l = are_plain_whys (plain_whys (drop l.why-index l.whys)) ≡ are_plain_whys (plain_whys l.whys)
