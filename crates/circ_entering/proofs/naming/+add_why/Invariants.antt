use Rattle.std.proofs.Common.{◌≡◌, ◌++◌, drop}
use Rattle.std.specs.Prelude.{flat_map}
use Rattle.circ_proof.specs.Plain.{plain_why, plain_whys}
use Rattle.circ_entering.specs.Naming.{why_terms, whys_terms}
use Rattle.circ_entering.proofs.naming.+add_why.Given as goal

abbrev pub invariant-add_whys-loop-why : goal.invariant-add_whys-loop-why
invariant-add_whys-loop-why l =
    l.lines.items ++ flat_map (λ w. why_terms (plain_why w)) (drop l.why-index l.whys) ≡ l.initial.lines.items ++ whys_terms (plain_whys l.whys)
