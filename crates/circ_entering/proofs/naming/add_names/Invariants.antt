use Rattle.std.proofs.Common.{◌≡◌, ◌++◌, drop, map}
use Rattle.std.specs.Prelude.{flat_map}
use Rattle.circ_proof.specs.PlainProof.{plain_names}
use Rattle.circ_entering.specs.Naming.{name_terms, names_terms}
use Rattle.circ_entering.proofs.naming.add_names.Given as goal

abbrev pub invariant-loop-name : goal.invariant-loop-name
invariant-loop-name l =
    l.lines.items ++ flat_map (λ n. name_terms (plain_names n)) (drop l.name-index l.names) ≡ l.fn.lines.items ++ names_terms (map plain_names l.names)
