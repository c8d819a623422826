use Rattle.std.proofs.Common.{◌≡◌, ◌++◌, drop}
use Rattle.std.specs.Prelude.{flat_map}
use Rattle.circ_proof.specs.PlainProof.{plain_names}
use Rattle.circ_entering.specs.Naming.{sides_terms, name_terms}
use Rattle.circ_entering.proofs.naming.add_name.Given as goal

abbrev pub invariant-loop-cond : goal.invariant-loop-cond
invariant-loop-cond l = l.lines.items ++ flat_map sides_terms (drop l.cond-index l.name.conds.items) ≡ l.fn.lines.items ++ name_terms (plain_names l.name)
