use Rattle.std.proofs.Common.{◌++◌, map, ap, sym}
use Rattle.circ_proof.specs.PlainProof.{plain_names}
use Rattle.circ_entering.specs.Naming.{name_terms, names_terms}
use Rattle.circ_entering.proofs.Mentions.{walked, walked_all, flat_seen}
use Rattle.circ_entering.proofs.naming.add_names.Goals as goal

pub loop-name-init : goal.loop-name-init
loop-name-init c = ap (λ ns. c.args.lines.now.items ++ ns) (sym (flat_seen plain_names name_terms c.args.names.now))

pub loop-name-preserved : goal.loop-name-preserved
loop-name-preserved c =
    let at = c.loop-name in
    walked (λ n. name_terms (plain_names n)) c.args.names.now at.name-index c.name-item.result at.lines.items c.add_name.new.lines.items
    (c.args.lines.now.items ++ names_terms (map plain_names c.args.names.now)) c.loop-name-test.true c.name-item.is c.in_ok-add_name.ensures at.invariant

pub returns : goal.returns
returns c =
    let at = c.loop-name in
    walked_all (λ n. name_terms (plain_names n)) c.args.names.now at.name-index at.lines.items
    (c.args.lines.now.items ++ names_terms (map plain_names c.args.names.now)) c.loop-name-test.false at.invariant
