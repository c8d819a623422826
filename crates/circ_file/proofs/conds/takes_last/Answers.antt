use Rattle.std.proofs.Common.{◌∙◌, ap, is_some, false}
use Rattle.std.specs.Option.{option_map_or}
use Rattle.circ_proof.specs.Plain.{plain_link}
use Rattle.circ_grammar.specs.Machine.{add_chain, empty}
use Rattle.circ_file.proofs.OpenConds.{after_last_link}
use Rattle.circ_file.proofs.conds.takes_last.Goals as goal

pub returns-in-Some : goal.returns-in-Some
returns-in-Some c =
    let there = rw c.in-Some.is at c.last.ensures.value in
    c.has_conds.ensures ∙ ap (λ o. option_map_or (λ l. is_some (add_chain (plain_link l) empty)) o false) there ∙ after_last_link c.args.links.now empty
