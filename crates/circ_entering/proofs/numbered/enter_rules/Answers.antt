use Rattle.circ_nodes.proofs.Numbers.{grows_more}
use Rattle.circ_entering.proofs.Judged.{all_numbered}
use Rattle.circ_entering.proofs.numbered.enter_rules.Goals as goal

pub returns-in_err-derivatives-clause-grows : goal.returns-in_err-derivatives-clause-grows
returns-in_err-derivatives-clause-grows c =
    grows_more c.args.nodes.now c.equations.new.nodes c.derivatives.new.nodes c.in_ok-equations.ensures.grows c.derivatives.ensures.grows

pub returns-in_err-table-clause-grows : goal.returns-in_err-table-clause-grows
returns-in_err-table-clause-grows c =
    let first = grows_more c.args.nodes.now c.equations.new.nodes c.derivatives.new.nodes c.in_ok-equations.ensures.grows c.in_ok-derivatives.ensures.grows in
    grows_more c.args.nodes.now c.derivatives.new.nodes c.enter_terms.new.nodes first c.enter_terms.ensures.grows

pub returns-clause-grows : goal.returns-clause-grows
returns-clause-grows c =
    let first = grows_more c.args.nodes.now c.equations.new.nodes c.derivatives.new.nodes c.in_ok-equations.ensures.grows c.in_ok-derivatives.ensures.grows in
    grows_more c.args.nodes.now c.derivatives.new.nodes c.enter_terms.new.nodes first c.in_ok-table.ensures.grows

pub returns-clause-numbered : goal.returns-clause-numbered
returns-clause-numbered c =
    all_numbered c.args.theory.now c.args.table.now c.equations.new.nodes c.derivatives.new.nodes c.enter_terms.new.nodes c.in_ok-derivatives.ensures.grows
    c.in_ok-table.ensures.grows (record { equations = c.in_ok-equations.equations; derivatives = c.in_ok-derivatives.derivatives; table = c.in_ok-table.table })
    c.in_ok-equations.ensures.equations c.in_ok-equations.ensures.patterns c.in_ok-derivatives.ensures.derivatives c.in_ok-table.ensures.there
    c.in_ok-table.ensures.exact
