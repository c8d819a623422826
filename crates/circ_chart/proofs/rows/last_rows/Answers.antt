use Rattle.circ_chart.proofs.Asking.{last_found, no_last_term}
use Rattle.circ_chart.proofs.rows.last_rows.Goals as goal

pub returns-in-Empty : goal.returns-in-Empty
returns-in-Empty c = λ g ts s b i n. no_last_term g ts c.args.rule.now.op c.args.rule.now.sort s b i c.args.to (rw (c.in-Empty.is) at n)

pub returns : goal.returns
returns c = λ g ts s b i n.
    last_found g ts c.args.rule.now.op c.args.rule.now.sort s b i c.args.to c.args.terms.now c.in_ok-end.end c.in_ok-products.field-0 n (c.in_ok-end.ensures.rows g ts).enough c.in_ok-products.ensures
