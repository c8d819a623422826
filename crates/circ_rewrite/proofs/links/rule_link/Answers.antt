use Rattle.circ_theory.specs.declared.way.Way.TheVariants.{Forth}
use Rattle.circ_proof.proofs.Rows.{equation_plain, hypothesis_plain}
use Rattle.circ_rewrite.proofs.links.rule_link.Goals as goal

pub returns-in-Equation : goal.returns-in-Equation
returns-in-Equation c = rw c.in-Equation.is (equation_plain c.in-Equation.number Forth c.args.path c.args.terms c.args.conds)

pub returns-in-Lemma : goal.returns-in-Lemma
returns-in-Lemma c = rw c.in-Lemma.is (hypothesis_plain c.in-Lemma.number Forth c.args.path c.args.terms c.args.conds)
