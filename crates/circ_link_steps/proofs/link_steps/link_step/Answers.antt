use Rattle.std.proofs.Common.{ℕ, List, map, ap, sym, ◌∙◌}
use Rattle.circ_theory.specs.Rewriting.{named}
use Rattle.circ_proof.specs.Plain.{LinkOf, Equation_link, Hypothesis_link, Assumption_link, Content_link, plain_link, no_chain}
use Rattle.circ_proof.specs.Link.{resolved_link}
use Rattle.circ_proof.proofs.Rows.{equation_plain, hypothesis_plain}
use Rattle.circ_term.specs.Tree.{Tree}
use Rattle.circ_expansion.specs.Expand.{Spending}
use Rattle.circ_expansion.specs.Machine.{Pending}
use Rattle.circ_tasks.specs.Tasks.{link_goes}
use Rattle.circ_tasks.proofs.Stepping.{steps_same}
use Rattle.circ_link_steps.proofs.link_steps.link_step.Goals as goal

pub returns-in-Hypothesis : goal.returns-in-Hypothesis
returns-in-Hypothesis c = λ v us e.
    let fr = c.args.frame.now in
    let x = c.in-Hypothesis in
    let F : LinkOf Tree → Spending Pending = λ l. link_goes fr c.args.work.now c.args.term.now c.args.more l v us in
    let G : List ℕ → List ℕ → Spending Pending = λ p ns. F (Hypothesis_link x.number x.way p (map (named fr.table.now) ns) no_chain) in
    steps_same fr (F (resolved_link fr.table.now (plain_link c.args.link.now))) (G c.as_slice.result.now c.as_slice-in-Hypothesis.result.now) c.hypothesis_step.new.work
    c.hypothesis_step.result
    (ap (λ l. F (resolved_link fr.table.now l)) (ap plain_link x.is ∙ hypothesis_plain x.number x.way x.path x.terms x.conds)
    ∙ (λ i. G (sym c.as_slice.ensures i) (sym c.as_slice-in-Hypothesis.ensures.value i)))
    c.hypothesis_step.ensures

pub returns-in-Equation : goal.returns-in-Equation
returns-in-Equation c = λ v us e.
    let fr = c.args.frame.now in
    let x = c.in-Equation in
    let F : LinkOf Tree → Spending Pending = λ l. link_goes fr c.args.work.now c.args.term.now c.args.more l v us in
    let G : List ℕ → List ℕ → Spending Pending = λ p ns. F (Equation_link x.number x.way p (map (named fr.table.now) ns) no_chain) in
    steps_same fr (F (resolved_link fr.table.now (plain_link c.args.link.now))) (G c.as_slice-in-Equation.result.now c.as_slice-in-Equation-2.result.now)
    c.equation_step.new.work c.equation_step.result
    (ap (λ l. F (resolved_link fr.table.now l)) (ap plain_link x.is ∙ equation_plain x.number x.way x.path x.terms x.conds)
    ∙ (λ i. G (sym c.as_slice-in-Equation.ensures i) (sym c.as_slice-in-Equation-2.ensures.value i)))
    (c.equation_step.ensures v us e)

pub returns-in-Assumption : goal.returns-in-Assumption
returns-in-Assumption c = λ v us e.
    let fr = c.args.frame.now in
    let x = c.in-Assumption in
    let F : LinkOf Tree → Spending Pending = λ l. link_goes fr c.args.work.now c.args.term.now c.args.more l v us in
    let G : List ℕ → Spending Pending = λ p. F (Assumption_link x.number x.way p) in
    steps_same fr (F (resolved_link fr.table.now (plain_link c.args.link.now))) (G c.as_slice-in-Assumption.result.now) c.assumption_step.new.work
    c.assumption_step.result
    (ap (λ l. F (resolved_link fr.table.now (plain_link l))) x.is ∙ ap G (sym c.as_slice-in-Assumption.ensures)) (c.assumption_step.ensures v us e)

pub returns-in-Content : goal.returns-in-Content
returns-in-Content c = λ v us e.
    let fr = c.args.frame.now in
    let x = c.in-Content in
    let F : LinkOf Tree → Spending Pending = λ l. link_goes fr c.args.work.now c.args.term.now c.args.more l v us in
    let G : List ℕ → Spending Pending = λ p. F (Content_link x.op p (named fr.table.now x.new)) in
    steps_same fr (F (resolved_link fr.table.now (plain_link c.args.link.now))) (G c.as_slice-in-Content.result.now) c.content_step.new.work c.content_step.result
    (ap (λ l. F (resolved_link fr.table.now (plain_link l))) x.is ∙ ap G (sym c.as_slice-in-Content.ensures)) (c.content_step.ensures v us e)
