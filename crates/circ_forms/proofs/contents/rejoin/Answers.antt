use Rattle.std.proofs.Common.{◌≡◌, ◌-◌, ◌++◌, [], length, take, ap, ◌∙◌}
use Rattle.circ_theory.specs.Operators.{operator_of}
use Rattle.circ_nodes.specs.Named.{tree_at}
use Rattle.circ_forms.proofs.Settling.{not_empty}
use Rattle.circ_forms.proofs.contents.rejoin.Goals as goal

pub returns-in-None-clause-interns : goal.returns-in-None-clause-interns
returns-in-None-clause-interns c = λ k.
    let nodes = c.args.nodes.now in
    let parts = c.in_ok-parts.parts.items in
    let rest : c.pop.new.self.items ≡ [] = c.in-None.ensures.rest ∙ ap (λ n. take (n - 1) parts) c.in-None.ensures.cases.0 in
    let none : length parts ≡ 0 = ap length c.in-None.ensures.items ∙ ap (λ ns. length (ns ++ [])) rest in
    absurd (not_empty nodes (operator_of c.args.decl.now) c.args.op (tree_at nodes c.args.first) (tree_at nodes c.args.second)
    parts none c.in_ok-parts.ensures.content)
