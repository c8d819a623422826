-- What steps are judged by stays when terms are added.
use Rattle.std.proofs.Common.{◌≡◌, ◌<◌, List, map, length, ◌∙◌}
use Rattle.std.specs.List.{AllByRecursion}
use Rattle.circ_term.specs.Growing.{Grows}
use Rattle.circ_term.specs.Tree.{Tree}
use Rattle.circ_theory.specs.Theory.{Theory, goal_of}
use Rattle.circ_nodes.specs.Named.{tree_at}
use Rattle.circ_nodes.proofs.Located.{trees_later}
use Rattle.circ_shared.specs.Patterns.{goal_at, IsPattern}
use Rattle.circ_shared.proofs.Sharing.{goals_later, patterns_later}
use Rattle.circ_steps.specs.Derivatives.{AreDerivativesAt}
use Rattle.circ_steps.proofs.Numbering.{derivatives_later, all_later}
use Rattle.circ_entering.specs.declared.numbered.Numbered.{Numbered}
use Rattle.circ_entering.specs.Numbered.{AreEnteredRules}

pub numbered_later : (th : Theory) (table old new : List Tree) → Grows old new → (x : Numbered) → AreEnteredRules th table old x → AreEnteredRules th table new x
numbered_later th table old new g x h = record {
  equations = goals_later old new g x.equations.items h.patterns ∙ h.equations;
  patterns = patterns_later old new g x.equations.items h.patterns;
  derivatives = derivatives_later old new g th.derivatives x.derivatives.items h.derivatives;
  there = all_later old new g x.table.items h.there;
  terms = trees_later old new x.table.items g h.there ∙ h.terms;
}

-- they got numbers one after another
pub all_numbered : (th : Theory) (table a b c : List Tree) → Grows a b → Grows b c → (x : Numbered) → map (goal_at a) x.equations.items ≡ map goal_of th.equations
    → AllByRecursion (IsPattern a) x.equations.items → AreDerivativesAt b th.derivatives x.derivatives.items
    → AllByRecursion (λ n. n < length c) x.table.items → map (tree_at c) x.table.items ≡ table → AreEnteredRules th table c x
all_numbered th table a b c g k x e p d there terms = record {
  equations = goals_later b c k x.equations.items (patterns_later a b g x.equations.items p) ∙ goals_later a b g x.equations.items p ∙ e;
  patterns = patterns_later b c k x.equations.items (patterns_later a b g x.equations.items p);
  derivatives = derivatives_later b c k th.derivatives x.derivatives.items d;
  there = there;
  terms = terms;
}
