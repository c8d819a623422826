use Rattle.std.proofs.Common.{◌<◌, ◌++◌, List, ℕ, length, ap, sym, subst, ◌∙◌}
use Rattle.std.specs.List.{AllByRecursion}
use Rattle.circ_theory.specs.Rewriting.{named}
use Rattle.circ_proof.specs.PlainProof.{plain_step}
use Rattle.circ_entering.specs.Naming.{step_terms}
use Rattle.circ_entering.specs.Lines.{line_numbers, numbered_at, lines_at, IsNamedRightly}
use Rattle.circ_entering.proofs.Mentions.{step_all, step_same}
use Rattle.circ_entering.proofs.Renumbering.{ok_to}
use Rattle.circ_entering.proofs.lines.NamedLines.enter_step.Goals as goal

pub enter_asked-requires-clause-in_table : goal.enter_asked-requires-clause-in_table
enter_asked-requires-clause-in_table c =
    let l = c.args.self.now in
    let s = plain_step c.args.step.now in
    let asked = c.in_ok-add_step.ensures ∙ ap (λ ns. ns ++ step_terms s) c.clear.ensures.items in
    let P : List ℕ → Type 0 = AllByRecursion (λ n. n < length (line_numbers l)) in
    subst P (sym asked) (step_all (λ n. n < length (line_numbers l)) s c.requires.in_table)

pub returns-clause-named : goal.returns-clause-named
returns-clause-named c =
    let m = c.enter_asked.new.self in
    let nodes = c.enter_asked.new.nodes in
    let s = plain_step c.args.step.now in
    let asked = c.in_ok-add_step.ensures ∙ ap (λ ns. ns ++ step_terms s) c.clear.ensures.items in
    let P : List ℕ → Type 0 = AllByRecursion (IsNamedRightly nodes m) in
    ok_to c.enter_asked.result (λ all. step_same (named (numbered_at nodes m)) (named (lines_at nodes m)) s (subst P asked all)) c.enter_asked.ensures.named
