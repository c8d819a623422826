use Rattle.std.proofs.Common.{◌<◌, ◌++◌, List, ℕ, length, ap, sym, subst, ◌∙◌}
use Rattle.std.specs.List.{AllByRecursion}
use Rattle.circ_theory.specs.Rewriting.{named}
use Rattle.circ_proof.specs.Plain.{plain_links}
use Rattle.circ_entering.specs.Naming.{links_terms}
use Rattle.circ_entering.specs.Lines.{line_numbers, numbered_at, lines_at, IsNamedRightly}
use Rattle.circ_entering.proofs.Mentions.{links_all, links_same}
use Rattle.circ_entering.proofs.Renumbering.{ok_to}
use Rattle.circ_entering.proofs.lines.NamedLines.enter_links.Goals as goal

pub enter_asked-requires-clause-in_table : goal.enter_asked-requires-clause-in_table
enter_asked-requires-clause-in_table c =
    let l = c.args.self.now in
    let ls = plain_links c.args.links.now in
    let asked = c.in_ok-add_links.ensures ∙ ap (λ ns. ns ++ links_terms ls) c.clear.ensures.items in
    let P : List ℕ → Type 0 = AllByRecursion (λ n. n < length (line_numbers l)) in
    subst P (sym asked) (links_all (λ n. n < length (line_numbers l)) ls c.requires.in_table)

pub returns-clause-named : goal.returns-clause-named
returns-clause-named c =
    let m = c.enter_asked.new.self in
    let nodes = c.enter_asked.new.nodes in
    let ls = plain_links c.args.links.now in
    let asked = c.in_ok-add_links.ensures ∙ ap (λ ns. ns ++ links_terms ls) c.clear.ensures.items in
    let P : List ℕ → Type 0 = AllByRecursion (IsNamedRightly nodes m) in
    ok_to c.enter_asked.result (λ all. links_same (named (numbered_at nodes m)) (named (lines_at nodes m)) ls (subst P asked all)) c.enter_asked.ensures.named
