use Rattle.std.proofs.Common.{◌<◌, List, ℕ, [], length, map, sym, subst, replicate, ◌∙◌, ap, arith}
use Rattle.circ_term.specs.Tree.{trees_of}
use Rattle.circ_theory.specs.Rewriting.{named}
use Rattle.circ_nodes.specs.Named.{AreNamed}
use Rattle.circ_table.specs.Line.{numbers_in}
use Rattle.circ_entering.specs.Lines.{HaveNumbers}
use Rattle.circ_entering.proofs.Renumbering.{line_there, none_below, none_entered, first_entered}
use Rattle.circ_entering.proofs.lines.first_numbers.Goals as goal

pub returns-then-count-eq0-clause-numbers : goal.returns-then-count-eq0-clause-numbers
returns-then-count-eq0-clause-numbers c =
    none_entered c.args.nodes.now c.args.table.now c.new.result.items (omega (arith, c.len-count.ensures, c.if-count-eq0.true)) c.new.ensures.items

pub enter_line-requires : goal.enter_line-requires
enter_line-requires c = rw c.new-2.ensures.items tt

pub returns-clause-numbers : goal.returns-clause-numbers
returns-clause-numbers c =
    let nodes = c.args.nodes.now in
    let table = c.args.table.now in
    let some : 0 < length table = omega (arith, c.len-count.ensures, c.if-count-eq0.false) in
    let none = none_below (numbers_in c.line.result) c.line.ensures.before in
    let P : List ℕ → Type 0 = λ ks. AreNamed nodes c.new-2.result.items (trees_of (map (named table) ks)) in
    let Q : List ℕ → Type 0 = λ ns. AreNamed nodes ns (trees_of (map (named table) [])) in
    let are = subst P (sym none) (subst Q (sym c.new-2.ensures.items) tt) in
    let own = c.in_ok-first.ensures.named table (named table 0) (c.line.ensures.line (named table 0) (line_there table 0 some)) are in
    let N : List ℕ → Type 0 = λ ns. HaveNumbers c.enter_line.new.nodes table ns [] in
    let same = c.in_ok-numbers.ensures.items_if_clones_equal (λ y e. e) ∙ ap (λ k. replicate k c.in_ok-first.first) c.len-count.ensures in
    subst N (sym same) (first_entered c.enter_line.new.nodes table c.in_ok-first.first own)
