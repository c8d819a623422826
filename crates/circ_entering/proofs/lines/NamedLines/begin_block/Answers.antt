use Rattle.std.proofs.Common.{◌<◌, ◌++◌, List, ℕ, length, map, ap, sym, subst, ◌∙◌}
use Rattle.std.specs.List.{AllByRecursion}
use Rattle.circ_proof.specs.PlainProof.{plain_names}
use Rattle.circ_entering.specs.Naming.{names_terms}
use Rattle.circ_entering.specs.Lines.{HaveNumbersBy, line_numbers, numbered_at, lines_at, IsNamedRightly}
use Rattle.circ_entering.proofs.Mentions.{all_parts, all_both, names_same}
use Rattle.circ_entering.proofs.Renumbering.{late_within}
use Rattle.circ_entering.proofs.lines.NamedLines.begin_block.Goals as goal

pub forget-requires : goal.forget-requires
forget-requires c = (c.args.nodes.now, c.requires.stay)

pub enter_asked-requires-clause-lines : goal.enter_asked-requires-clause-lines
enter_asked-requires-clause-lines c = c.forget.ensures.lines c.args.nodes.now c.requires.stay

pub enter_asked-requires-clause-in_table : goal.enter_asked-requires-clause-in_table
enter_asked-requires-clause-in_table c =
    let l = c.args.self.now in
    let late = l.lines.late.items in
    let names = names_terms (map plain_names c.args.names.now) in
    let asked = c.in_ok-add_names.ensures ∙ ap (λ ns. ns ++ names) c.forget.ensures.asked in
    let within = late_within c.args.nodes.now l.table (line_numbers l) late c.requires.stay in
    let Q : ℕ → Type 0 = λ k. AllByRecursion (λ n. n < k) (late ++ names) in
    let all = all_both (λ n. n < length (line_numbers l)) late names within c.requires.in_table in
    let R : List ℕ → Type 0 = AllByRecursion (λ n. n < length (line_numbers c.forget.new.self)) in
    subst R (sym asked) (subst Q (sym c.forget.ensures.count) all)

pub returns-clause-lines : goal.returns-clause-lines
returns-clause-lines c = c.in_ok-enter_asked.ensures.entered.lines

pub returns-clause-stay : goal.returns-clause-stay
returns-clause-stay c =
    let m = c.enter_asked.new.self in
    let P : List ℕ → Type 0 = HaveNumbersBy c.enter_asked.new.nodes m.table (line_numbers m) in
    subst P (sym c.clear.ensures.items) c.in_ok-enter_asked.ensures.entered.lines

pub returns-clause-terms : goal.returns-clause-terms
returns-clause-terms c = c.in_ok-enter_asked.ensures.entered.terms ∙ c.forget.ensures.terms c.args.nodes.now c.requires.stay

pub returns-clause-named : goal.returns-clause-named
returns-clause-named c =
    let m = c.enter_asked.new.self in
    let nodes = c.enter_asked.new.nodes in
    let late = c.args.self.now.lines.late.items in
    let names = map plain_names c.args.names.now in
    let asked = c.in_ok-add_names.ensures ∙ ap (λ ns. ns ++ names_terms names) c.forget.ensures.asked in
    let P : List ℕ → Type 0 = AllByRecursion (IsNamedRightly nodes m) in
    names_same (numbered_at nodes m) (lines_at nodes m) names
    (all_parts (IsNamedRightly nodes m) late (names_terms names) (subst P asked c.in_ok-enter_asked.ensures.named)).1
