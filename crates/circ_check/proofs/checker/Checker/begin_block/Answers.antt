use Rattle.std.proofs.Common.{ℕ, ◌≡◌, ◌<◌, ◌∙◌, List, [], ◌∷◌, ◌++◌, map, take, length, ap, sym, subst}
use Rattle.std.specs.List.{AllByRecursion}
use Rattle.circ_term.specs.Growing.{Grows}
use Rattle.circ_term.specs.Tree.{Tree}
use Rattle.circ_proof.specs.Parts.{Goals}
use Rattle.circ_proof.specs.PlainProof.{plain_names}
use Rattle.circ_theory.specs.Goal.{Goal}
use Rattle.circ_proof.specs.Proof.{goal_at as named_goal}
use Rattle.circ_nodes.specs.Named.{tree_at}
use Rattle.circ_nodes.specs.Built.{AreBuilt}
use Rattle.circ_entering.specs.Naming.{names_terms}
use Rattle.circ_entering.specs.Lines.{line_numbers, numbered_at, lines_at, LinesStay}
use Rattle.circ_entering.specs.declared.lines.NamedLines.{NamedLines}
use Rattle.circ_entering.proofs.Renumbering.{lines_there, lines_length}
use Rattle.circ_check.specs.declared.checker.Checker.{Checker}
use Rattle.circ_check.specs.Naming.{IsNameWithin}
use Rattle.circ_check.specs.Watching.{Took, checking_of, derived_of}
use Rattle.circ_check.proofs.Numbered.{names_within}
use Rattle.circ_check.proofs.Watching.{block_named, block_lines, block_begun, on_ok}
use Rattle.circ_check.proofs.checker.Checker.begin_block.Goals as goal

pub returns-then-self-clause-took : goal.returns-then-self-clause-took
returns-then-self-clause-took c =
    let k = c.args.self.now in
    on_ok c.begin_list.result
    (λ l goals ready. block_named k c.begin_list.new.lists goals (map plain_names c.args.names.now) c.requires.sound c.requires.begun c.if-self.true l)
    c.begin_list.ensures.begun

pub begin_block-requires-clause-stay : goal.begin_block-requires-clause-stay
begin_block-requires-clause-stay c =
    let k = c.args.self.now in
    let m = c.end_block.new.self in
    let e = c.in_ok-end_block.ensures.ended in
    let P : List Tree → Type 0 = λ ts. LinesStay ts m.lines in
    let Q : NamedLines → Type 0 = LinesStay (take k.base k.nodes) in
    subst P (sym e.nodes) (subst Q (sym (ap (λ x. x.lines) e.others)) c.requires.sound.stays.lines_stay)

pub begin_block-requires-clause-in_table : goal.begin_block-requires-clause-in_table
begin_block-requires-clause-in_table c =
    let k = c.args.self.now in
    let names = map plain_names c.args.names.now in
    let P : ℕ → Type 0 = λ n. AllByRecursion (IsNameWithin n) names in
    let Q : NamedLines → Type 0 = λ l. AllByRecursion (λ n. n < length (line_numbers l)) (names_terms names) in
    let within = subst P (lines_length k.nodes k.lines c.requires.sound.lines) c.requires.names.1.part.2.within in
    subst Q (sym (ap (λ x. x.lines) c.in_ok-end_block.ensures.ended.others)) (names_within (length (line_numbers k.lines)) names within)

pub put_goals-requires-clause-table : goal.put_goals-requires-clause-table
put_goals-requires-clause-table c =
    let l = c.begin_block.new.self in
    let P : List ℕ → Type 0 = AllByRecursion (λ n. n < length c.begin_block.new.nodes) in
    subst P (sym c.numbers.ensures) (lines_there c.begin_block.new.nodes l c.in_ok-begin_block.ensures.lines)

pub put_goals-requires-clause-names : goal.put_goals-requires-clause-names
put_goals-requires-clause-names c =
    let k = c.args.self.now in
    let d = c.begin_block.new.nodes in
    let l = c.begin_block.new.self in
    let r = c.in_ok-begin_block.ensures in
    let names = map plain_names c.args.names.now in
    let P : ℕ → Type 0 = λ n. AllByRecursion (IsNameWithin n) names in
    let same : lines_at d l ≡ (checking_of k).table =
    r.terms ∙ block_lines k c.requires.sound c.end_block.new.self c.in_ok-end_block.ensures.ended in
    let Q : List ℕ → Type 0 = λ ns. AllByRecursion (IsNameWithin (length ns)) names in
    subst Q (sym c.numbers.ensures) (subst P (ap length (sym same) ∙ lines_length d l r.lines) c.requires.names.1.part.2.within)

pub returns-clause-took : goal.returns-clause-took
returns-clause-took c =
    let k = c.args.self.now in
    let m = c.end_block.new.self in
    let e = c.in_ok-end_block.ensures.ended in
    let d = c.begin_block.new.nodes in
    let l = c.begin_block.new.self in
    let r = c.in_ok-begin_block.ensures in
    let made = c.put_goals.new in
    let p = c.in_ok-put_goals.ensures in
    let names = map plain_names c.args.names.now in
    let base = take k.base k.nodes in
    let P : List Goal → Checker → Type 0 =
    λ gs x. Took k.theory.now (Goals gs names) k
    (record x { nodes = made.nodes; lines = l; state = record x.state { goals = made.goals }; own = made.own; base = c.len-self.result; derived = c.begin_list-2.new.lists }) in
    let G : List Tree → Type 0 = λ ts. Grows ts d in
    let B : List Tree → Type 0 = λ ts. AreBuilt ts m.terms in
    let same : lines_at d l ≡ lines_at base k.lines =
    r.terms ∙ ap (λ ts. lines_at ts m.lines) e.nodes ∙ ap (λ x. lines_at base x.lines) e.others in
    let same_names : map (named_goal (map (tree_at d) c.numbers.result.now)) names ≡ map (named_goal (numbered_at d l)) names =
    ap (λ ns. map (named_goal (map (tree_at d) ns)) names) c.numbers.ensures in
    on_ok c.begin_list-2.result
    (λ f gs ready. subst (P gs) (sym e.others)
    (block_begun k c.requires.sound c.requires.begun c.if-self.false d l made.nodes m.state.hyps made.goals made.own m.terms c.len-self.result m.earlier
    c.begin_list-2.new.lists gs names (subst G e.nodes c.begin_block.ensures.grows) r.lines r.stay same r.named p.grows e.hyps e.earlier
    (subst B e.nodes e.built) p.goals_there (p.goals ∙ same_names) p.patterns (p.own ∙ same_names) c.len-self.ensures (f ∙ ap (λ x. derived_of x ++ [] ∷ []) e.others) ready))
    c.begin_list-2.ensures.begun
