use Rattle.std.proofs.Common.{◌≡◌, ◌∷◌, List, None, Err, refl, map, ap, subst, ◌∙◌}
use Rattle.circ_term.specs.Tree.{Tree}
use Rattle.circ_mixfix.specs.Answers.{first_long, lists_in, GivesReading}
use Rattle.circ_statement.specs.Words.{Word}
use Rattle.circ_statement.specs.Said.{sides_of}
use Rattle.circ_read.specs.Adding.{equation_lists, ReadsEquation}
use Rattle.circ_read.proofs.GoalTerms.{condition_tokens, conditions_within}
use Rattle.circ_script.specs.Steps.{draft_of}
use Rattle.circ_script.proofs.Drafts.{goal_read, goal_unread}
use Rattle.circ_script.proofs.adding.add_goal.Goals as goal

pub parse_list_declared-requires : goal.parse_list_declared-requires
parse_list_declared-requires c =
    rw (c.deref.ensures.value, c.in_ok-spans.ensures) (c.requires.left, (c.requires.right, conditions_within c.args.tokens.now c.args.conds.now c.requires.conds))

pub returns-in-Ok : goal.returns-in-Ok
returns-in-Ok c =
    let ts = c.args.tokens.now in
    let th = c.args.theory.now in
    let sides = sides_of ts c.args.sides in
    let conds = map (sides_of ts) c.args.conds.now in
    let terms = c.in-Ok.reading.terms.items in
    let e : lists_in ts c.deref.result.now ≡ equation_lists sides.left sides.right conds = ap (lists_in ts) (c.deref.ensures.value ∙ c.in_ok-spans.ensures)
    ∙ ap (λ z. sides.left ∷ sides.right ∷ z) (condition_tokens ts c.args.conds.now) in
    let P : List (List Word) → Type 0 = λ l. (first_long l ≡ None) × ReadsEquation th l terms × ((us : List Tree) → ReadsEquation th l us → us ≡ terms) in
    goal_read th c.args.asked.now (record c.args.asked.now { goals = c.push_goal.new.goals }) sides conds terms c.push_goal.result
    (subst P e c.in-Ok.ensures.reading) refl (rw c.deref-in-Ok.ensures.value at c.push_goal.ensures)

pub returns : goal.returns
returns c =
    let ts = c.args.tokens.now in
    let d = draft_of c.args.theory.now c.args.asked.now in
    let sides = sides_of ts c.args.sides in
    let conds = map (sides_of ts) c.args.conds.now in
    let e : lists_in ts c.deref.result.now ≡ equation_lists sides.left sides.right conds = ap (lists_in ts) (c.deref.ensures.value ∙ c.in_ok-spans.ensures)
    ∙ ap (λ z. sides.left ∷ sides.right ∷ z) (condition_tokens ts c.args.conds.now) in
    let P : List (List Word) → Type 0 = λ l. GivesReading (Err c.in-Err.fault) (first_long l) (ReadsEquation c.args.theory.now l) in
    goal_unread d sides conds c.in-Err.fault c.unread.result d (subst P e c.in-Err.ensures.reading) c.unread.ensures
