use Rattle.std.proofs.Common.{◌≡◌, ◌∷◌, List, ℕ, None, Err, map, ap, subst, ◌∙◌}
use Rattle.circ_term.specs.Tree.{Tree}
use Rattle.circ_lexer.specs.TokenList.{tokens_in}
use Rattle.circ_mixfix.specs.Answers.{first_long, lists_in, GivesReading}
use Rattle.circ_statement.specs.Said.{sides_of}
use Rattle.circ_read.specs.Adding.{equation_lists, ReadsEquation}
use Rattle.circ_read.specs.Outcomes.{equation_added}
use Rattle.circ_read.proofs.GoalTerms.{condition_tokens, conditions_within}
use Rattle.circ_read.proofs.Parts.{read_then_added, not_read}
use Rattle.circ_read.proofs.equations.add_equation.Goals as goal

pub parse_list_declared-requires : goal.parse_list_declared-requires
parse_list_declared-requires c =
    rw (c.deref.ensures.value, c.in_ok-spans.ensures) (c.requires.left, (c.requires.right, conditions_within c.args.tokens.now c.args.conds.now c.requires.conds))

pub returns-in-Ok : goal.returns-in-Ok
returns-in-Ok c =
    let ts = c.args.tokens.now in
    let th = c.args.theory.now in
    let old = lists_in ts c.deref.result.now in
    let terms = c.in-Ok.reading.terms.items in
    let lists = equation_lists (tokens_in ts c.args.left) (tokens_in ts c.args.right) (map (sides_of ts) c.args.conds.now) in
    let e : old ≡ lists = ap (lists_in ts) (c.deref.ensures.value ∙ c.in_ok-spans.ensures)
    ∙ ap (λ z. tokens_in ts c.args.left ∷ tokens_in ts c.args.right ∷ z) (condition_tokens ts c.args.conds.now) in
    let P : List (List (List ℕ)) → Type 0 = λ l. (first_long l ≡ None) × ReadsEquation th l terms × ((us : List Tree) → ReadsEquation th l us → us ≡ terms) in
    read_then_added (first_long lists) (ReadsEquation th lists) th (equation_added th c.args.exec) terms c.add_terms.result c.add_terms.new.theory
    (subst P e c.in-Ok.ensures.reading) (rw c.deref-in-Ok.ensures.value at c.add_terms.ensures)

pub returns : goal.returns
returns c =
    let ts = c.args.tokens.now in
    let th = c.args.theory.now in
    let lists = equation_lists (tokens_in ts c.args.left) (tokens_in ts c.args.right) (map (sides_of ts) c.args.conds.now) in
    let e : lists_in ts c.deref.result.now ≡ lists = ap (lists_in ts) (c.deref.ensures.value ∙ c.in_ok-spans.ensures)
    ∙ ap (λ z. tokens_in ts c.args.left ∷ tokens_in ts c.args.right ∷ z) (condition_tokens ts c.args.conds.now) in
    let P : List (List (List ℕ)) → Type 0 = λ l. GivesReading (Err c.in-Err.fault) (first_long l) (ReadsEquation th l) in
    not_read (first_long lists) (ReadsEquation th lists) th (equation_added th c.args.exec) c.in-Err.fault c.unread.result th (subst P e c.in-Err.ensures.reading) c.unread.ensures
