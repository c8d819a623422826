use Rattle.std.proofs.Common.{◌≡◌, ◌+◌, true, false, refl, ap, sym, ◌∙◌, arith, Result, Ok, Err}
use Rattle.std.specs.Prelude.{OnOk}
use Rattle.circ_term.specs.Tree.{sort_of}
use Rattle.circ_theory.specs.Observing.{is_hidden}
use Rattle.circ_block.proofs.Lemmas.{rules_room, lemmas_room, put_none, put_hidden, put_visible}
use Rattle.circ_block.proofs.block.BlockRules.put_goal.Goals as goal

on_ok : {T E A B : Type 0} (r : Result T E) → (A → B) → OnOk r A → OnOk r B
on_ok (Ok x) f a = f a
on_ok (Err e) f a = tt

pub returns-then-not-branch : goal.returns-then-not-branch
returns-then-not-branch c = λ E h.
    let r = c.args.self.now in
    put_none c.args.theory.now E c.args.goal.now r h (r.count + 1) refl (sym c.in_ok-can_rewrite.ensures ∙ c.if-not-branch.true)

pub push_lemma-requires-clause-few : goal.push_lemma-requires-clause-few
push_lemma-requires-clause-few c =
    let few = c.requires.few in
    let room = lemmas_room c.args.theory.now few.0 c.args.self.now few.1 (omega (arith, few.2)) in
    room

pub returns-then-is_hidden : goal.returns-then-is_hidden
returns-then-is_hidden c = λ E h.
    let th = c.args.theory.now in
    let g = c.args.goal.now in
    let r = c.args.self.now in
    let hidden : is_hidden th (sort_of g.left) ≡ true = ap (is_hidden th) (sym c.sort.ensures) ∙ sym c.is_hidden.ensures.exact ∙ c.if-is_hidden.true in
    on_ok c.push_lemma.result
    (λ e. put_hidden th E g r h (r.count + 1) refl c.push_lemma.new.lemmas (sym c.in_ok-can_rewrite.ensures ∙ c.if-not-branch.false) hidden e)
    c.push_lemma.ensures

pub push_rule-requires-clause-few : goal.push_rule-requires-clause-few
push_rule-requires-clause-few c =
    let few = c.requires.few in
    let room = rules_room c.args.theory.now c.known.ensures few.0 c.args.self.now few.1 (omega (arith, few.2)) in
    record { goals = room.goals; aside = room.aside; cases = room.cases }

pub returns : goal.returns
returns c = λ E h.
    let th = c.args.theory.now in
    let g = c.args.goal.now in
    let r = c.args.self.now in
    let visible : is_hidden th (sort_of g.left) ≡ false = ap (is_hidden th) (sym c.sort.ensures) ∙ sym c.is_hidden.ensures.exact ∙ c.if-is_hidden.false in
    on_ok c.push_rule.result
    (λ e. put_visible th E g r h (r.count + 1) refl c.push_rule.new.self (sym c.in_ok-can_rewrite.ensures ∙ c.if-not-branch.false) visible e)
    c.push_rule.ensures
