use Rattle.std.proofs.Common.{◌≡◌, ◌∙◌, ap, sym, subst, refl, List, ℕ, map}
use Rattle.circ_theory.specs.Names.{AreDifferent}
use Rattle.circ_mixfix.specs.WordLists.{with_text}
use Rattle.circ_mixfix.proofs.WordLists.{inserted, different_with, with_there, last_added}
use Rattle.circ_mixfix.proofs.words.Words.add.Goals as goal
use Rattle.circ_mixfix.proofs.words.Words.add.Goals.{In_ok-insert}

grown : (c : In_ok-insert) → map (λ k. k.now) c.insert.new.self.keys ≡ with_text (map (λ k. k.now) c.self.inside.texts.keys) c.args.text.now
grown c = ap (map (λ k. k.now)) c.in_ok-insert.ensures.keys ∙ inserted (λ k. k.now) c.self.inside.texts.keys c.args.text c.args.text.now refl

pub invariant_of-self-2 : goal.invariant_of-self-2
invariant_of-self-2 c =
    let P : List (List ℕ) → Type 0 = AreDifferent in
    subst P (sym (grown c)) (different_with (map (λ k. k.now) c.self.inside.texts.keys) c.args.text.now c.self.invariant)

pub returns-in-Some-clause-added : goal.returns-in-Some-clause-added
returns-in-Some-clause-added c = sym (with_there c.args.self.now c.args.text.now c.in-Some.number c.in-Some.ensures)

pub returns-clause-added : goal.returns-clause-added
returns-clause-added c = rw (← c.self.view_is) (grown c)

pub returns-clause-number : goal.returns-clause-number
returns-clause-number c =
    rw (grown c, c.self.view_is, c.count-number.ensures.count) (last_added c.args.self.now c.args.text.now (rw c.in_default.is at c.number.ensures))
