use Rattle.std.proofs.Common.{◌≡◌, false, IfOk, List, [], ◌∷◌, ap, sym, subst, ◌∙◌}
use Rattle.circ_term.specs.Order.{is_same}
use Rattle.circ_aci.specs.Canonical.{join}
use Rattle.circ_aci.proofs.Finding.{told_same}
use Rattle.circ_content_join.specs.Moves.{Move, Regrouping}
use Rattle.circ_moves.specs.Plain.{moves_of}
use Rattle.circ_moves.proofs.Regroupings.{not_regrouped, is_regrouped, within_differs}
use Rattle.circ_moves.proofs.rests.regrouped.Goals as goal

pub returns-then-same : goal.returns-then-same
returns-then-same c =
    let t = c.args.term.now in
    let J = join c.args.op c.args.sort (c.args.rest.now ∷ c.args.both.now) in
    let is = rw (c.in-Some.is, c.in_ok-entries_of.ensures) at c.in_ok-whole.ensures in
    not_regrouped c.args.op c.args.path.now t J (ap (is_same t) (sym is) ∙ sym (told_same t c.in-Some.whole c.same.result c.same.ensures) ∙ c.if-same.true)

pub returns-in_ok-vec-in-Some : goal.returns-in_ok-vec-in-Some
returns-in_ok-vec-in-Some c =
    let f = c.args.op in
    let q = c.args.path.now in
    let t = c.args.term.now in
    let J = join f c.args.sort (c.args.rest.now ∷ c.args.both.now) in
    let is : c.in-Some.whole ≡ J = rw (c.in-Some.is, c.in_ok-entries_of.ensures) at c.in_ok-whole.ensures in
    let other : is_same t J ≡ false = ap (is_same t) (sym is) ∙ sym (told_same t c.in-Some.whole c.same.result c.same.ensures) ∙ c.if-same.false in
    let P : List Move → Type 0 = λ vs. IfOk c.regrouping.result (λ o. moves_of o ≡ vs) in
    subst P (ap (λ xs. Regrouping f q (join f c.args.sort xs) ∷ []) c.in_ok-vec-in-Some.ensures.items ∙ ap (λ x. Regrouping f q x ∷ []) is ∙ is_regrouped f q t J other)
    c.regrouping.ensures

pub returns-in_ok-entries_of-in-None : goal.returns-in_ok-entries_of-in-None
returns-in_ok-entries_of-in-None c =
    let f = c.args.op in
    let q = c.args.path.now in
    let t = c.args.term.now in
    let J = join f c.args.sort (c.args.rest.now ∷ c.args.both.now) in
    let other = within_differs t J c.known.ensures (rw (c.in-None.is, c.in_ok-entries_of.ensures) at c.in_ok-whole.ensures) in
    let P : List Move → Type 0 = λ vs. IfOk c.regrouping-in-None.result (λ o. moves_of o ≡ vs) in
    subst P (ap (λ xs. Regrouping f q (join f c.args.sort xs) ∷ []) c.in_ok-entries_of-in-None.ensures ∙ is_regrouped f q t J other) c.regrouping-in-None.ensures
