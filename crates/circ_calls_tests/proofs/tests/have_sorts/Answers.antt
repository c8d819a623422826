use Rattle.std.proofs.Common.{◌≡◌, ◌<◌, ◌+◌, ℕ, zero, suc, List, [], ◌∷◌, drop, length, get_or, subst, arith, sym, ◌∙◌, ap}
use Rattle.std.proofs.lemmas.List.{drop_all, drop_more}
use Rattle.circ_theory.specs.Signature.{Signature, IsSort}
use Rattle.circ_mixfix.specs.Answers.{declared_by, HaveSorts}
use Rattle.circ_calls_tests.proofs.tests.have_sorts.Goals as goal

drop_read : {X : Type 0} (xs : List X) (i : ℕ) (x : X) → i < length xs → x ≡ get_or xs i x → drop i xs ≡ x ∷ drop (i + 1) xs
drop_read xs i x within read = drop_more xs i x within ∙ ap (λ y. y ∷ drop (i + 1) xs) (sym read)

none_listed : (sig : Signature) → HaveSorts sig (declared_by [])
none_listed sig d (k, l, e) = absurd (omega (arith, l))

one_listed : (sig : Signature) (v : List ℕ × ℕ) (vs : List (List ℕ × ℕ)) → v.1 < length sig.sorts →
    HaveSorts sig (declared_by vs) → HaveSorts sig (declared_by (v ∷ vs))
one_listed sig v vs s h d (zero, l, e) = subst (λ x. IsSort sig x.sort) e s
one_listed sig v vs s h d (suc k, l, e) = h d (k, omega (arith, l), e)

pub loop-var-preserved : goal.loop-var-preserved
loop-var-preserved c h =
    let vs = c.args.vars.now in
    let n = c.sort_count.ensures.count in
    let below = c.if-var-sort_count.false in
    let e = drop_read vs c.loop-var.var-index c.var-item.result c.loop-var-test.true c.var-item.is in
    c.loop-var.invariant (rw e (one_listed c.args.theory.now.signature c.var-item.result (drop (c.loop-var.var-index + 1) vs) (omega (arith, n, below)) h))

pub returns : goal.returns
returns c t =
    let vs = c.args.vars.now in
    c.loop-var.invariant (rw (drop_all c.loop-var.var-index vs c.loop-var-test.false) (none_listed c.args.theory.now.signature))
