use Rattle.std.proofs.Common.{◌≡◌, ◌+◌, ◌++◌, ◌∷◌, [], ◌∙◌, true, drop, map, ap, sym, subst, append_assoc, append-nil}
use Rattle.std.proofs.lemmas.List.{drop_all}
use Rattle.circ_term.specs.Tree.{Tree}
use Rattle.circ_term.proofs.Within.{drop_read}
use Rattle.circ_theory.proofs.Lists.{all_read}
use Rattle.circ_proof.specs.Table.{has, number_in}
use Rattle.circ_file.proofs.numbering.Numbering.numbers_of.Goals as goal

pub number_of-requires : goal.number_of-requires
number_of-requires c =
    let table = c.requires.0 in
    let P : Tree → Type 0 = λ t. has table t ≡ true in
    let t = c.term-item.result in
    (table, c.requires.1, subst P (sym c.term-item.is) (all_read P c.args.terms.now c.loop-term.term-index t c.requires.2 c.loop-term-test.true))

pub loop-term-preserved : goal.loop-term-preserved
loop-term-preserved c = λ table is all.
    let at = c.loop-term in
    let terms = c.args.terms.now in
    let i = at.term-index in
    let t = c.term-item.result in
    let P : Tree → Type 0 = λ u. has table u ≡ true in
    let rest = map (number_in table) (drop (i + 1) terms) in
    let there : has table t ≡ true = subst P (sym c.term-item.is) (all_read P terms i t all c.loop-term-test.true) in
    ap (λ ns. ns ++ rest) c.in_ok-push.ensures.ok ∙ append_assoc at.numbers.items (c.number_of.result ∷ []) rest
    ∙ ap (λ n. at.numbers.items ++ n ∷ rest) (c.number_of.ensures table is there)
    ∙ ap (λ us. at.numbers.items ++ map (number_in table) us) (sym (drop_read terms i t c.loop-term-test.true c.term-item.is))
    ∙ at.invariant table is all

pub returns : goal.returns
returns c table is all =
    let at = c.loop-term in
    sym (append-nil at.numbers.items)
    ∙ ap (λ us. at.numbers.items ++ map (number_in table) us) (sym (drop_all at.term-index c.args.terms.now c.loop-term-test.false))
    ∙ at.invariant table is all
