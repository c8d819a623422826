use Rattle.std.proofs.Common.{◌≡◌, ℕ, ◌+◌, ◌∷◌, List, drop, map, refl, ap, sym, subst, ◌∙◌, arith}
use Rattle.std.proofs.lemmas.List.{drop_all}
use Rattle.circ_term.specs.Tree.{Tree, sort_of}
use Rattle.circ_term.proofs.Within.{drop_read}
use Rattle.circ_theory.specs.Variables.{numbered}
use Rattle.circ_uses.specs.Valuations.{bounds_in, Fills}
use Rattle.circ_uses.proofs.Keeping.{filled_by, next_given}
use Rattle.circ_uses.proofs.starting.parameters.Goals as goal

pub loop-term-init : goal.loop-term-init
loop-term-init c = record { next = omega arith; same = λ n s. rw (c.new-values.ensures) refl }

pub loop-term-preserved : goal.loop-term-preserved
loop-term-preserved c =
    let ts = c.args.terms.now in
    let i = c.loop-term.term-index in
    let k = c.loop-term.number in
    let t = c.term-item.result in
    let rest = drop (i + 1) ts in
    let read = drop_read ts i t c.loop-term-test.true c.term-item.is in
    let σ = bounds_in c.loop-term.values in
    let τ = bounds_in c.put.new.self in
    let fills : Fills σ τ k (sort_of t) t = subst (λ s. Fills σ τ k s t) c.sort.ensures c.in_ok-put.ensures in
    record {
      next = omega (arith, c.loop-term.invariant.next);
      same = λ n s.
          next_given σ τ (record { number = k; sort = sort_of t }) t (numbered (k + 1) (map sort_of rest)) rest fills n s
          ∙ ap (λ us. filled_by σ (numbered k (map sort_of us)) us n s) (sym read) ∙ c.loop-term.invariant.same n s;
    }

pub returns : goal.returns
returns c = λ n s.
    let σ = bounds_in c.loop-term.values in
    let k = c.loop-term.number in
    ap (λ us. filled_by σ (numbered k (map sort_of us)) us n s) (sym (drop_all c.loop-term.term-index c.args.terms.now c.loop-term-test.false))
    ∙ c.loop-term.invariant.same n s
