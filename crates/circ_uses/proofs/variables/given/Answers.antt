use Rattle.std.proofs.Common.{◌+◌, ◌∷◌, drop, map, sym, ap, refl, unwrap_or, ◌∙◌}
use Rattle.std.proofs.lemmas.List.{drop_all}
use Rattle.circ_term.specs.Subst.{found}
use Rattle.circ_uses.proofs.Ends.{given_none}
use Rattle.circ_term.proofs.Within.{drop_read}
use Rattle.circ_uses.specs.Valuations.{variable_of, bounds_in}
use Rattle.circ_uses.proofs.Keeping.{filled_by, next_given}
use Rattle.circ_uses.proofs.variables.given.Goals as goal

pub loop-term-init : goal.loop-term-init
loop-term-init c = λ n s. rw (c.new-values.ensures, c.iter-rest.ensures.rest) refl

pub loop-term-preserved : goal.loop-term-preserved
loop-term-preserved c = λ n s.
    let i = c.loop-term.term-index in
    let read = drop_read c.args.terms.now i c.term-item.result c.loop-term-test.true c.term-item.is in
    next_given (bounds_in c.loop-term.values) (bounds_in c.put.new.self) (variable_of c.in-Some.variable.now) c.term-item.result
    (map variable_of c.next.new.self) (drop (i + 1) c.args.terms.now) c.in_ok-put.ensures n s
    ∙ ap (λ ts. filled_by (bounds_in c.loop-term.values) (variable_of c.in-Some.variable.now ∷ map variable_of c.next.new.self) ts n s) (sym read)
    ∙ ap (λ vs. filled_by (bounds_in c.loop-term.values) (map variable_of vs) (drop i c.args.terms.now) n s) (sym c.in-Some.ensures.steps)
    ∙ c.loop-term.invariant n s

pub returns : goal.returns
returns c = λ n s.
    let σ = bounds_in c.loop-term.values in
    let vs = map variable_of c.loop-term.rest in
    ap (unwrap_or (found σ n s)) (sym (given_none vs n s))
    ∙ ap (λ ts. filled_by σ vs ts n s) (sym (drop_all c.loop-term.term-index c.args.terms.now c.loop-term-test.false)) ∙ c.loop-term.invariant n s
