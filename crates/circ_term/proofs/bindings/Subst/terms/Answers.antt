use Rattle.std.proofs.Common.{[], ◌∷◌, ◌++◌, map, ap, sym, ◌∙◌, append_assoc, append-nil}
use Rattle.circ_term.proofs.Found.{bounds_in_order, terms_of_bounds}
use Rattle.circ_term.proofs.bindings.Subst.terms.Goals as goal

pub returns-clause-ordered : goal.returns-clause-ordered
returns-clause-ordered c = rw (← c.self.view_is) (bounds_in_order c.self.inside.terms.entries c.len.ensures.ordered)

pub loop-term-init : goal.loop-term-init
loop-term-init c =
    rw c.in_ok-terms.ensures.items (
    c.into_iter-term-iterator.ensures.into_iter_gives ∙ c.values-term-items.ensures.rest
    ∙ terms_of_bounds c.self.inside.terms.entries ∙ ap (map (λ b. b.term)) c.self.view_is
    )

pub loop-term-preserved : goal.loop-term-preserved
loop-term-preserved c =
    let made = c.loop-term.terms.items in
    rw c.in_ok-share_to.ensures.put (
    append_assoc made (c.in-Some.term.now ∷ []) c.next.new.self
    ∙ ap (λ ts. made ++ ts) (sym c.in-Some.ensures.steps) ∙ c.loop-term.invariant
    )

pub returns-clause-terms : goal.returns-clause-terms
returns-clause-terms c =
    let made = c.loop-term.terms.items in
    sym (append-nil made) ∙ ap (λ ts. made ++ ts) (sym c.in-None.ensures.steps.0) ∙ c.loop-term.invariant
