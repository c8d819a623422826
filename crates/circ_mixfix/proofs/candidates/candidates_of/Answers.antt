use Rattle.std.proofs.Common.{◌≡◌, List, ℕ, ap, sym, subst, ◌∙◌}
use Rattle.circ_mixfix.specs.Least.{AreLeast, AreCandidates}
use Rattle.circ_mixfix.proofs.LeastNumbers.{settled_candidates, settled_least}
use Rattle.circ_mixfix.proofs.candidates.candidates_of.Goals as goal

pub returns-clause-least : goal.returns-clause-least
returns-clause-least c =
    let sig = c.args.theory.now.signature in
    let ws = c.args.words.now in
    let vs = c.args.variables.now in
    let fs = c.in_ok-ops.ops.items in
    let r = c.in_ok-found.found.value in
    let settled = rw (c.as_slice.ensures.value, c.deref-2.ensures) at (c.is_settled.ensures c.if-not-is_settled.false) in
    let all = settled_candidates sig ws vs c.args.most fs r c.known.ensures.operators (rw (c.sorts.ensures, c.deref.ensures) at c.in_ok-ops.ensures) settled in
    let is : c.take_least.result.items ≡ r.least = c.take_least.ensures ∙ ap (λ x. x.least) c.deref_mut.ensures.value in
    let P : List ℕ → Type 0 = AreLeast sig ws vs c.args.most in
    subst P (sym is) (settled_least sig ws vs c.args.most fs r settled all)

pub returns-clause-ops : goal.returns-clause-ops
returns-clause-ops c =
    let sig = c.args.theory.now.signature in
    let ws = c.args.words.now in
    let fs = c.in_ok-ops.ops.items in
    let r = c.in_ok-found.found.value in
    let settled = rw (c.as_slice.ensures.value, c.deref-2.ensures) at (c.is_settled.ensures c.if-not-is_settled.false) in
    let is : c.take_least.result.items ≡ r.least = c.take_least.ensures ∙ ap (λ x. x.least) c.deref_mut.ensures.value in
    let P : List ℕ → Type 0 = λ least. AreCandidates sig ws c.args.most least fs in
    subst P (sym is)
    (settled_candidates sig ws c.args.variables.now c.args.most fs r c.known.ensures.operators (rw (c.sorts.ensures, c.deref.ensures) at c.in_ok-ops.ensures) settled)
