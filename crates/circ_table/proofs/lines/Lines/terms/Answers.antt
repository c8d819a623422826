use Rattle.std.proofs.Common.{◌≡◌, ◌<◌, ◌∙◌, ◌++◌, ◌∷◌, ℕ, length, take, ap, sym, subst, arith, []}
use Rattle.std.specs.List.{AllByRecursion}
use Rattle.std.proofs.lemmas.List.{length-take-le, take_more, take_all}
use Rattle.std.proofs.lemmas.Option.{get_or_from_slice_get}
use Rattle.circ_table.specs.Lines.{trees, picked}
use Rattle.circ_table.proofs.Firsts.{picked_take, picked_firsts}
use Rattle.circ_table.proofs.Placing.{length_trees}
use Rattle.circ_term.specs.Tree.{args_of}
use Rattle.circ_table.proofs.lines.Lines.terms.Goals as goal

pub pick-requires : goal.pick-requires
pick-requires c =
    let l = c.args.self.now in
    let n = c.loop-place.place in
    let long = length_trees l.args.items [] 0 l.rows.items in
    let same : n ≡ length c.as_slice.result.now =
    omega (arith, ap length c.as_slice.ensures.value, ap length c.loop-place.invariant, length-take-le n (trees l) (omega (arith, long, c.loop-place-test.true, l.rows.ok.0))) in
    let P : ℕ → Type 0 = λ k. AllByRecursion (λ m. m < k) c.args-in-loop-place.result.now in subst P same c.args-in-loop-place.ensures.before

pub build-requires-clause-args : goal.build-requires-clause-args
build-requires-clause-args c = λ t named.
    let l = c.args.self.now in
    let ns = c.args-in-loop-place.result.now in
    c.in_ok-args.ensures ∙ ap (λ ts. picked ts ns) (c.as_slice.ensures.value ∙ c.loop-place.invariant) ∙ picked_take (trees l) c.loop-place.place ns c.args-in-loop-place.ensures.before
    ∙ picked_firsts (trees l) ns (args_of t) (c.args-in-loop-place.ensures.args t named)

pub loop-place-preserved : goal.loop-place-preserved
loop-place-preserved c =
    let l = c.args.self.now in
    let n = c.loop-place.place in
    let t = c.in_ok-build.field-0 in
    let long = length_trees l.args.items [] 0 l.rows.items in
    let read = get_or_from_slice_get (trees l) n t t c.in_ok-build.ensures in
    c.in_ok-push.ensures.items ∙ ap (λ ts. ts ++ t ∷ []) c.loop-place.invariant ∙ ap (λ x. take n (trees l) ++ x ∷ []) (sym read)
    ∙ sym (take_more (trees l) n t (omega (arith, long, c.loop-place-test.true, l.rows.ok.0)))

pub returns : goal.returns
returns c =
    let l = c.args.self.now in
    let long = length_trees l.args.items [] 0 l.rows.items in
    c.loop-place.invariant ∙ take_all c.loop-place.place (trees l) (omega (arith, long, c.loop-place-test.false, l.rows.ok.0))
