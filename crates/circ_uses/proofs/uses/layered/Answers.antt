use Rattle.std.proofs.Common.{◌≡◌, ◌∷◌, [], ◌+◌, Option, None, drop, ap, sym, subst, ◌∙◌}
use Rattle.std.proofs.lemmas.List.{drop_all}
use Rattle.circ_term.specs.Tree.{Tree}
use Rattle.circ_term.specs.Limits.{Limit, first_limit, or_else, Names, IsWithinLimits}
use Rattle.circ_term.proofs.Within.{drop_read}
use Rattle.circ_expansion.specs.Expand.{layered, risen}
use Rattle.circ_uses.specs.Uses.{layer_by, layers_of, first_of}
use Rattle.circ_uses.specs.declared.uses.Layer.{Layer}
use Rattle.circ_uses.proofs.Rising.{layered_next, limits_next, names_risen}
use Rattle.circ_uses.proofs.uses.layered.Goals as goal

pub returns-in-Err : goal.returns-in-Err
returns-in-Err c =
    let th = c.args.theory.now in
    let i = c.loop-layer.layer-index in
    let x = c.layer-item.result in
    let rest = drop (i + 1) c.args.layers.now in
    let e = drop_read c.args.layers.now i x c.loop-layer-test.true c.layer-item.is in
    let t = c.loop-layer.here in
    let F : Layer → Type 0 = λ l. Names c.in-Err.fault (first_limit (layered (layer_by th l ∷ []) t)) in
    let h : F x.value = subst F c.deref.ensures c.in-Err.ensures in
    let N : Option Limit → Type 0 = Names c.in-Err.fault in
    subst N (sym (limits_next th x rest t c.loop-layer.invariant.within) ∙ ap (λ ls. first_of (risen (layers_of th ls) t)) (sym e)
    ∙ c.loop-layer.invariant.limits) (names_risen (layers_of th rest) (layered (layer_by th x.value ∷ []) t) c.in-Err.fault h)

pub loop-layer-preserved : goal.loop-layer-preserved
loop-layer-preserved c =
    let th = c.args.theory.now in
    let i = c.loop-layer.layer-index in
    let x = c.layer-item.result in
    let rest = drop (i + 1) c.args.layers.now in
    let e = drop_read c.args.layers.now i x c.loop-layer-test.true c.layer-item.is in
    let t = c.loop-layer.here in
    let made : c.in-Ok.made ≡ layered (layer_by th x.value ∷ []) t = c.in-Ok.ensures.0 ∙ ap (λ (l : Layer). layered (layer_by th l ∷ []) t) c.deref.ensures in
    let W : Tree → Type 0 = IsWithinLimits in
    record {
      within = subst W (sym c.in-Ok.ensures.0) c.in-Ok.ensures.1;
      same = ap (layered (layers_of th rest)) made ∙ sym (layered_next th x rest t) ∙ ap (λ ls. layered (layers_of th ls) t) (sym e)
          ∙ c.loop-layer.invariant.same;
      limits = ap (λ u. first_of (risen (layers_of th rest) u)) made ∙ sym (limits_next th x rest t c.loop-layer.invariant.within)
          ∙ ap (λ ls. first_of (risen (layers_of th ls) t)) (sym e) ∙ c.loop-layer.invariant.limits;
    }

pub returns : goal.returns
returns c =
    let th = c.args.theory.now in
    let t = c.loop-layer.here in
    let d = drop_all c.loop-layer.layer-index c.args.layers.now c.loop-layer-test.false in (
      ap (λ ls. layered (layers_of th ls) t) (sym d) ∙ c.loop-layer.invariant.same,
      sym c.loop-layer.invariant.limits ∙ ap (λ ls. first_of (risen (layers_of th ls) t)) d ∙ ap (λ o. or_else o None) c.loop-layer.invariant.within,
    )
