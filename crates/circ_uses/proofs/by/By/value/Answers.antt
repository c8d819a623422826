use Rattle.std.proofs.Common.{◌≡◌, ◌-◌, ap, sym, ◌∙◌, subst, arith, None, Some}
use Rattle.std.specs.Result.{IfOk}
use Rattle.circ_term.specs.Tree.{Tree}
use Rattle.circ_uses.specs.Valuations.{by_of, valued_by}
use Rattle.circ_uses.proofs.Overs.{overs_back}
use Rattle.circ_uses.proofs.by.By.value.Goals as goal

pub returns-in-Some : goal.returns-in-Some
returns-in-Some c =
    let b = c.args.self.now in
    let n = c.args.number in
    let s = c.args.sort in
    let j = c.in-Some.parameter in
    let back = overs_back (valued_by b.base.value) b.overs.items c.loop-left.left (c.loop-left.left - 1) c.index-over.result.now n s
    (omega (arith, c.loop-left-test.true)) (omega (arith, c.loop-left-test.true, c.loop-left.invariant.within)) c.index-over.ensures (Some j)
    (sym c.parameter.ensures ∙ c.in-Some.is) (by_of b n s) c.loop-left.invariant.same in
    let P : Tree → Type 0 = λ x. IfOk c.value.result (λ t. t ≡ x) in
    subst P (ap (λ v. valued_by v j s) c.deref.ensures ∙ back) c.value.ensures

pub loop-left-preserved : goal.loop-left-preserved
loop-left-preserved c =
    let b = c.args.self.now in
    let n = c.args.number in
    let s = c.args.sort in
    record {
      within = omega (arith, c.loop-left.invariant.within);
      same = overs_back (valued_by b.base.value) b.overs.items c.loop-left.left (c.loop-left.left - 1) c.index-over.result.now n s
          (omega (arith, c.loop-left-test.true)) (omega (arith, c.loop-left-test.true, c.loop-left.invariant.within)) c.index-over.ensures None
          (sym c.parameter.ensures ∙ c.in_default.is) (by_of b n s) c.loop-left.invariant.same;
    }
