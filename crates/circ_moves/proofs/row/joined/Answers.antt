use Rattle.std.proofs.Common.{sym, ap, subst, ◌∙◌}
use Rattle.circ_term.specs.Tree.{Tree}
use Rattle.circ_term.specs.Limits.{Names, first_limit}
use Rattle.circ_theory.specs.Theory.{twice}
use Rattle.circ_aci.specs.Canonical.{join}
use Rattle.circ_aci.proofs.Joined.{folded, folded-push, folded-join, folded_fault, limits-push}
use Rattle.circ_moves.proofs.row.joined.Goals as goal

pub loop-part-init : goal.loop-part-init
loop-part-init c = record {
  within = limits-push c.pop.new.self.items c.in-Some.last (rw c.in-Some.ensures.items at (rw c.as_slice.ensures.value at c.known.ensures));
  same = folded-join c.args.op c.args.sort c.pop.new.self.items c.in-Some.last ∙ ap (join c.args.op c.args.sort) (sym c.in-Some.ensures.items);
}

pub loop-part-preserved : goal.loop-part-preserved
loop-part-preserved c =
    let f = c.args.op in
    let k = c.args.sort in
    record {
      within = limits-push c.pop-in-loop-part.new.self.items c.in-Some-pop.part (rw c.in-Some-pop.ensures.items at c.loop-part.invariant.within);
      same = ap (folded f k c.pop-in-loop-part.new.self.items) c.in-Ok.ensures.0
          ∙ sym (folded-push f k c.pop-in-loop-part.new.self.items c.in-Some-pop.part c.loop-part.joined)
          ∙ ap (λ xs. folded f k xs c.loop-part.joined) (sym c.in-Some-pop.ensures.items)
          ∙ c.loop-part.invariant.same;
    }

pub returns-in-Err : goal.returns-in-Err
returns-in-Err c =
    let f = c.args.op in
    let k = c.args.sort in
    let before = c.pop-in-loop-part.new.self.items in
    let P : Tree → Type 0 = λ t. Names c.in-Err.fault (first_limit t) in
    let whole =
    sym (folded-push f k before c.in-Some-pop.part c.loop-part.joined)
    ∙ ap (λ xs. folded f k xs c.loop-part.joined) (sym c.in-Some-pop.ensures.items)
    ∙ c.loop-part.invariant.same in
    let within = limits-push before c.in-Some-pop.part (rw c.in-Some-pop.ensures.items at c.loop-part.invariant.within) in
    subst P whole (folded_fault f k before (twice f k c.in-Some-pop.part c.loop-part.joined) c.in-Err.fault within c.in-Err.ensures)
