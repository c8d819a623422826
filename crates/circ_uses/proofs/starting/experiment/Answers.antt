use Rattle.std.proofs.Common.{◌≡◌, ◌∷◌, ◌-◌, ap, sym, subst, ◌∙◌, arith}
use Rattle.circ_term.specs.Tree.{Tree}
use Rattle.circ_term.specs.Limits.{Limit, Names, first_limit}
use Rattle.circ_theory.specs.Experiment.{Entry, on}
use Rattle.circ_expansion.specs.Expand.{stages}
use Rattle.circ_uses.specs.Uses.{first_of}
use Rattle.circ_uses.proofs.Staging.{entries_left, entry_at, next_entry, names_stages, stages_next, all_left, none_at_end}
use Rattle.circ_uses.proofs.starting.experiment.Goals as goal

pub returns-in-Err : goal.returns-in-Err
returns-in-Err c =
    let th = c.args.theory.now in
    let hs = c.args.entries.now in
    let k = c.loop-left.left in
    let j = k - 1 in
    let h = c.index-entries-left.result in
    let t = c.loop-left.here in
    let next = next_entry th hs k j h c.index-entries-left.is (omega (arith, c.loop-left-test.true, c.loop-left.invariant.most)) (omega (arith, c.loop-left-test.true)) in
    subst (Names c.in-Err.fault) c.loop-left.invariant.limits
    (names_stages c.in-Err.fault (entries_left th hs k) (entries_left th hs j) (entry_at th h) t next c.in-Err.ensures)

pub loop-left-preserved : goal.loop-left-preserved
loop-left-preserved c =
    let th = c.args.theory.now in
    let hs = c.args.entries.now in
    let k = c.loop-left.left in
    let j = k - 1 in
    let h = c.index-entries-left.result in
    let t = c.loop-left.here in
    let next = next_entry th hs k j h c.index-entries-left.is (omega (arith, c.loop-left-test.true, c.loop-left.invariant.most)) (omega (arith, c.loop-left-test.true)) in
    record {
      most = omega (arith, c.loop-left-test.true, c.loop-left.invariant.most);
      same =
          ap (on (entries_left th hs j)) c.in-Ok.ensures.0 ∙ ap (λ es. on es t) (sym next) ∙ c.loop-left.invariant.same;
      limits =
          ap (λ u. first_of (stages (entries_left th hs j) u)) c.in-Ok.ensures.0
          ∙ stages_next (entries_left th hs k) (entries_left th hs j) (entry_at th h) t next c.in-Ok.ensures.1 ∙ c.loop-left.invariant.limits;
    }
