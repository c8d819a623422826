use Rattle.std.proofs.Common.{◌*◌, ◌<◌, length, map, refl, sym, ◌∙◌, arith}
use Rattle.std.proofs.lemmas.List.{length-map}
use Rattle.circ_tries.proofs.Faulting.{hinders_same}
use Rattle.circ_conditional_search.specs.Joining.{first_use_trying}
use Rattle.circ_join.specs.Hypotheses.{both_sides}
use Rattle.circ_join.specs.Trying.{normaliser_of}
use Rattle.circ_join.specs.Uses.{plain_use}
use Rattle.circ_join.proofs.FirstUse.{uses_from, from_start, none_from, used_at, found_hinders, found_applies, found_fails, hypothesis_there}
use Rattle.circ_join.proofs.TwoParts.{place_there}
use Rattle.circ_join.proofs.hypotheses.Hypotheses.first_use.Goals as goal

pub loop-place-init : goal.loop-place-init
loop-place-init c = record {
  low = omega arith;
  less = omega arith;
  same = refl;
  tried = sym (from_start (normaliser_of c.args.reducer.now) c.args.path.now c.args.a.now c.args.b.now 0 c.args.self.now.all c.args.budget.now);
}

pub first-requires : goal.first-requires
first-requires c = c.loop-place.invariant.low

pub returns-in_default-clause-exact : goal.returns-in_default-clause-exact
returns-in_default-clause-exact c =
    c.loop-place.invariant.tried
    ∙ none_from (normaliser_of c.args.reducer.now) c.args.path.now c.args.a.now c.args.b.now 0 c.args.self.now.all c.loop-place.from c.loop-place.budget
    (rw c.in_default.is at c.in_ok-place.ensures.found)

pub use_at-requires-clause-there : goal.use_at-requires-clause-there
use_at-requires-clause-there c =
    let H = c.args.self.now.all in
    let found = rw c.in-Some.is at c.in_ok-place.ensures.found in
    omega (arith, place_there (map both_sides H) c.args.a.now c.args.b.now c.loop-place.from c.in-Some.place c.in-Some.subst found, length-map H both_sides)

pub use_at-requires-clause-binds : goal.use_at-requires-clause-binds
use_at-requires-clause-binds c = λ h g.
    (used_at (normaliser_of c.args.reducer.now) c.args.path.now c.args.a.now c.args.b.now c.args.self.now.all c.loop-place.from c.in-Some.place c.loop-place.budget c.in-Some.subst h
    (rw c.in-Some.is at c.in_ok-place.ensures.found) g).0

pub returns-in-Err-clause-exact : goal.returns-in-Err-clause-exact
returns-in-Err-clause-exact c =
    let i = c.loop-place.invariant in
    let f = normaliser_of c.args.reducer.now in
    let H = c.args.self.now.all in
    let q = c.args.path.now in
    let a = c.args.a.now in
    let b = c.args.b.now in
    let found = rw c.in-Some.is at c.in_ok-place.ensures.found in
    let place : c.in-Some.place < 2 * length H =
    omega (arith, place_there (map both_sides H) a b c.loop-place.from c.in-Some.place c.in-Some.subst found, length-map H both_sides) in
    let h = hypothesis_there H c.in-Some.place place in
    hinders_same c.in-Err.fault c.use_at.new.budget (first_use_trying f 0 H q a b c.args.budget.now) (uses_from f q a b 0 H c.loop-place.from c.loop-place.budget) i.tried
    (found_hinders f q a b H c.loop-place.from c.in-Some.place c.loop-place.budget c.in-Some.subst h.0 found h.1 c.in-Err.fault c.use_at.new.budget
    (rw i.same at (c.in-Err.ensures.exact h.0 h.1)))

pub returns-in-Ok-Some-clause-exact : goal.returns-in-Ok-Some-clause-exact
returns-in-Ok-Some-clause-exact c =
    let i = c.loop-place.invariant in
    let f = normaliser_of c.args.reducer.now in
    let H = c.args.self.now.all in
    let a = c.args.a.now in
    let b = c.args.b.now in
    let found = rw c.in-Some.is at c.in_ok-place.ensures.found in
    let place : c.in-Some.place < 2 * length H =
    omega (arith, place_there (map both_sides H) a b c.loop-place.from c.in-Some.place c.in-Some.subst found, length-map H both_sides) in
    let h = hypothesis_there H c.in-Some.place place in
    i.tried
    ∙ found_applies f c.args.path.now a b H c.loop-place.from c.in-Some.place c.loop-place.budget c.in-Some.subst h.0 found h.1 (plain_use c.in-Ok-Some.one) c.use_at.new.budget
    (rw (c.in-Ok-Some.field-0-is, i.same) at (c.in-Ok-Some.ensures.exact h.0 h.1))

pub overflow_add-from : goal.overflow_add-from
overflow_add-from c =
    let H = c.args.self.now.all in
    let found = rw c.in-Some.is at c.in_ok-place.ensures.found in
    omega (arith, place_there (map both_sides H) c.args.a.now c.args.b.now c.loop-place.from c.in-Some.place c.in-Some.subst found, length-map H both_sides, c.first.ensures.few)

pub loop-place-smaller : goal.loop-place-smaller
loop-place-smaller c =
    let H = c.args.self.now.all in
    let found = rw c.in-Some.is at c.in_ok-place.ensures.found in
    let low = found.0 in
    omega (arith, place_there (map both_sides H) c.args.a.now c.args.b.now c.loop-place.from c.in-Some.place c.in-Some.subst found, length-map H both_sides, low)

pub loop-place-preserved : goal.loop-place-preserved
loop-place-preserved c =
    let i = c.loop-place.invariant in
    let f = normaliser_of c.args.reducer.now in
    let H = c.args.self.now.all in
    let a = c.args.a.now in
    let b = c.args.b.now in
    let found = rw c.in-Some.is at c.in_ok-place.ensures.found in
    let place : c.in-Some.place < 2 * length H =
    omega (arith, place_there (map both_sides H) a b c.loop-place.from c.in-Some.place c.in-Some.subst found, length-map H both_sides) in
    let h = hypothesis_there H c.in-Some.place place in
    record {
      low = omega (arith, place);
      less = omega (arith, i.less, c.use_at.ensures.less);
      same = c.use_at.ensures.same ∙ i.same;
      tried =
          i.tried
          ∙ found_fails f c.args.path.now a b H c.loop-place.from c.in-Some.place c.loop-place.budget c.in-Some.subst h.0 found h.1 c.use_at.new.budget
          (rw (c.in-Ok-None.field-0-is, i.same) at (c.in-Ok-None.ensures.exact h.0 h.1));
    }
