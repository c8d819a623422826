use Rattle.std.proofs.Common.{drop, ◌∙◌, arith}
use Rattle.circ_tries.proofs.Faulting.{hinders_same}
use Rattle.circ_conditional_search.specs.Joining.{first_lemma_trying}
use Rattle.circ_join.specs.Sweeping.{plain_due}
use Rattle.circ_join.specs.Trying.{normaliser_of}
use Rattle.circ_join.proofs.FirstLemma.{found_within, none_from, found_from, found_hinders, found_applies, found_fails, lemma_there}
use Rattle.circ_join.proofs.passing.Passing.first_use.Goals as goal

pub returns-in_default-clause-exact : goal.returns-in_default-clause-exact
returns-in_default-clause-exact c =
    c.loop-place.invariant.tried
    ∙ none_from (normaliser_of c.args.reducer.now) c.args.path.now c.args.term.now c.args.self.now.lemmas.now c.loop-place.from c.loop-place.budget
    (rw c.in_default.is at c.in_ok-place.ensures.found)

pub use_at-requires-clause-there : goal.use_at-requires-clause-there
use_at-requires-clause-there c =
    found_within c.args.self.now.lemmas.now c.args.term.now c.loop-place.from c.in-Some.place c.in-Some.subst (rw c.in-Some.is at c.in_ok-place.ensures.found)

pub use_at-requires-clause-binds : goal.use_at-requires-clause-binds
use_at-requires-clause-binds c = λ r g.
    (found_from (normaliser_of c.args.reducer.now) c.args.path.now c.args.term.now c.args.self.now.lemmas.now c.loop-place.from c.in-Some.place c.loop-place.budget c.in-Some.subst r
    (rw c.in-Some.is at c.in_ok-place.ensures.found) g).0

pub returns-in-Err-clause-exact : goal.returns-in-Err-clause-exact
returns-in-Err-clause-exact c =
    let i = c.loop-place.invariant in
    let f = normaliser_of c.args.reducer.now in
    let L = c.args.self.now.lemmas.now in
    let q = c.args.path.now in
    let t = c.args.term.now in
    let found = rw c.in-Some.is at c.in_ok-place.ensures.found in
    let r = lemma_there L c.in-Some.place (found_within L t c.loop-place.from c.in-Some.place c.in-Some.subst found) in
    hinders_same c.in-Err.fault c.use_at.new.budget (first_lemma_trying f L q t c.args.budget.now) (first_lemma_trying f (drop c.loop-place.from L) q t c.loop-place.budget) i.tried
    (found_hinders f q t L c.loop-place.from c.in-Some.place c.loop-place.budget c.in-Some.subst r.0 found r.1 c.in-Err.fault c.use_at.new.budget
    (rw i.same at (c.in-Err.ensures.exact r.0 r.1)))

pub returns-in-Ok-Some-clause-exact : goal.returns-in-Ok-Some-clause-exact
returns-in-Ok-Some-clause-exact c =
    let i = c.loop-place.invariant in
    let L = c.args.self.now.lemmas.now in
    let t = c.args.term.now in
    let found = rw c.in-Some.is at c.in_ok-place.ensures.found in
    let r = lemma_there L c.in-Some.place (found_within L t c.loop-place.from c.in-Some.place c.in-Some.subst found) in
    i.tried
    ∙ found_applies (normaliser_of c.args.reducer.now) c.args.path.now t L c.loop-place.from c.in-Some.place c.loop-place.budget c.in-Some.subst r.0 found r.1
    (plain_due c.in-Ok-Some.due) c.use_at.new.budget (rw (c.in-Ok-Some.field-0-is, i.same) at (c.in-Ok-Some.ensures.exact r.0 r.1))

pub overflow_add-from : goal.overflow_add-from
overflow_add-from c =
    let found = rw c.in-Some.is at c.in_ok-place.ensures.found in
    omega (arith, found_within c.args.self.now.lemmas.now c.args.term.now c.loop-place.from c.in-Some.place c.in-Some.subst found, c.first.ensures.few)

pub loop-place-smaller : goal.loop-place-smaller
loop-place-smaller c =
    let found = rw c.in-Some.is at c.in_ok-place.ensures.found in
    let low = found.0 in
    omega (arith, found_within c.args.self.now.lemmas.now c.args.term.now c.loop-place.from c.in-Some.place c.in-Some.subst found, low)

pub loop-place-preserved : goal.loop-place-preserved
loop-place-preserved c =
    let i = c.loop-place.invariant in
    let L = c.args.self.now.lemmas.now in
    let t = c.args.term.now in
    let found = rw c.in-Some.is at c.in_ok-place.ensures.found in
    let r = lemma_there L c.in-Some.place (found_within L t c.loop-place.from c.in-Some.place c.in-Some.subst found) in
    record {
      less = omega (arith, i.less, c.use_at.ensures.less);
      same = c.use_at.ensures.same ∙ i.same;
      tried =
          i.tried
          ∙ found_fails (normaliser_of c.args.reducer.now) c.args.path.now t L c.loop-place.from c.in-Some.place c.loop-place.budget c.in-Some.subst r.0 found r.1 c.use_at.new.budget
          (rw (c.in-Ok-None.field-0-is, i.same) at (c.in-Ok-None.ensures.exact r.0 r.1));
    }
