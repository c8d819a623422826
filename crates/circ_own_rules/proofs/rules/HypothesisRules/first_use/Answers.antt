use Rattle.std.proofs.Common.{◌<◌, drop, length, ◌∙◌, arith}
use Rattle.circ_tries.proofs.Faulting.{hinders_same}
use Rattle.circ_join.specs.Trying.{normaliser_of}
use Rattle.circ_attempt.specs.Rules.{first_rule_use}
use Rattle.circ_own_rules.specs.Rules.{plain_rule}
use Rattle.circ_own_rules.specs.Using.{plain_due}
use Rattle.circ_own_rules.proofs.FirstRule.{found_within, none_from, found_from, found_hinders, found_applies, found_fails, rule_within, rule_there}
use Rattle.circ_own_rules.proofs.rules.HypothesisRules.first_use.Goals as goal

pub returns-in_default-clause-exact : goal.returns-in_default-clause-exact
returns-in_default-clause-exact c =
    c.loop-place.invariant.tried
    ∙ none_from (normaliser_of c.args.reducer.now) c.args.path.now c.args.term.now c.args.self.now c.loop-place.from c.loop-place.budget
    (rw c.in_default.is at c.in_ok-place.ensures.found)

pub bounds-rules-place : goal.bounds-rules-place
bounds-rules-place c =
    rule_within c.args.self.now c.rules.result.now c.in-Some.place c.rules.ensures
    (found_within c.args.self.now c.args.term.now c.loop-place.from c.in-Some.place c.in-Some.subst (rw c.in-Some.is at c.in_ok-place.ensures.found))

pub use_by-requires : goal.use_by-requires
use_by-requires c =
    let L = c.args.self.now in
    let found = rw c.in-Some.is at c.in_ok-place.ensures.found in
    let within : c.in-Some.place < length L = found_within L c.args.term.now c.loop-place.from c.in-Some.place c.in-Some.subst found in
    let there = rule_there L c.rules.result.now c.in-Some.place c.index-rules-place.result c.rules.ensures within c.index-rules-place.is in
    record {
      binds =
          (found_from (normaliser_of c.args.reducer.now) c.args.path.now c.args.term.now L c.loop-place.from c.in-Some.place c.loop-place.budget c.in-Some.subst
          (plain_rule c.index-rules-place.result) found there).0;
    }

pub returns-in-Err-clause-exact : goal.returns-in-Err-clause-exact
returns-in-Err-clause-exact c =
    let i = c.loop-place.invariant in
    let f = normaliser_of c.args.reducer.now in
    let L = c.args.self.now in
    let q = c.args.path.now in
    let t = c.args.term.now in
    let found = rw c.in-Some.is at c.in_ok-place.ensures.found in
    let within : c.in-Some.place < length L = found_within L t c.loop-place.from c.in-Some.place c.in-Some.subst found in
    let there = rule_there L c.rules.result.now c.in-Some.place c.index-rules-place.result c.rules.ensures within c.index-rules-place.is in
    hinders_same c.in-Err.fault c.use_by.new.budget (first_rule_use f L q t c.args.budget.now) (first_rule_use f (drop c.loop-place.from L) q t c.loop-place.budget) i.tried
    (found_hinders f q t L c.loop-place.from c.in-Some.place c.loop-place.budget c.in-Some.subst (plain_rule c.index-rules-place.result) found there c.in-Err.fault c.use_by.new.budget
    (rw i.same at c.in-Err.ensures.exact))

pub returns-in-Ok-Some-clause-exact : goal.returns-in-Ok-Some-clause-exact
returns-in-Ok-Some-clause-exact c =
    let i = c.loop-place.invariant in
    let L = c.args.self.now in
    let t = c.args.term.now in
    let found = rw c.in-Some.is at c.in_ok-place.ensures.found in
    let within : c.in-Some.place < length L = found_within L t c.loop-place.from c.in-Some.place c.in-Some.subst found in
    let there = rule_there L c.rules.result.now c.in-Some.place c.index-rules-place.result c.rules.ensures within c.index-rules-place.is in
    i.tried
    ∙ found_applies (normaliser_of c.args.reducer.now) c.args.path.now t L c.loop-place.from c.in-Some.place c.loop-place.budget c.in-Some.subst
    (plain_rule c.index-rules-place.result) found there (plain_due c.in-Ok-Some.due) c.use_by.new.budget (rw (c.in-Ok-Some.field-0-is, i.same) at c.in-Ok-Some.ensures.exact)

pub overflow_add-from : goal.overflow_add-from
overflow_add-from c =
    let found = rw c.in-Some.is at c.in_ok-place.ensures.found in
    omega (arith, found_within c.args.self.now c.args.term.now c.loop-place.from c.in-Some.place c.in-Some.subst found, c.first.ensures.few)

pub loop-place-smaller : goal.loop-place-smaller
loop-place-smaller c =
    let found = rw c.in-Some.is at c.in_ok-place.ensures.found in
    let low = found.0 in
    omega (arith, found_within c.args.self.now c.args.term.now c.loop-place.from c.in-Some.place c.in-Some.subst found, low)

pub loop-place-preserved : goal.loop-place-preserved
loop-place-preserved c =
    let i = c.loop-place.invariant in
    let L = c.args.self.now in
    let t = c.args.term.now in
    let found = rw c.in-Some.is at c.in_ok-place.ensures.found in
    let within : c.in-Some.place < length L = found_within L t c.loop-place.from c.in-Some.place c.in-Some.subst found in
    let there = rule_there L c.rules.result.now c.in-Some.place c.index-rules-place.result c.rules.ensures within c.index-rules-place.is in
    record {
      less = omega (arith, i.less, c.use_by.ensures.less);
      same = c.use_by.ensures.same ∙ i.same;
      tried =
          i.tried
          ∙ found_fails (normaliser_of c.args.reducer.now) c.args.path.now t L c.loop-place.from c.in-Some.place c.loop-place.budget c.in-Some.subst
          (plain_rule c.index-rules-place.result) found there c.use_by.new.budget (rw (c.in-Ok-None.field-0-is, i.same) at c.in-Ok-None.ensures.exact);
    }
