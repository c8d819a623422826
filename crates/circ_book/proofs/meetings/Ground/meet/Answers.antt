use Rattle.std.proofs.Common.{◌≡◌, ◌<◌, ◌+◌, ◌++◌, [], ◌∷◌, ℕ, List, map, drop, length, ap, sym, subst, ◌∙◌, arith}
use Rattle.std.specs.List.{AllByRecursion}
use Rattle.circ_term.proofs.Within.{drop_read}
use Rattle.circ_theory.specs.Rewriting.{named}
use Rattle.circ_proof.specs.PlainProof.{plain_step, plain_steps}
use Rattle.circ_proof.specs.Proof.{IsPlainStep}
use Rattle.circ_proof.specs.Rules.{state, map_step, AllOfStep, StepsOf}
use Rattle.circ_proof.specs.declared.proof.Step.{Step}
use Rattle.circ_entering.specs.Work.{state_of}
use Rattle.circ_book.specs.Histories.{meeting_of, meetings}
use Rattle.circ_book.proofs.Meeting.{step_met, hyps_grow, longer_still}
use Rattle.circ_book.proofs.meetings.Ground.meet.Goals as goal

pub meet_one-requires : goal.meet_one-requires
meet_one-requires c =
    let self = c.args.self.now in
    let f = named self.table.now in
    let inv = c.loop-step.invariant in
    let e = drop_read c.args.steps.now c.loop-step.step-index c.step-item.result c.loop-step-test.true c.step-item.is in
    let T : List (Step ℕ) → Type 0 = λ xs. AllByRecursion (AllOfStep (λ n. n < length self.table.now)) (plain_steps xs) in
    let R : List (Step ℕ) → Type 0 = λ xs. StepsOf self.theory.now self.gamma.now (map (map_step f) (plain_steps xs)) (state_of c.loop-step.work)
    (state inv.runs.0 []) in
    let r : R (c.step-item.result ∷ drop (c.loop-step.step-index + 1) c.args.steps.now) = subst R e inv.runs.1 in
    record {
      work = inv.work;
      terms = inv.terms;
      in_table = (subst T e inv.in_table).0;
      table_sorted = c.requires.table_sorted;
      state_sorted = inv.sorted;
      applies = (r.0, r.1);
    }

pub loop-step-preserved : goal.loop-step-preserved
loop-step-preserved c =
    let self = c.args.self.now in
    let f = named self.table.now in
    let th = self.theory.now in
    let G = self.gamma.now in
    let inv = c.loop-step.invariant in
    let x : Step ℕ = c.step-item.result in
    let ys : List (Step ℕ) = drop (c.loop-step.step-index + 1) c.args.steps.now in
    let e = drop_read c.args.steps.now c.loop-step.step-index x c.loop-step-test.true c.step-item.is in
    let T : List (Step ℕ) → Type 0 = λ xs. AllByRecursion (AllOfStep (λ n. n < length self.table.now)) (plain_steps xs) in
    let P : List (Step ℕ) → Type 0 = λ xs. AllByRecursion IsPlainStep (plain_steps xs) in
    let R : List (Step ℕ) → Type 0 = λ xs. StepsOf th G (map (map_step f) (plain_steps xs)) (state_of c.loop-step.work) (state inv.runs.0 []) in
    let some : length (state_of c.loop-step.work).goals ≡ 0 → ⊥ =
    λ h. let y = c.goal_count.ensures in absurd (grind (arith, c.if-goal_count-eq0.false, h, y)) in
    let m = step_met th G f x ys (state_of c.loop-step.work).hypotheses (state_of c.loop-step.work).goals inv.runs.0 (state_of c.meet_one.new.work) some
    (subst P e inv.plain).0 inv.none (subst R e inv.runs.1) c.in_ok-meet_one.ensures.applied (map meeting_of c.loop-step.met.items)
    (map meeting_of c.meet_one.new.met.items)
    (meetings th G (state_of c.args.work.now).hypotheses (state_of c.args.work.now).goals (map (map_step f) (plain_steps c.args.steps.now)))
    c.in_ok-meet_one.ensures.met
    (ap (λ xs. map meeting_of c.loop-step.met.items ++ meetings th G (state_of c.loop-step.work).hypotheses (state_of c.loop-step.work).goals
    (map (map_step f) (plain_steps xs))) (sym e) ∙ inv.met) in
    record {
      work = c.in_ok-meet_one.ensures.work;
      terms = c.in_ok-meet_one.ensures.terms;
      in_table = (subst T e inv.in_table).1;
      sorted = c.in_ok-meet_one.ensures.state_sorted;
      none = m.none;
      hyps = longer_still (state_of c.args.work.now).hypotheses (state_of c.loop-step.work).hypotheses (state_of c.meet_one.new.work).hypotheses inv.hyps
          (hyps_grow th G f (plain_step x) (state_of c.loop-step.work).hypotheses (state_of c.loop-step.work).goals (state_of c.meet_one.new.work)
          (subst P e inv.plain).0 c.in_ok-meet_one.ensures.applied);
      plain = (subst P e inv.plain).1;
      runs = (inv.runs.0, m.runs);
      met = m.met;
    }
