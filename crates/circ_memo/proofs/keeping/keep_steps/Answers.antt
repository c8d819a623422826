use Rattle.std.proofs.Common.{◌≡◌, ℕ, [], refl, rules, ◌+◌, Option, ap, sym, subst, ◌∙◌, arith}
use Rattle.std.specs.List.{AllByRecursion}
use Rattle.circ_term.specs.Tree.{Tree}
use Rattle.circ_rewrite.specs.Replacement.{Replacement}
use Rattle.circ_memo.specs.Keeping.{IsForm, IsInBounds, IsNumberKept, Stays, AreKept}
use Rattle.circ_memo.specs.Settling.{IsStepIn, IsPassed, ArePassed, IsLinked, AreLinked, passed_count}
use Rattle.circ_memo.specs.declared.parts.Bounds.{Bounds}
use Rattle.circ_memo.proofs.Telling.{stays_self, stays_on, are_linked_stays, linked_back}
use Rattle.circ_memo.proofs.Stepping.{passed_back, count_on, all_back}
use Rattle.circ_memo.proofs.keeping.keep_steps.Goals.{In-Some}
use Rattle.circ_memo.proofs.keeping.keep_steps.Goals as goal

all_there : (c : In-Some) → AllByRecursion (IsStepIn c.loop-step.store.nodes) c.pop.new.self.items × IsStepIn c.loop-step.store.nodes c.in-Some.step
all_there c = all_back (IsStepIn c.loop-step.store.nodes) c.pop.new.self.items c.in-Some.step (rw c.in-Some.ensures.items at c.loop-step.invariant.there)

-- where the last step begins, and what is known of what it leads to
before : (c : In-Some) (due : Tree → Option Replacement) (b : Bounds) (t u : Tree) → ArePassed due c.args.store.now.nodes b t c.args.steps.items u
    → IsForm due c.args.store.now.nodes u c.args.last → IsInBounds b c.args.last
    → (v x : Tree) × ArePassed due c.loop-step.store.nodes b t c.pop.new.self.items v × IsPassed due c.loop-step.store.nodes b v c.in-Some.step x
    × IsForm due c.loop-step.store.nodes x c.loop-step.last × IsInBounds b c.loop-step.last
before c due b t u p f w =
    let now = c.loop-step.invariant.form due b t u p f w in
    let back = passed_back due c.loop-step.store.nodes b t c.pop.new.self.items c.in-Some.step now.0 (rw c.in-Some.ensures.items at now.1) in
    (back.0, now.0, back.1, back.2, now.2, now.3)

counted : (c : In-Some) → passed_count c.loop-step.steps.items ≡ passed_count c.pop.new.self.items + (c.in-Some.step.way.count + 1)
counted c = ap passed_count c.in-Some.ensures.items ∙ count_on c.pop.new.self.items c.in-Some.step

pub keep_step-requires-clause-there : goal.keep_step-requires-clause-there
keep_step-requires-clause-there c = (all_there (goal.at.keep_step-requires-clause-there c).In-Some).1

pub keep_step-requires-clause-count : goal.keep_step-requires-clause-count
keep_step-requires-clause-count c =
    omega (arith, c.requires.count, c.loop-step.invariant.count, counted (goal.at.keep_step-requires-clause-count c).In-Some)

-- what is kept, and how the last step is linked to the others and to what it leads to
linked : (c : In-Some) (due : Tree → Option Replacement) (b : Bounds) (t u : Tree) (n m : ℕ) → AreKept due c.args.store.now.nodes c.args.store.now.entries
    → ArePassed due c.args.store.now.nodes b t c.args.steps.items u → IsForm due c.args.store.now.nodes u c.args.last → IsInBounds b c.args.last
    → AreLinked c.args.store.now.nodes c.args.store.now.entries n c.args.steps.items m → IsNumberKept c.args.store.now.entries m c.args.last.count
    → AreKept due c.loop-step.store.nodes c.loop-step.store.entries × Stays c.args.store.now.entries c.loop-step.store.entries
    × AreLinked c.loop-step.store.nodes c.loop-step.store.entries n c.pop.new.self.items c.in-Some.step.here
    × IsLinked c.loop-step.store.nodes c.loop-step.store.entries c.in-Some.step.here c.in-Some.step
    × IsNumberKept c.loop-step.store.entries c.in-Some.step.next c.loop-step.last.count
linked c due b t u n m kept p f w l next =
    let now = c.loop-step.invariant.kept due b t u n m kept p f w l next in
    let back =
    linked_back c.loop-step.store.nodes c.loop-step.store.entries n c.pop.new.self.items now.0 c.in-Some.step (rw c.in-Some.ensures.items at now.3) in
    (now.1, now.2, back.0, back.1, subst (λ k. IsNumberKept c.loop-step.store.entries k c.loop-step.last.count) (sym back.2) now.4)

pub returns-in_err-last-clause-kept : goal.returns-in_err-last-clause-kept
returns-in_err-last-clause-kept c = λ due b t u n m kept p f w l next.
    let here = (goal.at.returns-in_err-last-clause-kept c).In-Some in
    let z = before here due b t u p f w in
    let y = linked here due b t u n m kept p f w l next in
    let now = c.keep_step.ensures.kept due b z.0 z.1 y.0 z.3 z.4 y.3 y.4 in
    (now.0, stays_on _ _ _ y.1 now.1)

pub loop-step-preserved : goal.loop-step-preserved
loop-step-preserved c =
    let here = (goal.at.loop-step-preserved c).In-Some in
    let same = sym c.keep_step.ensures.nodes in
    record {
      nodes = c.keep_step.ensures.nodes ∙ c.loop-step.invariant.nodes;
      there = subst (λ ns. AllByRecursion (IsStepIn ns) c.pop.new.self.items) same (all_there here).0;
      count = omega (arith, c.loop-step.invariant.count, counted here, c.in_ok-last.ensures.count);
      kept = λ due b t u n m kept p f w l next.
          let z = before here due b t u p f w in
          let y = linked here due b t u n m kept p f w l next in
          let now = c.keep_step.ensures.kept due b z.0 z.1 y.0 z.3 z.4 y.3 y.4 in (
            c.in-Some.step.here,
            now.0,
            stays_on _ _ _ y.1 now.1,
            subst (λ ns. AreLinked ns c.keep_step.new.store.entries n c.pop.new.self.items c.in-Some.step.here) same
                (are_linked_stays _ _ now.1 c.loop-step.store.nodes n c.pop.new.self.items c.in-Some.step.here y.2),
            c.in_ok-last.ensures.there,
          );
      form = λ due b t u p f w.
          let z = before here due b t u p f w in
          let made = c.in_ok-last.ensures.form due b z.0 z.1 z.3 z.4 z.5 in
          (z.0, subst (λ ns. ArePassed due ns b t c.pop.new.self.items z.0) same z.2, made.0, made.1);
    }

pub returns-clause-kept : goal.returns-clause-kept
returns-clause-kept c = λ due b t u n m kept p f w l next.
    let now = c.loop-step.invariant.kept due b t u n m kept p f w l next in
    (now.1, now.2)

pub returns-clause-there : goal.returns-clause-there
returns-clause-there c = λ due b t u n m kept p f w l next.
    let now = c.loop-step.invariant.kept due b t u n m kept p f w l next in
    let empty : c.loop-step.steps.items ≡ [] = search rules in
    let same : n ≡ now.0 = rw empty at now.3 in
    subst (λ k. IsNumberKept c.loop-step.store.entries k c.loop-step.last.count) (sym same) now.4

pub loop-step-init : goal.loop-step-init
loop-step-init c = record {
  nodes = refl;
  there = c.requires.there;
  count = refl;
  kept = λ due b t u n m kept p f w l next. (m, kept, stays_self c.args.store.now.entries, l, next);
  form = λ due b t u p f w. (u, p, f, w);
}
