use Rattle.std.proofs.Common.{List, map, refl, ap, sym, ◌∙◌, subst}
use Rattle.circ_conditional_norm.specs.Norm.{conditional_norm}
use Rattle.circ_memo.specs.Value.{Rewriting, AnswersValue}
use Rattle.circ_refute.specs.PlainRefutation.{Waiting}
use Rattle.circ_refute.specs.Plain.{led_to, pair_of, plain_waiting}
use Rattle.circ_refute.specs.Progress.{Progress, progress, progress_with, plain_queue, conclusion_from, AreLowPairs, HaltsWith}
use Rattle.circ_refute.specs.declared.halt.Halt.{Halt}
use Rattle.circ_refute.proofs.Normals.{normal_pair}
use Rattle.circ_refute.proofs.Turning.{left_halts, right_halts, both_found}
use Rattle.circ_refute.proofs.refuter.Refuter.turn.Goals as goal

pub returns-in-Err-clause-goes : goal.returns-in-Err-clause-goes
returns-in-Err-clause-goes c =
    let s = c.args.self.now in
    let th = s.theory.now in
    let xs = s.expanded.items in
    let w = c.in-Some.waiting in
    let ws : List Waiting = plain_queue th xs c.pop_front.new.self.items in
    let q = ap (plain_queue th xs) (rw c.in-Some.is at c.pop_front.ensures.items) in
    let M : Rewriting → Type 0 = λ m. AnswersValue c.value.result c.value.new.budget (conditional_norm 0 m.theory.signature m.rules m.assumptions s.rewrites w.left) in
    let x = rw c.in-Err.is at (subst M c.requires.reducer c.value.ensures.exact) in
    let new : Progress = progress_with ws (map pair_of xs) c.value.new.budget s.derives in
    let H : Halt → Type 0 = HaltsWith (conclusion_from th (progress s)) new in
    subst H (sym c.of_rewrite.ensures)
    (left_halts th (progress s) (plain_waiting th (led_to th xs) w) ws q c.in-Err.fault c.value.new.budget x new refl refl)

pub returns-in-Err-value-clause-goes : goal.returns-in-Err-value-clause-goes
returns-in-Err-value-clause-goes c =
    let s = c.args.self.now in
    let th = s.theory.now in
    let xs = s.expanded.items in
    let w = c.in-Some.waiting in
    let ws : List Waiting = plain_queue th xs c.pop_front.new.self.items in
    let q = ap (plain_queue th xs) (rw c.in-Some.is at c.pop_front.ensures.items) in
    let M : Rewriting → Type 0 = λ m. AnswersValue c.value.result c.value.new.budget (conditional_norm 0 m.theory.signature m.rules m.assumptions s.rewrites w.left) in
    let x = rw c.in-Ok.is at (subst M c.requires.reducer c.value.ensures.exact) in
    let N : Rewriting → Type 0 = λ m. AnswersValue c.value-2.result c.value-2.new.budget (conditional_norm 0 m.theory.signature m.rules m.assumptions c.value.new.budget w.right) in
    let y = rw c.in-Err-value.is at (subst N (c.value.ensures.same ∙ c.requires.reducer) c.value-2.ensures.exact) in
    let new : Progress = progress_with ws (map pair_of xs) c.value-2.new.budget s.derives in
    let H : Halt → Type 0 = HaltsWith (conclusion_from th (progress s)) new in
    subst H (sym c.of_rewrite-in-Err-value.ensures)
    (right_halts th (progress s) (plain_waiting th (led_to th xs) w) ws q c.in-Ok.left x.0 c.value.new.budget x.1 c.in-Err-value.fault c.value-2.new.budget y new refl refl)

pub judge-requires-clause-room : goal.judge-requires-clause-room
judge-requires-clause-room c =
    let s = c.args.self.now in
    let th = s.theory.now in
    let xs = s.expanded.items in
    let w = c.in-Some.waiting in
    let r = c.requires.room in
    let q = ap (plain_queue th xs) (rw c.in-Some.is at c.pop_front.ensures.items) in
    let M : Rewriting → Type 0 = λ m. AnswersValue c.value.result c.value.new.budget (conditional_norm 0 m.theory.signature m.rules m.assumptions s.rewrites w.left) in
    let x = rw c.in-Ok.is at (subst M c.requires.reducer c.value.ensures.exact) in
    let N : Rewriting → Type 0 = λ m. AnswersValue c.value-2.result c.value-2.new.budget (conditional_norm 0 m.theory.signature m.rules m.assumptions c.value.new.budget w.right) in
    let y = rw c.in-Ok-value.is at (subst N (c.value.ensures.same ∙ c.requires.reducer) c.value-2.ensures.exact) in
    let A : List Waiting → Type 0 = AreLowPairs th r.bound in
    let all = subst A q r.pairs in
    record {
      rest = record { bound = r.bound; some = r.some; room = r.room; pairs = all.1 };
      pair = normal_pair th c.known.ensures r.bound r.some w.left w.right all.0 c.known-2.ensures c.known-3.ensures s.rewrites c.value.new.budget
          c.value-2.new.budget c.in-Ok.left c.in-Ok-value.right x.0 y.0 x.1 y.1;
    }

pub returns-clause-goes : goal.returns-clause-goes
returns-clause-goes c =
    let s = c.args.self.now in
    let th = s.theory.now in
    let xs = s.expanded.items in
    let w = c.in-Some.waiting in
    let ws : List Waiting = plain_queue th xs c.pop_front.new.self.items in
    let q = ap (plain_queue th xs) (rw c.in-Some.is at c.pop_front.ensures.items) in
    let M : Rewriting → Type 0 = λ m. AnswersValue c.value.result c.value.new.budget (conditional_norm 0 m.theory.signature m.rules m.assumptions s.rewrites w.left) in
    let x = rw c.in-Ok.is at (subst M c.requires.reducer c.value.ensures.exact) in
    let N : Rewriting → Type 0 = λ m. AnswersValue c.value-2.result c.value-2.new.budget (conditional_norm 0 m.theory.signature m.rules m.assumptions c.value.new.budget w.right) in
    let y = rw c.in-Ok-value.is at (subst N (c.value.ensures.same ∙ c.requires.reducer) c.value-2.ensures.exact) in
    both_found th (progress s) (plain_waiting th (led_to th xs) w) ws q c.in-Ok.left c.in-Ok-value.right x.0 y.0 c.value.new.budget c.value-2.new.budget x.1 y.1
    (progress c.judge.new.self) c.judge.result c.judge.ensures.goes
