use Rattle.std.proofs.Common.{◌≡◌, ◌<◌, ◌++◌, [], List, map, drop, length}
use Rattle.std.specs.List.{AllByRecursion}
use Rattle.circ_theory.specs.Rewriting.{named}
use Rattle.circ_theory.specs.Goal.{Goal}
use Rattle.circ_proof.specs.PlainProof.{plain_steps}
use Rattle.circ_proof.specs.Proof.{IsPlainStep}
use Rattle.circ_proof.specs.Rules.{state, map_step, AllOfStep, IsSortedState, StepsOf}
use Rattle.circ_entering.specs.Work.{state_of, table_of, IsWork}
use Rattle.circ_book.specs.Histories.{meeting_of, meetings, Lengthens}
use Rattle.circ_book.proofs.Meeting.{HaveNone}
use Rattle.circ_book.proofs.meetings.Ground.meet.Given as goal

abbrev pub invariant-loop-step : goal.invariant-loop-step
invariant-loop-step l =
    let table = l.self.table.now in
    let th = l.self.theory.now in
    let G = l.self.gamma.now in
    let rest = drop l.step-index l.steps in
    record {
      work : IsWork th l.work;
      terms : table_of l.work ≡ table;
      in_table : AllByRecursion (AllOfStep (λ n. n < length table)) (plain_steps rest);
      sorted : IsSortedState th (state_of l.work);
      none : HaveNone (state_of l.work).goals;
      hyps : Lengthens (state_of l.initial.work).hypotheses (state_of l.work).hypotheses;
      plain : AllByRecursion IsPlainStep (plain_steps rest);
      runs : (F : List Goal) × StepsOf th G (map (map_step (named table)) (plain_steps rest)) (state_of l.work) (state F []);
      met : map meeting_of l.met.items ++ meetings th G (state_of l.work).hypotheses (state_of l.work).goals (map (map_step (named table)) (plain_steps rest))
          ≡ meetings th G (state_of l.initial.work).hypotheses (state_of l.initial.work).goals (map (map_step (named table)) (plain_steps l.steps));
    }
