use Rattle.std.proofs.Common.{◌≡◌, ◌++◌, [], ℕ, List, length, map, take, take_at, refl, ap, sym, subst, ◌∙◌, arith}
use Rattle.std.specs.List.{AllByRecursion}
use Rattle.std.proofs.lemmas.List.{length-map}
use Rattle.circ_term.specs.Tree.{Tree}
use Rattle.circ_theory.specs.Rewriting.{named}
use Rattle.circ_theory.specs.Goal.{Goal}
use Rattle.circ_proof.specs.PlainProof.{plain_steps}
use Rattle.circ_proof.specs.Rules.{State, state, ProofStep, map_step, IsSortedState, StepsOf}
use Rattle.circ_proof.specs.declared.proof.Step.{Step}
use Rattle.circ_entering.specs.Work.{state_of}
use Rattle.circ_book.specs.Histories.{meeting_of, meetings, told_from, told_at, AreNodes}
use Rattle.circ_book.specs.declared.histories.Node.{Node}
use Rattle.circ_book.proofs.Meeting.{begun, few_met, told_is}
use Rattle.circ_book.proofs.meetings.Ground.add_block.Goals as goal

pub add_goals-requires : goal.add_goals-requires
add_goals-requires c = (c.args.self.now.theory.now, c.requires.work)

pub meet-requires-clause-work : goal.meet-requires-clause-work
meet-requires-clause-work c = c.in_ok-add_goals.ensures.work c.args.self.now.theory.now c.requires.work

pub meet-requires-clause-terms : goal.meet-requires-clause-terms
meet-requires-clause-terms c = c.in_ok-add_goals.ensures.table ∙ c.requires.terms

pub meet-requires-clause-state_sorted : goal.meet-requires-clause-state_sorted
meet-requires-clause-state_sorted c =
    let e = begun _ _ _ _ c.in_ok-add_goals.ensures.state c.requires.no_goal c.as_slice.ensures.value in
    subst (IsSortedState c.args.self.now.theory.now) (sym e) c.requires.sorted

pub meet-requires-clause-bare_goals : goal.meet-requires-clause-bare_goals
meet-requires-clause-bare_goals c =
    let e = begun _ _ _ _ c.in_ok-add_goals.ensures.state c.requires.no_goal c.as_slice.ensures.value in
    let P : State → Type 0 = λ x. AllByRecursion (λ (g : Goal). g.conds ≡ []) x.goals in
    subst P (sym e) c.requires.bare_goals

pub meet-requires-clause-runs : goal.meet-requires-clause-runs
meet-requires-clause-runs c =
    let self = c.args.self.now in
    let e = begun _ _ _ _ c.in_ok-add_goals.ensures.state c.requires.no_goal c.as_slice.ensures.value in
    let P : State → Type 0 = λ x. (F : List Goal)
    × StepsOf self.theory.now self.gamma.now (map (map_step (named self.table.now)) (plain_steps c.args.block.now.steps.items)) x (state F []) in
    rw c.as_slice-2.ensures.value (subst P (sym e) c.requires.runs)

pub tell-requires-clause-steps : goal.tell-requires-clause-steps
tell-requires-clause-steps c =
    let self = c.args.self.now in
    let b = state_of c.add_goals.new.self in
    let few = few_met self.theory.now self.gamma.now (named self.table.now) b.hypotheses b.goals c.as_slice-2.result.now c.in_ok-met.met.items
    c.in_ok-met.ensures.met in
    omega (arith, few, ap length c.as_slice-2.ensures.value, ap length c.as_slice-3.ensures.value)

pub tell-requires-clause-room : goal.tell-requires-clause-room
tell-requires-clause-room c =
    let self = c.args.self.now in
    let b = state_of c.add_goals.new.self in
    let few = few_met self.theory.now self.gamma.now (named self.table.now) b.hypotheses b.goals c.as_slice-2.result.now c.in_ok-met.met.items
    c.in_ok-met.ensures.met in
    omega (arith, few, ap length c.as_slice-2.ensures.value, c.requires.room)

pub add_hypotheses-requires : goal.add_hypotheses-requires
add_hypotheses-requires c = let th = c.args.self.now.theory.now in (th, c.keep.ensures.work th c.in_ok-met.ensures.work)

pub returns-clause-work : goal.returns-clause-work
returns-clause-work c =
    let th = c.args.self.now.theory.now in c.in_ok-add_hypotheses.ensures.work th (c.keep.ensures.work th c.in_ok-met.ensures.work)

pub returns-clause-terms : goal.returns-clause-terms
returns-clause-terms c = c.in_ok-add_hypotheses.ensures.table ∙ c.keep.ensures.table ∙ c.in_ok-met.ensures.terms

pub returns-clause-state : goal.returns-clause-state
returns-clause-state c =
    let H = (state_of c.args.work.now).hypotheses in
    let e = begun _ _ _ _ c.in_ok-add_goals.ensures.state c.requires.no_goal c.as_slice.ensures.value in
    let more = c.in_ok-met.ensures.hyps in
    let put : (state_of c.add_goals.new.self).hypotheses ≡ H = ap {A = State} (λ x. x.hypotheses) e in
    let met : take c.hypothesis_count-earlier.result (state_of c.meet.new.work).hypotheses ≡ H =
    ap (λ n. take n (state_of c.meet.new.work).hypotheses) c.hypothesis_count-earlier.ensures ∙ ap (take (length H)) (more.1 ∙ ap (λ x. x ++ more.0) put)
    ∙ take_at H more.0 (length H) refl in
    let kept : state_of c.keep.new.self ≡ state H [] = c.keep.ensures.state ∙ ap (λ x. state x []) met in
    c.in_ok-add_hypotheses.ensures.state ∙ ap {A = State} (λ x. state (x.hypotheses ++ c.as_slice-4.result.now) x.goals) kept
    ∙ ap (λ x. state (H ++ x) []) c.as_slice-4.ensures.value

pub returns-clause-added : goal.returns-clause-added
returns-clause-added c =
    let self = c.args.self.now in
    let th = self.theory.now in
    let G = self.gamma.now in
    let table : List Tree = self.table.now in
    let H = (state_of c.args.work.now).hypotheses in
    let b = state_of c.add_goals.new.self in
    let e : b ≡ state H c.args.block.now.goals.items = begun _ _ _ _ c.in_ok-add_goals.ensures.state c.requires.no_goal c.as_slice.ensures.value in
    let steps = c.args.block.now.steps.items in
    let R : List (Step ℕ) → List (ProofStep Tree) = λ xs. map (map_step (named table)) (plain_steps xs) in
    let few = few_met th G (named table) b.hypotheses b.goals c.as_slice-2.result.now c.in_ok-met.met.items c.in_ok-met.ensures.met in
    let met : map meeting_of c.in_ok-met.met.items ≡ meetings th G H c.args.block.now.goals.items (R steps) =
    c.in_ok-met.ensures.met ∙ ap (λ xs. meetings th G b.hypotheses b.goals (R xs)) c.as_slice-2.ensures.value
    ∙ ap {A = State} (λ x. meetings th G x.hypotheses x.goals (R steps)) e in
    let t = c.in_ok-told.ensures in
    record {
      numbers = c.in_ok-told.told;
      nodes = (t.0.0, c.in_ok-note.ensures.nodes ∙ t.0.1);
      few = omega (arith, ap length c.in_ok-note.ensures.nodes, t.2, few, length-map c.in_ok-met.met.items meeting_of, ap length c.as_slice-2.ensures.value);
      are = let P = λ (ns : List Node). AreNodes ns c.in_ok-told.told in subst P (sym c.in_ok-note.ensures.nodes) t.1;
      right = ap (λ ns. told_at table ns c.in_ok-told.told) c.in_ok-note.ensures.nodes ∙ t.3 table
          ∙ ap (λ xs. told_from (map meeting_of c.in_ok-met.met.items) (R xs)) c.as_slice-3.ensures.value
          ∙ ap (λ ms. told_from ms (R steps)) met ∙ told_is th G H c.args.block.now.goals.items (R steps);
      goals = c.in_ok-note.ensures.goals;
      blocks = c.in_ok-note.ensures.blocks;
    }
