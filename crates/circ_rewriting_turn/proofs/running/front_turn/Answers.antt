use Rattle.std.proofs.Common.{◌≡◌, ◌+◌, ◌++◌, List, length, drop, ap, sym, subst, ◌∙◌, arith, length-append}
use Rattle.std.proofs.lemmas.List.{length-map}
use Rattle.circ_theory.specs.Goal.{Goal}
use Rattle.circ_proof.specs.PlainProof.{plain_step, plain_steps}
use Rattle.circ_block.specs.Rules.{IsRulesOf}
use Rattle.circ_attempt.specs.Following.{derives_in, script_left}
use Rattle.circ_attempt.specs.Rules.{own_rules, derived_of_script}
use Rattle.circ_attempt.specs.Search.{going, of_script}
use Rattle.circ_attempt.proofs.OwnRules.{derived_few}
use Rattle.circ_turn.specs.Standing.{standing, manner_of}
use Rattle.circ_rewriting_turn.proofs.Going.{front_turned, front_more}
use Rattle.circ_rewriting_turn.proofs.Reading.{steps_more, what_is_more, read_on}
use Rattle.circ_rewriting_turn.proofs.running.front_turn.Goals as goal

pub read_steps-requires-clause-all : goal.read_steps-requires-clause-all
read_steps-requires-clause-all c =
    let th = c.args.search.now.theory.now in
    let st = standing c.args.state.now in
    let next = going (standing c.goal_turn.new.state) c.goal_turn.new.passed in
    let more = front_more th c.args.search.now.gamma.now (manner_of c.args.search.now) st c.args.passed.now next c.requires.some
    (λ g rest e. rw c.in-Ok.is at (c.goal_turn.ensures.exact g rest e)) in
    let n = c.len-steps.result in
    let long = c.len-steps.ensures ∙ c.args.state.now.steps.ok.0 ∙ sym (length-map c.args.state.now.steps.items plain_step) in
    let steps = steps_more c.goal_turn.new.state.steps.items st.steps more.more_steps n long more.steps in
    let made = ap (λ x. derives_in (plain_steps (drop n x))) c.as_slice-all_steps.ensures.value ∙ ap derives_in steps ∙ sym more.derived in
    let before = ap length c.goals.ensures in
    let all = ap length (c.goals-all_hyps.ensures ∙ more.hypotheses) in
    omega (arith, made, before, all, length-append st.hypotheses more.more_hypotheses)

pub read_steps-requires-clause-short : goal.read_steps-requires-clause-short
read_steps-requires-clause-short c =
    let st = standing c.args.state.now in
    let next = going (standing c.goal_turn.new.state) c.goal_turn.new.passed in
    let small = c.requires.next next (front_turned c.args.search.now.theory.now c.args.search.now.gamma.now (manner_of c.args.search.now) st c.args.passed.now next c.requires.some
    (λ g rest e. rw c.in-Ok.is at (c.goal_turn.ensures.exact g rest e))) in
    let few = small.hypotheses in
    omega (arith, few, ap length c.goals-all_hyps.ensures)

pub read_steps-requires-clause-few : goal.read_steps-requires-clause-few
read_steps-requires-clause-few c =
    let st = standing c.args.state.now in
    let next = going (standing c.goal_turn.new.state) c.goal_turn.new.passed in
    let small = c.requires.next next (front_turned c.args.search.now.theory.now c.args.search.now.gamma.now (manner_of c.args.search.now) st c.args.passed.now next c.requires.some
    (λ g rest e. rw c.in-Ok.is at (c.goal_turn.ensures.exact g rest e))) in
    let few = small.hypotheses in
    let before = c.requires.small.hypotheses in
    let own = ap length c.requires.passes.rules.own in
    omega (arith, few, before, own, derived_few st.earlier st.hypotheses (of_script c.args.search.now.theory.now st), ap length c.goals-all_hyps.ensures)

pub returns-clause-rules : goal.returns-clause-rules
returns-clause-rules c =
    let th = c.args.search.now.theory.now in
    let st = standing c.args.state.now in
    let next = going (standing c.goal_turn.new.state) c.goal_turn.new.passed in
    let more = front_more th c.args.search.now.gamma.now (manner_of c.args.search.now) st c.args.passed.now next c.requires.some
    (λ g rest e. rw c.in-Ok.is at (c.goal_turn.ensures.exact g rest e)) in
    let P : List Goal → Type 0 = λ E. IsRulesOf th E c.goal_turn.new.rules in
    subst P (sym more.earlier) c.goal_turn.ensures.rules

pub returns-clause-passes : goal.returns-clause-passes
returns-clause-passes c =
    let th = c.args.search.now.theory.now in
    let st = standing c.args.state.now in
    let old = c.args.passes.now in
    let next = going (standing c.goal_turn.new.state) c.goal_turn.new.passed in
    let more = front_more th c.args.search.now.gamma.now (manner_of c.args.search.now) st c.args.passed.now next c.requires.some
    (λ g rest e. rw c.in-Ok.is at (c.goal_turn.ensures.exact g rest e)) in
    let n = c.len-steps.result in
    let long = c.len-steps.ensures ∙ c.args.state.now.steps.ok.0 ∙ sym (length-map c.args.state.now.steps.items plain_step) in
    let steps = ap (λ x. plain_steps (drop n x)) c.as_slice-all_steps.ensures.value ∙ steps_more c.goal_turn.new.state.steps.items st.steps more.more_steps n long more.steps in
    let first = length c.goals.result.now in
    let before = ap length c.goals.ensures in
    let hyps = what_is_more st.hypotheses more.more_hypotheses c.goals-all_hyps.result.now first before (c.goals-all_hyps.ensures ∙ more.hypotheses) in
    let all = c.goals-all_hyps.result.now in
    let slice = c.as_slice-all_steps.result.now in
    read_on th st next.standing more c.requires.derived old c.read_steps.new.self c.requires.passes c.read_steps.ensures.lemmas c.read_steps.ensures.count
    (c.in_ok-read_steps.ensures.script ∙ ap (script_left th old.script) steps)
    (c.in_ok-read_steps.ensures.own ∙ ap (λ k. old.own ++ own_rules k (derived_of_script th old.script (plain_steps (drop n slice))) (drop first all)) before
    ∙ ap (λ x. old.own ++ own_rules (length st.hypotheses) (derived_of_script th old.script x) (drop first all)) steps
    ∙ ap (λ x. old.own ++ own_rules (length st.hypotheses) (derived_of_script th old.script more.more_steps) x) hyps)
