use Rattle.std.proofs.Common.{map, refl, ap, sym, ◌∙◌, arith}
use Rattle.circ_check.specs.Checking.{goals_in, with_derived}
use Rattle.circ_check.specs.Deciding.{plain_list}
use Rattle.circ_check.proofs.Finding.{with_none}
use Rattle.circ_check.proofs.Watching.{set_same, set_last, on_err}
use Rattle.circ_check.proofs.checker.add_last.Goals as goal

pub returns-in_default-clause-added : goal.returns-in_default-clause-added
returns-in_default-clause-added c =
    let lists = map plain_list c.args.lists.now.items in
    sym (ap (λ o. with_derived lists (goals_in o)) c.in_default.is ∙ with_none lists)

pub returns-in_err-push-clause-kept : goal.returns-in_err-push-clause-kept
returns-in_err-push-clause-kept c =
    on_err c.from_residual.result
    (set_same c.args.lists.now.items _ c.push.new.self c.in-Some-last_mut.list.now c.in-Some-last_mut.ensures.value c.in_err-push.ensures.items)

pub returns-in_ok-push-clause-added : goal.returns-in_ok-push-clause-added
returns-in_ok-push-clause-added c =
    let lists = map plain_list c.args.lists.now.items in
    let some = c.in-Some-last_mut.ensures.variant.0 refl in
    set_last c.args.lists.now.items _ c.push.new.self c.in-Some-last_mut.list.now c.in-Some.goal (omega (arith, some, c.args.lists.now.ok.0))
    c.in-Some-last_mut.ensures.value c.in_ok-push.ensures.items
    ∙ sym (ap (λ o. with_derived lists (goals_in o)) c.in-Some.is)
