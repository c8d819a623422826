use Rattle.std.proofs.Common.{◌≡◌, Ok, Err, ap, ◌∙◌}
use Rattle.circ_term.specs.Tree.{sort_of}
use Rattle.circ_term.specs.Substitution.{instance}
use Rattle.circ_theory.specs.Rewriting.{named}
use Rattle.circ_expansion.specs.Expand.{link_setting, cases_at}
use Rattle.circ_expansion.specs.Machine.{Give_reasons, all_uses}
use Rattle.circ_expansion.specs.Followed.{led_all}
use Rattle.circ_tasks.specs.Settings.{setting_of}
use Rattle.circ_tasks.specs.Tasks.{call_of, basis_of, background_in, whys_at, links_at}
use Rattle.circ_tasks.specs.declared.tasks.Reasons.{Reasons}
use Rattle.circ_tasks.proofs.Advancing.{all_built_from}
use Rattle.circ_link_steps.proofs.Parting.{split_begun, left_split_past, right_split_past}
use Rattle.circ_link_steps.proofs.reason_steps.split_of.Goals as goal

pub returns-in-Err : goal.returns-in-Err
returns-in-Err c = λ js vs n.
    let fr = c.args.frame.now in
    let q = c.args.reason.now in
    let s = c.side.result in
    let chain = c.args.chain.now in
    left_split_past fr q.basis.value q.call.value chain (named fr.table.now c.args.term) q.left q.right (whys_at fr c.args.whys.now) js vs n c.in-Err.fault
    (all_built_from (Err c.in-Err.fault) (setting_of s) (link_setting (background_in fr) (basis_of fr q.basis.value)) s.table.now fr.table.now c.as_slice.result.now
    chain.left.items q.left (c.side.ensures.setting ∙ ap (λ b. link_setting (background_in fr) (basis_of fr b)) c.deref.ensures) c.side.ensures.table
    c.as_slice.ensures.value c.in-Err.ensures)

pub returns-in-Err-led_all : goal.returns-in-Err-led_all
returns-in-Err-led_all c = λ js vs n.
    let fr = c.args.frame.now in
    let q = c.args.reason.now in
    let s1 = c.side.result in
    let s2 = c.side-2.result in
    let chain = c.args.chain.now in
    let S = link_setting (background_in fr) (basis_of fr q.basis.value) in
    let left = all_built_from (Ok c.in-Ok.left) (setting_of s1) S s1.table.now fr.table.now c.as_slice.result.now chain.left.items q.left
    (c.side.ensures.setting ∙ ap (λ x. link_setting (background_in fr) (basis_of fr x)) c.deref.ensures) c.side.ensures.table c.as_slice.ensures.value c.in-Ok.ensures in
    right_split_past fr q.basis.value q.call.value chain (named fr.table.now c.args.term) q.left q.right (whys_at fr c.args.whys.now) js vs n c.in-Err-led_all.fault left.1
    (all_built_from (Err c.in-Err-led_all.fault) (setting_of s2) S s2.table.now fr.table.now c.as_slice-2.result.now chain.right.items q.right
    (c.side-2.ensures.setting ∙ ap (λ x. link_setting (background_in fr) (basis_of fr x)) c.deref-2.ensures) c.side-2.ensures.table c.as_slice-2.ensures.value
    c.in-Err-led_all.ensures)

pub returns : goal.returns
returns c = λ js vs n.
    let fr = c.args.frame.now in
    let q = c.args.reason.now in
    let d = q.call.value in
    let b = q.basis.value in
    let chain = c.args.chain.now in
    let v = named fr.table.now c.args.term in
    let S = link_setting (background_in fr) (basis_of fr b) in
    let s1 = c.side.result in
    let s2 = c.side-2.result in
    let left = all_built_from (Ok c.in-Ok.left) (setting_of s1) S s1.table.now fr.table.now c.as_slice.result.now chain.left.items q.left
    (c.side.ensures.setting ∙ ap (λ x. link_setting (background_in fr) (basis_of fr x)) c.deref.ensures) c.side.ensures.table c.as_slice.ensures.value c.in-Ok.ensures in
    let right = all_built_from (Ok c.in-Ok-led_all.right) (setting_of s2) S s2.table.now fr.table.now c.as_slice-2.result.now chain.right.items q.right
    (c.side-2.ensures.setting ∙ ap (λ x. link_setting (background_in fr) (basis_of fr x)) c.deref-2.ensures) c.side-2.ensures.table c.as_slice-2.ensures.value
    c.in-Ok-led_all.ensures in
    let r : Reasons = record {
      call = c.in_ok-call.call;
      basis = c.in_ok-basis.basis;
      whys = c.args.whys;
      term = c.in_ok-term.term;
      all = c.constants-constants.result;
      constants = c.constants-constants.result;
      left = c.in-Ok.left;
      right = c.in-Ok-led_all.right;
    } in
    let t : c.in_ok-term.term ≡ v = c.in_ok-term.ensures in
    let ks = c.constants-constants.result.now in
    let l = c.constants-constants.ensures in
    split_begun fr b d chain v q.left q.right (whys_at fr c.args.whys.now) r js vs n left.1 right.1
    ((λ i. Give_reasons (call_of fr (c.in_ok-call.ensures.cases i)) (basis_of fr (c.in_ok-basis.ensures.cases i)) (whys_at fr c.args.whys.now) c.in_ok-term.term
    (l i) (l i).constants (left.0 i) (right.0 i))
    ∙ (λ i. Give_reasons (call_of fr d) (basis_of fr b) (whys_at fr c.args.whys.now) (t i)
    (cases_at (all_uses (background_in fr)) (background_in fr) (sort_of (t i)))
    (cases_at (all_uses (background_in fr)) (background_in fr) (sort_of (t i))).constants
    (led_all S (links_at fr chain.left.items) q.left)
    (led_all S (links_at fr chain.right.items) q.right)))
    (λ i. instance (call_of fr (c.in_ok-call.ensures.cases i)).by (t i))
