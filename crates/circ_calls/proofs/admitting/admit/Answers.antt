use Rattle.std.proofs.Common.{◌<◌, ◌+◌, ◌∙◌, ℕ, List, length, subst}
use Rattle.circ_term.specs.Tree.{Tree}
use Rattle.circ_proof.specs.Plain.{LinkOf, plain_links}
use Rattle.circ_proof.specs.PlainProof.{plain_certificates}
use Rattle.circ_proof.specs.Link.{AllOfLinks, resolved_links}
use Rattle.circ_rules.specs.Due.{due_after}
use Rattle.circ_calls.proofs.Holding.{resolved, from, HoldSoFar, none_held, held_next, held_not, all_held, read, none_left, in_table, counted as all_counted}
use Rattle.circ_calls.proofs.Judged.{counted}
use Rattle.circ_calls.proofs.admitting.admit.Goals as goal

pub loop-done-init : goal.loop-done-init
loop-done-init c =
    let th = c.args.theory.now in
    let G = c.args.gamma.now in
    let table = c.args.table.now in
    let vs = c.args.certificates.now in
    record {
      rules = c.rules-rules.ensures.rules table c.enter_rules.new.nodes c.in_ok-numbered.ensures.numbered;
      terms = c.rules-rules.ensures.table table c.enter_rules.new.nodes c.in_ok-numbered.ensures.numbered;
      so_far = none_held th G (resolved table (plain_certificates vs)) (due_after th G c.all-due.result) (c.all-due.ensures th G)
          (all_counted table vs ∙ c.requires.one_each);
    }

pub certify_next-requires-clause-rules : goal.certify_next-requires-clause-rules
certify_next-requires-clause-rules c = c.loop-done.invariant.rules

pub certify_next-requires-clause-in_table : goal.certify_next-requires-clause-in_table
certify_next-requires-clause-in_table c =
    let at = c.loop-done in
    let table = c.args.table.now in
    let v = c.index-certificates-done.result in
    let all = in_table (length table) c.args.certificates.now at.done v c.loop-done-test.true c.index-certificates-done.is c.requires.in_table in
    let P : ℕ → Type 0 = λ k. AllOfLinks (λ n. n < k) (plain_links v.items) in
    rw c.as_slice.ensures.value
    (subst P (counted at.nodes table c.rules-rules.result.table.now at.invariant.terms) all)

pub certify_next-requires-clause-places : goal.certify_next-requires-clause-places
certify_next-requires-clause-places c = rw (c.rules-rules.ensures.theory, c.rules-rules.ensures.gamma) c.requires.places

pub returns-then-not-branch : goal.returns-then-not-branch
returns-then-not-branch c =
    let th = c.args.theory.now in
    let G = c.args.gamma.now in
    let table = c.args.table.now in
    let vs = c.args.certificates.now in
    let at = c.loop-done in
    let v = c.index-certificates-done.result in
    let told = rw (
      c.rules-rules.ensures.theory,
      c.rules-rules.ensures.gamma,
      at.invariant.terms,
      c.as_slice.ensures.value,
    ) at c.in_ok-certify_next.ensures.exact in
    let P : List (List (LinkOf Tree)) → Type 0 = λ xs. HoldSoFar th G (resolved table (plain_certificates vs)) xs at.done (due_after th G at.due) in
    held_not th G (resolved table (plain_certificates vs)) (resolved_links table (plain_links v.items)) (from table vs (at.done + 1)) at.done at.due
    c.certify_next.new.due c.in_ok-certify_next.field-0 told c.if-not-branch.true
    (subst P (read table vs at.done v c.loop-done-test.true c.index-certificates-done.is) at.invariant.so_far)

pub loop-done-preserved : goal.loop-done-preserved
loop-done-preserved c =
    let th = c.args.theory.now in
    let G = c.args.gamma.now in
    let table = c.args.table.now in
    let vs = c.args.certificates.now in
    let at = c.loop-done in
    let v = c.index-certificates-done.result in
    let told = rw (
      c.rules-rules.ensures.theory,
      c.rules-rules.ensures.gamma,
      at.invariant.terms,
      c.as_slice.ensures.value,
    ) at c.in_ok-certify_next.ensures.exact in
    let P : List (List (LinkOf Tree)) → Type 0 = λ xs. HoldSoFar th G (resolved table (plain_certificates vs)) xs at.done (due_after th G at.due) in
    record {
      rules = rw c.in_ok-certify_next.ensures.same at.invariant.rules;
      terms = rw c.in_ok-certify_next.ensures.same at.invariant.terms;
      so_far = held_next th G (resolved table (plain_certificates vs)) (resolved_links table (plain_links v.items)) (from table vs (at.done + 1)) at.done at.due
          c.certify_next.new.due c.in_ok-certify_next.field-0 told c.if-not-branch.false
          (subst P (read table vs at.done v c.loop-done-test.true c.index-certificates-done.is) at.invariant.so_far);
    }

pub returns : goal.returns
returns c =
    let th = c.args.theory.now in
    let G = c.args.gamma.now in
    let table = c.args.table.now in
    let vs = c.args.certificates.now in
    let at = c.loop-done in
    let P : List (List (LinkOf Tree)) → Type 0 = λ xs. HoldSoFar th G (resolved table (plain_certificates vs)) xs at.done (due_after th G at.due) in
    all_held th G (resolved table (plain_certificates vs)) at.done (due_after th G at.due)
    (subst P (none_left table vs at.done c.loop-done-test.false) at.invariant.so_far)
