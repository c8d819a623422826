use Rattle.std.proofs.Common.{◌≡◌, ◌<◌, ◌+◌, length, Some, None, refl, sym, subst, ◌∙◌, arith}
use Rattle.std.specs.List.{slice_get}
use Rattle.std.proofs.lemmas.Option.{same_Some, slice_get_read}
use Rattle.circ_nodes.specs.Named.{tree_at}
use Rattle.circ_index.specs.Finding.{LeftMatches}
use Rattle.circ_index.specs.Keys.{rule_keys}
use Rattle.circ_index.specs.Walking.{term_seats, IsOnWay, IsNextOn}
use Rattle.circ_index.proofs.Seeking.{sought_first, sought_next, within, next_above}
use Rattle.circ_due.proofs.Found.{none_fits, none_fits_on}
use Rattle.circ_due.proofs.Walking.{RuleMatches, rules_serve}
use Rattle.circ_due.proofs.finding.first_fit.Goals as goal

pub next_number-requires-clause-way : goal.next_number-requires-clause-way
next_number-requires-clause-way c =
    let x = c.args.means.now.finder in
    let t = tree_at c.args.nodes.now c.args.number in
    subst (λ ks. IsOnWay x ks (term_seats x ks t) c.args.from c.args.walk.now) (sym c.number_keys-keys.ensures)
    c.requires.way

pub loop-rule-init : goal.loop-rule-init
loop-rule-init c =
    let rs = c.args.means.now.rules.items in
    let x = c.args.means.now.finder in
    let t = tree_at c.args.nodes.now c.args.number in
    record {
      sought =
          sought_first (RuleMatches t) rs x (rule_keys t) (term_seats x (rule_keys t) t) c.args.from c.in_ok-rule.rule c.next_number.new.walk
          (rules_serve rs x t c.requires.ready.few_rules c.requires.ready.found) (omega arith)
          (subst (λ ks. IsNextOn x ks (term_seats x ks t) c.args.from c.next_number.new.walk c.in_ok-rule.rule) c.number_keys-keys.ensures c.in_ok-rule.ensures);
      nothing = c.requires.nothing;
    }

pub pass-requires : goal.pass-requires
pass-requires c =
    let rs = c.args.means.now.rules.items in
    let x = c.args.means.now.finder in
    let t = tree_at c.args.nodes.now c.args.number in
    within (RuleMatches t) rs x (rule_keys t) (term_seats x (rule_keys t) t) c.args.from c.loop-rule.rule c.loop-rule.walk (rules_serve rs x t c.requires.ready.few_rules c.requires.ready.found)
    c.loop-rule.invariant.sought (omega (arith, c.loop-rule-test.true))

pub next_number-requires-in-loop-rule-clause-way : goal.next_number-requires-in-loop-rule-clause-way
next_number-requires-in-loop-rule-clause-way c =
    let x = c.args.means.now.finder in
    let t = tree_at c.args.nodes.now c.args.number in
    subst (λ ks. IsOnWay x ks (term_seats x ks t) (c.loop-rule.rule + 1) c.pass.new.walk) (sym c.number_keys-keys.ensures)
    (c.pass.ensures (rule_keys t) (term_seats x (rule_keys t) t) c.loop-rule.invariant.sought.way)

pub returns-then-branch : goal.returns-then-branch
returns-then-branch c =
    let n = c.loop-rule.rule in
    let rs = c.args.means.now.rules.items in
    let rule = c.index.result.now in
    let fit = rw c.if-branch.true at c.in_ok-fits.ensures in
    let there : slice_get rs n ≡ Some rule = slice_get_read rs (length rs) n rule refl (omega (arith, c.loop-rule-test.true)) c.index.ensures in
    let sought = c.loop-rule.invariant.sought in
    (sought.above, (rule, there, fit), none_fits (tree_at c.args.nodes.now c.args.number) rs c.args.from n c.requires.ready.rewrite sought.tried)

pub returns : goal.returns
returns c =
    let rs = c.args.means.now.rules.items in
    let t = tree_at c.args.nodes.now c.args.number in
    none_fits_on t rs c.args.from c.loop-rule.rule (length rs) (omega (arith, c.loop-rule-test.false))
    (none_fits t rs c.args.from c.loop-rule.rule c.requires.ready.rewrite c.loop-rule.invariant.sought.tried)

pub loop-rule-smaller : goal.loop-rule-smaller
loop-rule-smaller c =
    let x = c.args.means.now.finder in
    let ks = c.number_keys-keys.result in
    let t = tree_at c.args.nodes.now c.args.number in
    let below : c.loop-rule.rule < length c.args.means.now.rules.items = omega (arith, c.loop-rule-test.true) in
    omega (
      arith,
      next_above x ks (term_seats x ks t) (c.loop-rule.rule + 1) c.in_ok-rule-2.rule c.next_number-in-loop-rule.new.walk
          (omega (arith, below, c.requires.ready.few_rules)) c.in_ok-rule-2.ensures,
      below,
    )

pub loop-rule-preserved : goal.loop-rule-preserved
loop-rule-preserved c =
    let n = c.loop-rule.rule in
    let rs = c.args.means.now.rules.items in
    let x = c.args.means.now.finder in
    let t = tree_at c.args.nodes.now c.args.number in
    let rule = c.index.result.now in
    let fit = rw c.if-branch.false at c.in_ok-fits.ensures in
    let below : n < length rs = omega (arith, c.loop-rule-test.true) in
    let there : slice_get rs n ≡ Some rule = slice_get_read rs (length rs) n rule refl below c.index.ensures in
    record {
      sought =
          sought_next (RuleMatches t) rs x (rule_keys t) (term_seats x (rule_keys t) t) c.args.from n c.in_ok-rule-2.rule c.loop-rule.walk c.next_number-in-loop-rule.new.walk
          (rules_serve rs x t c.requires.ready.few_rules c.requires.ready.found) c.loop-rule.invariant.sought below
          (λ p g ok. subst (λ q. LeftMatches t q.left None) (same_Some rule p (sym there ∙ g)) fit.1)
          (subst (λ ks. IsNextOn x ks (term_seats x ks t) (n + 1) c.next_number-in-loop-rule.new.walk c.in_ok-rule-2.rule) c.number_keys-keys.ensures
          c.in_ok-rule-2.ensures);
      nothing = fit.0;
    }
