use Rattle.std.proofs.Common.{◌≡◌, ◌+◌, ◌∷◌, ◌++◌, List, ap, sym, ◌∙◌, drop, arith}
use Rattle.std.specs.Prelude.{nat_lt}
use Rattle.circ_term.proofs.Within.{drop_read}
use Rattle.circ_proof.specs.PlainProof.{plain_step}
use Rattle.circ_attempt.specs.Rules.{own_rule, own_rules, derived_of_script}
use Rattle.circ_rewriting_turn.proofs.Reading.{derived_read, rule_few}
use Rattle.circ_rewriting_turn.proofs.pass_rules.PassRules.read_step.Goals as goal

pub read_derived-requires-clause-small : goal.read_derived-requires-clause-small
read_derived-requires-clause-small c =
    let there = rw c.in-Derive.is at c.requires.there in
    let short = c.requires.short in
    omega (arith, there, short)

pub returns-in_ok-read_derived-in-Derive-clause-own : goal.returns-in_ok-read_derived-in-Derive-clause-own
returns-in_ok-read_derived-in-Derive-clause-own c = λ xs.
    let th = c.args.theory.now in
    let n = c.args.number in
    let H = c.args.hyps.now in
    let k = c.args.self.now.script in
    let old = c.args.self.now.own in
    let new = c.read_derived.new.self.own in
    let h = c.index-hyps-number.result in
    let there = rw c.in-Derive.is at c.requires.there in
    let here = drop_read H n h (omega (arith, there)) c.index-hyps-number.is in
    ap (λ s. new ++ own_rules (n + 1) (derived_of_script th s xs) (drop (n + 1) H)) c.in_ok-read_derived-in-Derive.ensures.script
    ∙ derived_read th k n old new H h (drop (n + 1) H) xs c.in_ok-read_derived-in-Derive.ensures.own here
    ∙ ap (λ s. old ++ own_rules n (derived_of_script th k (s ∷ xs)) (drop n H)) (sym (ap plain_step c.in-Derive.is))

pub returns-in_ok-read_derived-in-Derive-clause-few : goal.returns-in_ok-read_derived-in-Derive-clause-few
returns-in_ok-read_derived-in-Derive-clause-few c =
    let few = rule_few (own_rule c.args.number (nat_lt 0 c.args.self.now.script) c.index-hyps-number.result) c.args.self.now.own c.read_derived.new.self.own c.in_ok-read_derived-in-Derive.ensures.own in
    omega (arith, few)
