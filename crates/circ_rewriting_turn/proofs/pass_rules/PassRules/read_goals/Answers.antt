use Rattle.std.proofs.Common.{◌≡◌, ap, length, take, sym, suc, ◌∙◌, ◌+◌, ◌++◌, arith}
use Rattle.circ_term.proofs.Within.{drop_read}
use Rattle.circ_attempt.specs.Rules.{lemma_of, lemmas_of, or_no_rule}
use Rattle.circ_attempt.proofs.OwnRules.{lemmas_few}
use Rattle.circ_rewriting_turn.proofs.Reading.{goals_read, take_few}
use Rattle.circ_rewriting_turn.proofs.pass_rules.PassRules.read_goals.Goals as goal

pub push_lemma-requires : goal.push_lemma-requires
push_lemma-requires c =
    let long = ap length c.loop-n.invariant.lemmas in
    let few = lemmas_few c.args.theory.now 0 (take c.loop-n.n c.args.earlier.now) in
    let most = take_few c.loop-n.n c.args.earlier.now in
    let all = c.requires.few in
    record { few = omega (arith, long, few, most, all) }

pub loop-n-preserved : goal.loop-n-preserved
loop-n-preserved c =
    let th = c.args.theory.now in
    let E = c.args.earlier.now in
    let n = c.loop-n.n in
    let g = c.index-earlier-n.result in
    let here = drop_read E n g c.loop-n-test.true c.index-earlier-n.is in
    let from : n ≡ 0 + n = omega arith in
    let next : suc n ≡ n + 1 = omega arith in
    record {
      lemmas = c.in_ok-push_lemma.ensures.added ∙ ap (λ x. x ++ or_no_rule (lemma_of th n g) _) c.loop-n.invariant.lemmas ∙ sym (goals_read th 0 n n E g _ from here) ∙ ap (λ k. lemmas_of th 0 (take k E)) next;
      own = c.loop-n.invariant.own;
      script = c.loop-n.invariant.script;
      count = c.loop-n.invariant.count;
    }
