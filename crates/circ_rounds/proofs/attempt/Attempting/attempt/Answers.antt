use Rattle.std.proofs.Common.{◌-◌, ◌+◌, ◌∷◌, []}
use Rattle.std.specs.Option.{option_map}
use Rattle.circ_proof.specs.Plain.{plain_chain}
use Rattle.circ_plain_search.specs.Search.{no_links, sides_with}
use Rattle.circ_attempt.specs.Attempt.{attempt, outcome, round_limit}
use Rattle.circ_rounds.specs.Attempting.{rounds_in}
use Rattle.circ_rounds.proofs.Rounding.{attempt_is}
use Rattle.circ_rounds.proofs.Running.{works_same}
use Rattle.circ_rounds.proofs.attempt.Attempting.attempt.Goals as goal

pub returns-clause-exact : goal.returns-clause-exact
returns-clause-exact c = λ A bs h.
    let a = c.args.self.now in
    let s = c.args.left.now in
    let t = c.args.right.now in
    let k = c.args.budget.now in
    let aside = c.saturating_sub-aside.result in
    let w = rounds_in a bs A round_limit ((s, t) ∷ []) (sides_with s t no_links 0) (k - aside) in
    works_same (option_map plain_chain) (aside + c.rounds-found.new.budget) (attempt a.theory.now a.gamma.now a.hyps.now.earlier a.hyps.now.all bs A s t k) (outcome aside w)
    c.outcome.result (attempt_is a.theory.now a.gamma.now a.hyps.now.earlier a.hyps.now.all bs A s t k aside c.saturating_sub-aside.ensures)
    (c.outcome.ensures w c.rounds-found.new.budget (c.rounds-found.ensures.exact A bs h))
