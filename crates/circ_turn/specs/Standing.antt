-- What contracts see of a search and of where it stands.
use Rattle.std.specs.Prelude.{◌≡◌, ℕ, List, map}
use Rattle.circ_plain_search.specs.Search.{Limits, Standing, no_links, start}
use Rattle.circ_conditional_search.specs.ConditionalSearch.{CanAllBeSearched}
use Rattle.circ_conditional_search.specs.Search.{Manner}
use Rattle.circ_attempt.specs.Search.{Conduct}
use Rattle.circ_theory.specs.Theory.{Theory}
use Rattle.circ_theory.specs.Goal.{Goal}
use Rattle.circ_proof.specs.Plain.{plain_chain}
use Rattle.circ_proof.specs.PlainProof.{plain_steps}
use Rattle.circ_numbering.specs.Plain.{plain_term_blocks}
use Rattle.circ_turn.specs.declared.search.Limits.{Limits as TheLimits}
use Rattle.circ_turn.specs.declared.search.Search.{Search}
use Rattle.circ_turn.specs.declared.state.State.{State}

abbrev pub plain_limits : TheLimits → Limits
plain_limits l = record { steps = l.steps; derives = l.derives }

-- a search within the limits, in which hidden goals are split or not
abbrev pub manner_with : TheLimits → Manner
manner_with l = record { limits = plain_limits l; split = l.split }

-- the same, and whether hypotheses are rules
abbrev pub conduct_with : TheLimits → Conduct
conduct_with l = record { manner = manner_with l; rewrite = l.rewrite }

-- how a search goes
abbrev pub manner_of : Search → Manner
manner_of s = manner_with s.limits

abbrev pub standing : State → Standing
standing s = record {
  finished = plain_term_blocks s.finished.items;
  earlier = s.hyps.earlier;
  goals = s.goals.items;
  later = map (λ v. v.items) s.later.now;
  hypotheses = s.hyps.all;
  queue = s.queue.items;
  chain = plain_chain s.chain;
  steps = plain_steps s.steps.items;
  taken = s.taken;
  budget = s.budget;
  derives = s.derives;
  made = s.made;
  deep = s.deep;
}

abbrev pub limits_with : (steps derives : ℕ) → Limits
limits_with n m = record { steps = n; derives = m }

-- the same without links that have led to the goal in hand
abbrev pub unlinked : Standing → Standing
unlinked st = record st { chain = no_links }

-- the same with so many rewrite steps left
abbrev pub with_budget : Standing → (budget : ℕ) → Standing
with_budget st k = record st { budget = k }

-- the start of a search of such blocks
pub record IsStart (th : Theory) (l : Limits) (st : Standing) : Type 0 where
  pub blocks : List (List Goal)
  pub searchable : CanAllBeSearched th blocks
  pub start : st ≡ start l blocks

-- these parts are as before
pub record KeepsRest (old new : State) : Type 0 where
  pub finished : new.finished.items ≡ old.finished.items
  pub taken : new.taken ≡ old.taken
  pub derives : new.derives ≡ old.derives
  pub queue : new.queue.items ≡ old.queue.items
  pub hyps : new.hyps ≡ old.hyps
