-- An example with conditions: a gate that lets a stream through where its bit is 1, and a proof of gate(x, s) = s if x = 1.
use Rattle.std.specs.Prelude.{ℕ, List, [], ◌∷◌, codes, true}
use Rattle.circ_term.specs.Tree.{Tree, Var, App, none, more}
use Rattle.circ_theory.specs.Theory.{Theory, Pair, pair_with, goal, Derivative}
use Rattle.circ_theory.specs.Examples.{plain_op}
use Rattle.circ_theory.specs.declared.way.Way.TheVariants.{Forth}
use Rattle.circ_theory.specs.Goal.{Goal}
use Rattle.circ_proof.specs.Plain.{LinkOf, LinksOf, ChainsOf, ChainOf, Equation_link, Hypothesis_link, Assumption_link, Same_why, no_link, more_links, no_chain, more_chains}
use Rattle.circ_proof.specs.Rules.{ProofStep, Simplify, Reduce, Derive, Done}
use Rattle.circ_proof.specs.Proof.{GoalNames, Proof}

-- sort 0 is Bit, sort 1 is Stream; the operators are 0, 1, hd, tl and gate
abbrev pub off : Tree
off = App 0 0 none

abbrev pub on : Tree
on = App 1 0 none

abbrev pub hd : Tree → Tree
hd t = App 2 0 (more t none)

abbrev pub tl : Tree → Tree
tl t = App 3 1 (more t none)

abbrev pub gate : Tree → Tree → Tree
gate b t = App 4 1 (more b (more t none))

abbrev pub x : Tree
x = Var 0 0

abbrev pub s : Tree
s = Var 1 1

abbrev pub head_derivative : Derivative
head_derivative = record { hole = 1; body = hd (Var 0 1) }

abbrev pub tail_derivative : Derivative
tail_derivative = record { hole = 1; body = tl (Var 0 1) }

-- the condition that x is this bit
abbrev pub if_x : Tree → List Pair
if_x b = pair_with x b ∷ []

-- hd(gate(x, s)) = hd(s) if x = 1, hd(gate(x, s)) = 0 if x = 0, tl(gate(x, s)) = gate(x, tl(s))
abbrev pub gates : Theory
gates = record {
  name = codes "GATE";
  signature = record {
    sorts = codes "Bit" ∷ codes "Stream" ∷ [];
    ops = plain_op (codes "0") [] 0 ∷ plain_op (codes "1") [] 0 ∷ plain_op (codes "hd") (1 ∷ []) 0
        ∷ plain_op (codes "tl") (1 ∷ []) 1 ∷ plain_op (codes "gate") (0 ∷ 1 ∷ []) 1 ∷ [];
  };
  variables = [];
  equations = record { left = hd (gate x s); right = hd s; conds = if_x on; exec = true }
      ∷ record { left = hd (gate x s); right = off; conds = if_x off; exec = true }
      ∷ record { left = tl (gate x s); right = gate x (tl s); conds = []; exec = true } ∷ [];
  derivatives = head_derivative ∷ tail_derivative ∷ [];
  cases = record { sort = 0; constants = 0 ∷ 1 ∷ [] } ∷ [];
}

-- links on the left side alone
abbrev pub left_by : List (LinkOf ℕ) → ChainOf ℕ
left_by ls = record { left = ls; right = [] }

-- one condition, with these links on its left side
abbrev pub given_by : LinksOf ℕ → ChainsOf ℕ
given_by ls = more_chains ls no_link no_chain

-- the goal's condition as a link, at the path
abbrev pub by_given : List ℕ → LinkOf ℕ
by_given path = Assumption_link 0 Forth path

abbrev pub first_step : ProofStep ℕ
first_step = Simplify (left_by (by_given (0 ∷ []) ∷ []))

-- the heads are equal by equation 0 for 1 and s: its condition 1 = 1 needs no link
abbrev pub heads_step : ProofStep ℕ
heads_step = Reduce (Same_why (left_by (Equation_link 0 Forth [] (3 ∷ 1 ∷ []) (given_by no_link) ∷ [])))

-- the tails are equal by equation 2, then by the hypothesis for x and tl(s), whose condition x = 1 holds by these links
abbrev pub tails_step : LinksOf ℕ → ProofStep ℕ
tails_step ls =
    Reduce (Same_why (left_by (Equation_link 2 Forth [] (3 ∷ 1 ∷ []) no_chain ∷ Hypothesis_link 0 Forth [] (0 ∷ 4 ∷ []) (given_by ls) ∷ [])))

abbrev pub last_step : ProofStep ℕ
last_step = tails_step (more_links (by_given []) no_link)

abbrev pub through : Goal
through = goal (if_x on) (gate x s) s

abbrev pub gate_steps : List (ProofStep ℕ)
gate_steps = first_step ∷ Derive ∷ heads_step ∷ last_step ∷ Done ∷ []

abbrev pub gate_table : List Tree
gate_table = x ∷ s ∷ gate x s ∷ on ∷ tl s ∷ []

abbrev pub gate_names : GoalNames
gate_names = record { conds = (0, 3) ∷ []; left = 2; right = 1 }

abbrev pub lets_through : Proof
lets_through = record {
  version = 2;
  table = gate_table;
  places = [];
  certificates = [];
  blocks = record { goals = through ∷ []; names = gate_names ∷ []; steps = gate_steps } ∷ [];
}
