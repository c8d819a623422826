-- An example: streams, and a proof of f(x) = k(x) in which the hypothesis is used at the argument of the operator g.
use Rattle.std.specs.Prelude.{ℕ, List, [], ◌∷◌, codes, true}
use Rattle.circ_term.specs.Tree.{Tree, Var, App, none, more}
use Rattle.circ_theory.specs.Theory.{Theory, goal, Derivative}
use Rattle.circ_theory.specs.Examples.{plain_op}
use Rattle.circ_theory.specs.declared.way.Way.TheVariants.{Forth}
use Rattle.circ_special.specs.Special.{place}
use Rattle.circ_proof.specs.Plain.{LinkOf, Equation_link, Hypothesis_link, no_chain, ChainOf, Same_why}
use Rattle.circ_proof.specs.Rules.{ProofStep, Reduce, Derive, Done}
use Rattle.circ_proof.specs.Proof.{GoalNames, Proof}

-- sort 0 is Bit, sort 1 is Stream; the operators are hd, tl, g, f and k
abbrev pub hd : Tree → Tree
hd t = App 0 0 (more t none)

abbrev pub tl : Tree → Tree
tl t = App 1 1 (more t none)

abbrev pub g : Tree → Tree
g t = App 2 1 (more t none)

abbrev pub f : Tree → Tree
f t = App 3 1 (more t none)

abbrev pub k : Tree → Tree
k t = App 4 1 (more t none)

abbrev pub x : Tree
x = Var 0 1

abbrev pub head_derivative : Derivative
head_derivative = record { hole = 1; body = hd x }

abbrev pub tail_derivative : Derivative
tail_derivative = record { hole = 1; body = tl x }

-- all three keep the head, and tl(g(x)) = g(tl(x)), tl(f(x)) = g(f(tl(x))), tl(k(x)) = g(k(tl(x)))
abbrev pub twins : Theory
twins = record {
  name = codes "TWINS";
  signature = record {
    sorts = codes "Bit" ∷ codes "Stream" ∷ [];
    ops = plain_op (codes "hd") (1 ∷ []) 0 ∷ plain_op (codes "tl") (1 ∷ []) 1
        ∷ plain_op (codes "g") (1 ∷ []) 1 ∷ plain_op (codes "f") (1 ∷ []) 1 ∷ plain_op (codes "k") (1 ∷ []) 1 ∷ [];
  };
  variables = [];
  equations = record { left = hd (g x); right = hd x; conds = []; exec = true } ∷ record { left = tl (g x); right = g (tl x); conds = []; exec = true }
      ∷ record { left = hd (f x); right = hd x; conds = []; exec = true } ∷ record { left = tl (f x); right = g (f (tl x)); conds = []; exec = true }
      ∷ record { left = hd (k x); right = hd x; conds = []; exec = true } ∷ record { left = tl (k x); right = g (k (tl x)); conds = []; exec = true } ∷ [];
  derivatives = head_derivative ∷ tail_derivative ∷ [];
  cases = [];
}

-- the equation of this number at the root, for x
abbrev pub by : ℕ → LinkOf ℕ
by number = Equation_link number Forth [] (0 ∷ []) no_chain

abbrev pub chain_of : List (LinkOf ℕ) → List (LinkOf ℕ) → ChainOf ℕ
chain_of ls rs = record { left = ls; right = rs }

-- the heads are equal; the tails are by the hypothesis at argument 0 of g, for tl(x)
abbrev pub steps : List (ProofStep ℕ)
steps = Derive
    ∷ Reduce (Same_why (chain_of (by 2 ∷ []) (by 4 ∷ [])))
    ∷ Reduce (Same_why (chain_of (by 3 ∷ Hypothesis_link 0 Forth (0 ∷ []) (1 ∷ []) no_chain ∷ []) (by 5 ∷ [])))
    ∷ Done ∷ []

abbrev pub first : Tree
first = f x

abbrev pub second : Tree
second = k x

abbrev pub names : GoalNames
names = record { conds = []; left = 2; right = 3 }

-- the table is x, tl(x), f(x), k(x), and the special set is the argument of g, with a certificate for each derivative
abbrev pub twins_alike : Proof
twins_alike = record {
  version = 1;
  table = x ∷ tl x ∷ f x ∷ k x ∷ [];
  places = place 2 0 ∷ [];
  certificates = (by 0 ∷ []) ∷ (by 1 ∷ []) ∷ [];
  blocks = record { goals = goal [] first second ∷ []; names = names ∷ []; steps = steps } ∷ [];
}

-- the same proof without the place
abbrev pub twins_bare : Proof
twins_bare = record twins_alike { places = []; certificates = [] }
