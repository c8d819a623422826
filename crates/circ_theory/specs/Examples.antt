-- Examples that try the definitions.
use Rattle.std.specs.Prelude.{ℕ, List, [], ◌∷◌, ◌==◌, if◌then◌else◌, codes, true, false}
use Rattle.circ_term.specs.Tree.{Tree, Var, App, none, more}
use Rattle.circ_term.specs.Substitution.{Substitution}
use Rattle.circ_form.specs.declared.forms.Piece.TheVariants.{Word}
use Rattle.circ_theory.specs.declared.parts.Side.TheVariants.{Neither}
use Rattle.circ_theory.specs.Signature.{Operator}
use Rattle.circ_pairs.specs.declared.goals.Goal.{Goal}
use Rattle.circ_pairs.specs.Goal.{goal}
use Rattle.circ_theory.specs.Theory.{Theory}
use Rattle.circ_theory.specs.Experiment.{Entry}

-- an operator of one word
abbrev pub plain_op : List ℕ → List ℕ → ℕ → Operator
plain_op word args result = record { form = Word word ∷ []; args = args; result = result; prec = 0; side = Neither; assoc = false; comm = false; idem = false }

-- bits with a negation: sort 0 is Bit, the operators are 0, 1 and not
abbrev pub bits : Theory
bits = record {
  name = codes "NOT";
  signature = record { sorts = codes "Bit" ∷ []; ops = plain_op (codes "0") [] 0 ∷ plain_op (codes "1") [] 0 ∷ plain_op (codes "not") (0 ∷ []) 0 ∷ [] };
  variables = [];
  equations = record { left = App 2 0 (more (App 0 0 none) none); right = App 1 0 none; conds = []; exec = true }
      ∷ record { left = App 2 0 (more (App 1 0 none) none); right = App 0 0 none; conds = []; exec = true } ∷ [];
  derivatives = [];
  cases = [];
}

abbrev pub zero_bit : Tree
zero_bit = App 0 0 none

abbrev pub negation : Tree → Tree
negation t = App 2 0 (more t none)

-- streams of bits: sort 0 is Bit, sort 1 is Stream, the operator is hd, and hd of the hole is a derivative
abbrev pub streams : Theory
streams = record {
  name = codes "HD";
  signature = record { sorts = codes "Bit" ∷ codes "Stream" ∷ []; ops = plain_op (codes "hd") (1 ∷ []) 0 ∷ [] };
  variables = [];
  equations = [];
  derivatives = record { hole = 1; body = App 0 0 (more (Var 0 1) none) } ∷ [];
  cases = [];
}

-- the experiment that takes the head
abbrev pub head : Entry
head = record { derivative = record { hole = 1; body = App 0 0 (more (Var 0 1) none) }; parameters = Var }

-- variables 0 and 1 of a sort for one another
abbrev pub swapped : Substitution
swapped n s = if n == 0 then Var 1 s else if n == 1 then Var 0 s else Var n s

-- an operator on two variables of sort 0
abbrev pub on_variables : ℕ → ℕ → Tree
on_variables m n = App 5 0 (more (Var m 0) (more (Var n 0) none))

-- two sides without conditions
abbrev pub plain_goal : Tree → Tree → Goal
plain_goal s t = goal [] s t
