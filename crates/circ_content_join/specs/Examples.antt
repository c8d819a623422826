-- Six constants and an operator on two of them, and Joins that try the definitions.
use Rattle.std.specs.Prelude.{ℕ, Bool, true, false, List, [], ◌∷◌, codes, Option}
use Rattle.circ_term.specs.Tree.{Tree}
use Rattle.circ_theory.specs.Signature.{Signature}
use Rattle.circ_theory.specs.Theory.{goal}
use Rattle.circ_theory.specs.Examples.{plain_op}
use Rattle.circ_theory.specs.Goal.{Goal}
use Rattle.circ_theory.specs.declared.way.Way.TheVariants.{Forth}
use Rattle.circ_special.specs.Special.{place}
use Rattle.circ_special.specs.declared.place.Place.{Place}
use Rattle.circ_rewrite.specs.Norm.{Normal_form}
use Rattle.circ_conditional_norm.specs.Work.{Work}
use Rattle.circ_plain_search.specs.Examples.{constant, on_two}
use Rattle.circ_plain_search.specs.Joining.{use_with}
use Rattle.circ_content_join.specs.Joining.{joined_by_content}
use Rattle.circ_content_join.specs.Moves.{Move, Using, Regrouping}

abbrev pub a1 : Tree
a1 = constant 0 0

abbrev pub a2 : Tree
a2 = constant 1 0

abbrev pub a3 : Tree
a3 = constant 2 0

abbrev pub b1 : Tree
b1 = constant 3 0

abbrev pub b2 : Tree
b2 = constant 4 0

abbrev pub b3 : Tree
b3 = constant 5 0

abbrev pub plus : Tree → Tree → Tree
plus x y = on_two 6 0 x y

abbrev pub six : (assoc comm idem : Bool) → Signature
six a c i = record {
  sorts = codes "E" ∷ [];
  ops = plain_op (codes "a1") [] 0 ∷ plain_op (codes "a2") [] 0 ∷ plain_op (codes "a3") [] 0 ∷ plain_op (codes "b1") [] 0 ∷ plain_op (codes "b2") [] 0
      ∷ plain_op (codes "b3") [] 0 ∷ record (plain_op (codes "+") (0 ∷ 0 ∷ []) 0) { assoc = a; comm = c; idem = i } ∷ [];
}

abbrev pub is_equal : Tree → Tree → Goal
is_equal x y = goal [] x y

-- both places of the operator, and the first alone
abbrev pub both_places : List Place
both_places = place 6 0 ∷ place 6 1 ∷ []

abbrev pub one_place : List Place
one_place = place 6 0 ∷ []

-- Join with this signature, these places and these hypotheses
abbrev pub join_in : Signature → List Place → List Goal → (a b : Tree) → (budget : ℕ) → Work (Option (List Move))
join_in sig G H x y k = joined_by_content (λ l t. Normal_form t [] l) sig G H [] x y k

-- the same of sums that are associative and commutative
abbrev pub join_sums : List Goal → (a b : Tree) → (budget : ℕ) → Work (Option (List Move))
join_sums H x y k = join_in (six true true false) both_places H x y k

-- a hypothesis without variables is used, forth
abbrev pub uses : (number : ℕ) → (path : List ℕ) → (new : Tree) → Move
uses n q x = Using (use_with n Forth q [] x)

abbrev pub becomes : (path : List ℕ) → Tree → Move
becomes q x = Regrouping 6 q x
