-- Theories and goals that try the definitions, with what a search of them finds.
use Rattle.std.specs.Prelude.{ℕ, zero, suc, true, List, [], ◌∷◌, ◌++◌, codes, Option, Some, None, Result, Ok, Err}
use Rattle.circ_term.specs.Tree.{Tree, Var, App, none, more}
use Rattle.circ_theory.specs.Theory.{Theory, goal}
use Rattle.circ_theory.specs.Examples.{plain_op}
use Rattle.circ_theory.specs.Goal.{Equation}
use Rattle.circ_theory.specs.Goal.{Goal}
use Rattle.circ_special.specs.declared.place.Place.{Place}
use Rattle.circ_special.specs.Special.{place}
use Rattle.circ_theory.specs.declared.way.Way.TheVariants.{Forth}
use Rattle.circ_proof.specs.Plain.{Equation_link, no_chain}
use Rattle.circ_proof.specs.Proof.{GoalNames}
use Rattle.circ_plain_search.specs.Search.{Limits, Standing, Ending, turn, start}
use Rattle.circ_plain_search.specs.Numbering.{Found, Special, special, found_of}

-- the name of a goal without conditions
abbrev pub plain_name : (left right : ℕ) → GoalNames
plain_name l r = record { conds = []; left = l; right = r }

-- what is found, where the search ends within so many turns
abbrev pub found_within : (turns : ℕ) → Theory → Special → Limits → Result Standing Ending → Option Found
found_within n th s l (Err e) = Some (found_of s e)
found_within zero th s l (Ok st) = None
found_within (suc n) th s l (Ok st) = found_within n th s l (turn th s.places l st)

abbrev pub limits : (steps derives : ℕ) → Limits
limits steps derives = record { steps = steps; derives = derives }

-- the search of these blocks, within twenty turns
abbrev pub search : Theory → Special → Limits → List (List Goal) → Option Found
search th s l blocks = found_within 20 th s l (Ok (start l blocks))

abbrev pub equation : Tree → Tree → Equation
equation l r = record { left = l; right = r; conds = []; exec = true }

abbrev pub constant : (op sort : ℕ) → Tree
constant f s = App f s none

abbrev pub on_one : (op sort : ℕ) → Tree → Tree
on_one f s t = App f s (more t none)

abbrev pub on_two : (op sort : ℕ) → Tree → Tree → Tree
on_two f s t u = App f s (more t (more u none))

-- streams of bits: sort 0 is Bit, and sort 1 is Stream

abbrev pub zero_bit : Tree
zero_bit = constant 0 0

abbrev pub one_bit : Tree
one_bit = constant 1 0

abbrev pub plus : Tree → Tree → Tree
plus s t = on_two 2 0 s t

abbrev pub hd : Tree → Tree
hd t = on_one 3 0 t

abbrev pub tl : Tree → Tree
tl t = on_one 4 1 t

abbrev pub zeros : Tree
zeros = constant 5 1

abbrev pub ones : Tree
ones = constant 6 1

abbrev pub odd : Tree → Tree
odd t = on_one 7 1 t

abbrev pub zip : Tree → Tree → Tree
zip s t = on_two 8 1 s t

abbrev pub sum : Tree → Tree → Tree
sum s t = on_two 9 1 s t

abbrev pub f : Tree → Tree
f t = on_one 10 1 t

abbrev pub g : Tree → Tree
g t = on_one 11 1 t

abbrev pub x : Tree
x = Var 0 0

abbrev pub s : Tree
s = Var 0 1

abbrev pub t : Tree
t = Var 1 1

abbrev pub bits : Theory
bits = record {
  name = codes "B";
  signature = record {
    sorts = codes "Bit" ∷ codes "Stream" ∷ [];
    ops = plain_op (codes "0") [] 0 ∷ plain_op (codes "1") [] 0 ∷ plain_op (codes "+") (0 ∷ 0 ∷ []) 0 ∷ plain_op (codes "hd") (1 ∷ []) 0
        ∷ plain_op (codes "tl") (1 ∷ []) 1 ∷ plain_op (codes "zeros") [] 1 ∷ plain_op (codes "ones") [] 1 ∷ plain_op (codes "odd") (1 ∷ []) 1
        ∷ plain_op (codes "zip") (1 ∷ 1 ∷ []) 1 ∷ plain_op (codes "+") (1 ∷ 1 ∷ []) 1 ∷ [];
  };
  variables = [];
  equations = equation (plus zero_bit x) x ∷ equation (plus x zero_bit) x ∷ equation (plus one_bit one_bit) zero_bit
      ∷ equation (hd zeros) zero_bit ∷ equation (tl zeros) zeros ∷ equation (hd ones) one_bit ∷ equation (tl ones) ones
      ∷ equation (hd (odd s)) (hd s) ∷ equation (tl (odd s)) (odd (tl (tl s))) ∷ equation (hd (zip s t)) (hd s) ∷ equation (tl (zip s t)) (zip t (tl s))
      ∷ equation (hd (sum s t)) (plus (hd s) (hd t)) ∷ equation (tl (sum s t)) (sum (tl s) (tl t)) ∷ [];
  derivatives = record { hole = 1; body = hd s } ∷ record { hole = 1; body = tl s } ∷ [];
  cases = record { sort = 0; constants = 0 ∷ 1 ∷ [] } ∷ [];
}

-- both arguments of zip and of the sum of streams; no row uses their certificates
abbrev pub bits_places : List Place
bits_places = place 8 0 ∷ place 8 1 ∷ place 9 0 ∷ place 9 1 ∷ []

abbrev pub bits_set : Special
bits_set = special bits_places []

-- a stream in its odd and even parts
abbrev pub parts_goal : Goal
parts_goal = goal [] (zip (odd s) (odd (tl s))) s

-- the odd part of a zip
abbrev pub odd_zip : Tree
odd_zip = odd (zip s t)

-- bits with two functions f and g, each of which adds the stream to the function of it
abbrev pub adders : Theory
adders = record bits {
  signature = record bits.signature { ops = bits.signature.ops ++ plain_op (codes "f") (1 ∷ []) 1 ∷ plain_op (codes "g") (1 ∷ []) 1 ∷ [] };
  equations = bits.equations
      ++ equation (hd (f s)) (hd s) ∷ equation (tl (f s)) (sum s (f s)) ∷ equation (hd (g s)) (hd s) ∷ equation (tl (g s)) (sum s (g s)) ∷ [];
}

-- the second argument of the sum is a place, as two equations certify
abbrev pub adders_set : Special
adders_set = special (place 9 1 ∷ []) ((Equation_link 11 Forth [] (t ∷ s ∷ []) no_chain ∷ []) ∷ (Equation_link 12 Forth [] (t ∷ s ∷ []) no_chain ∷ []) ∷ [])

abbrev pub adders_goal : Goal
adders_goal = goal [] (f s) (g s)

-- streams of numbers: sort 0 is Nat, sort 1 is Stream, the operators are hd, tl, z, s, nat and nat2

abbrev pub z : Tree
z = constant 2 0

abbrev pub next : Tree → Tree
next n = on_one 3 0 n

abbrev pub nat : Tree → Tree
nat n = on_one 4 1 n

abbrev pub nat2 : Tree → Tree
nat2 n = on_one 5 1 n

abbrev pub numbers : Theory
numbers = record {
  name = codes "N";
  signature = record {
    sorts = codes "Nat" ∷ codes "Stream" ∷ [];
    ops = plain_op (codes "hd") (1 ∷ []) 0 ∷ plain_op (codes "tl") (1 ∷ []) 1 ∷ plain_op (codes "z") [] 0 ∷ plain_op (codes "s") (0 ∷ []) 0
        ∷ plain_op (codes "nat") (0 ∷ []) 1 ∷ plain_op (codes "nat2") (0 ∷ []) 1 ∷ [];
  };
  variables = [];
  equations = equation (on_one 0 0 (nat x)) x ∷ equation (on_one 1 1 (nat x)) (nat (next x)) ∷ equation (on_one 0 0 (nat2 x)) x
      ∷ equation (on_one 1 1 (nat2 x)) (nat2 (next x)) ∷ [];
  derivatives = record { hole = 1; body = on_one 0 0 s } ∷ record { hole = 1; body = on_one 1 1 s } ∷ [];
  cases = [];
}

abbrev pub from_zero : Goal
from_zero = goal [] (nat z) (nat2 z)
