-- More examples, by computation: Simplify, cases within cases, a hypothesis that is used backwards, and what comes first where units and terms run out.
use Rattle.std.specs.Prelude.{◌≡◌, ℕ, List, [], ◌∷◌, zero, suc, codes, refl}
use Rattle.circ_term.specs.Tree.{Tree, Var}
use Rattle.circ_term.specs.Limits.{Deep}
use Rattle.circ_theory.specs.Theory.{Theory, goal}
use Rattle.circ_theory.specs.Examples.{plain_op}
use Rattle.circ_theory.specs.declared.way.Way.{Way}
use Rattle.circ_theory.specs.declared.way.Way.TheVariants.{Forth, Back}
use Rattle.circ_proof.specs.Plain.{LinkOf, Equation_link, Hypothesis_link, Assumption_link, no_chain, ChainOf, WhyOf, Same_why, Split_why, no_why, more_whys}
use Rattle.circ_proof.specs.Rules.{Simplify, Reduce, Done}
use Rattle.circ_proof.specs.Proof.{Proof}
use Rattle.circ_expansion.specs.Pieces.{Piece, Pieces, Parts, Equation_piece, Assumption_piece, Cases_piece, no_piece, more_pieces, no_part, more_parts}
use Rattle.circ_expansion.specs.Expand.{Yields, Long, Past, expansion}
use Rattle.circ_expansion.specs.Examples.{one, constant, equation, between}

-- ---- two values

abbrev pub flip : Tree → Tree
flip t = one 2 0 t

abbrev pub off : Tree
off = constant 0 0

abbrev pub on_value : Tree
on_value = constant 1 0

abbrev pub bit : Tree
bit = Var 0 0

abbrev pub flips : Theory
flips = record {
  name = codes "FLIP";
  signature = record {
    sorts = codes "Bit" ∷ [];
    ops = plain_op (codes "0") [] 0 ∷ plain_op (codes "1") [] 0 ∷ plain_op (codes "not") (0 ∷ []) 0 ∷ [];
  };
  variables = [];
  equations = equation (flip off) on_value ∷ equation (flip on_value) off ∷ [];
  derivatives = [];
  cases = record { sort = 0; constants = 0 ∷ 1 ∷ [] } ∷ [];
}

abbrev pub both : List (LinkOf ℕ) → List (LinkOf ℕ) → ChainOf ℕ
both ls rs = record { left = ls; right = rs }

abbrev pub by_equation_at : (number : ℕ) (path : List ℕ) → LinkOf ℕ
by_equation_at number path = Equation_link number Forth path [] no_chain

-- in the case of one value both sides become it: the one by two equations
abbrev pub value_why : (first second : ℕ) → WhyOf ℕ
value_why first second =
    Same_why (both (Assumption_link 0 Forth (0 ∷ 0 ∷ []) ∷ by_equation_at first (0 ∷ []) ∷ by_equation_at second [] ∷ []) (Assumption_link 0 Forth [] ∷ []))

-- the double negation
abbrev pub twice_why : WhyOf ℕ
twice_why = Split_why (both [] []) 0 (more_whys (value_why 0 1) (more_whys (value_why 1 0) no_why))

-- by the double negation, for not(x)
abbrev pub by_twice : Way → WhyOf ℕ
by_twice way = Same_why (both (Hypothesis_link 0 way [] (1 ∷ []) no_chain ∷ []) [])

-- not(not(x)) = x in each case; not(not(not(x))) = not(x) in each case, by it; not(x) = not(not(not(x))), by it; not(not(0)) = 0 with a Simplify
abbrev pub flipped : Proof
flipped = record {
  version = 1;
  table = bit ∷ flip bit ∷ flip (flip bit) ∷ flip (flip (flip bit)) ∷ off ∷ flip off ∷ flip (flip off) ∷ [];
  places = [];
  certificates = [];
  blocks = record { goals = goal [] (flip (flip bit)) bit ∷ []; names = between 2 0 ∷ []; steps = Reduce twice_why ∷ Done ∷ [] }
      ∷ record {
        goals = goal [] (flip (flip (flip bit))) (flip bit) ∷ [];
        names = between 3 1 ∷ [];
        steps = Reduce (Split_why (both [] []) 0 (more_whys (by_twice Forth) (more_whys (by_twice Forth) no_why))) ∷ Done ∷ [];
      }
      ∷ record { goals = goal [] (flip bit) (flip (flip (flip bit))) ∷ []; names = between 1 3 ∷ []; steps = Reduce (by_twice Back) ∷ Done ∷ [] }
      ∷ record {
        goals = goal [] (flip (flip off)) off ∷ [];
        names = between 6 4 ∷ [];
        steps = Simplify (both (by_equation_at 0 (0 ∷ []) ∷ []) []) ∷ Reduce (Same_why (both (by_equation_at 1 [] ∷ []) [])) ∷ Done ∷ [];
      }
      ∷ [];
}

abbrev pub single : Piece → Pieces
single x = more_pieces x no_piece

-- the pieces for one value, by the assumption of this number
abbrev pub value_pieces : (number first second : ℕ) → Pieces
value_pieces number first second =
    more_pieces (Assumption_piece number Forth (0 ∷ 0 ∷ []))
    (more_pieces (Equation_piece first Forth (0 ∷ []) [])
    (more_pieces (Equation_piece second Forth [] [])
    (single (Assumption_piece number Back []))))

abbrev pub value_parts : (number : ℕ) → Parts
value_parts number = more_parts (value_pieces number 0 1) (more_parts (value_pieces number 1 0) no_part)

-- units: Ex, the cases, four links in each
pub cases_row : expansion 100 flips flipped 0 [] ≡ Yields (single (Cases_piece bit (value_parts 0))) 90
cases_row = refl

-- within the cases of x those of not(x), whose assumptions are the second ones
abbrev pub inner_cases : Pieces
inner_cases = single (Cases_piece (flip bit) (value_parts 1))

pub nested_row : expansion 100 flips flipped 1 [] ≡ Yields (single (Cases_piece bit (more_parts inner_cases (more_parts inner_cases no_part)))) 78
nested_row = refl

-- from the end to the beginning, in the same order of cases
abbrev pub value_back : (first second : ℕ) → Pieces
value_back first second =
    more_pieces (Assumption_piece 0 Forth [])
    (more_pieces (Equation_piece second Back [] [])
    (more_pieces (Equation_piece first Back (0 ∷ []) [])
    (single (Assumption_piece 0 Back (0 ∷ 0 ∷ [])))))

pub back_row : expansion 100 flips flipped 2 [] ≡
    Yields (single (Cases_piece (flip bit) (more_parts (value_back 0 1) (more_parts (value_back 1 0) no_part)))) 89
back_row = refl

-- units: Ex, a link, Ex of the new goal, a link
pub simplified_row : expansion 4 flips flipped 3 [] ≡ Yields (more_pieces (Equation_piece 0 Forth (0 ∷ []) []) (single (Equation_piece 1 Forth [] []))) 0
simplified_row = refl

-- with one unit fewer
pub simplified_long : expansion 3 flips flipped 3 [] ≡ Long
simplified_long = refl

-- ---- what comes first: f(x) and g(x) are both 500 times s on x, and x is 600 times s on c

abbrev pub times : ℕ → Tree → Tree
times zero t = t
times (suc n) t = one 1 0 (times n t)

abbrev pub deep : Theory
deep = record {
  name = codes "DEEP";
  signature = record {
    sorts = codes "S" ∷ [];
    ops = plain_op (codes "c") [] 0 ∷ plain_op (codes "s") (0 ∷ []) 0 ∷ plain_op (codes "f") (0 ∷ []) 0 ∷ plain_op (codes "g") (0 ∷ []) 0 ∷ [];
  };
  variables = [];
  equations = equation (one 2 0 bit) (times 500 bit) ∷ equation (one 3 0 bit) (times 500 bit) ∷ [];
  derivatives = [];
  cases = [];
}

abbrev pub high : Tree
high = times 600 (constant 0 0)

abbrev pub by_lemma : Proof
by_lemma = record {
  version = 1;
  table = bit ∷ high ∷ [];
  places = [];
  certificates = [];
  blocks = record {
    goals = goal [] (one 2 0 bit) (one 3 0 bit) ∷ [];
    names = between 0 0 ∷ [];
    steps = Reduce (Same_why (both (Equation_link 0 Forth [] (0 ∷ []) no_chain ∷ []) (Equation_link 1 Forth [] (0 ∷ []) no_chain ∷ []))) ∷ Done ∷ [];
  } ∷ record {
    goals = goal [] (one 2 0 high) (one 3 0 high) ∷ [];
    names = between 0 0 ∷ [];
    steps = Reduce (Same_why (both (Hypothesis_link 0 Forth [] (1 ∷ []) no_chain ∷ []) [])) ∷ Done ∷ [];
  } ∷ [];
}

-- the third unit is the link of the lemma, whose term is too deep
pub deep_row : expansion 3 deep by_lemma 1 [] ≡ Past (Deep 1001)
deep_row = refl

-- at one unit the count is tested first
pub count_first : expansion 2 deep by_lemma 1 [] ≡ Long
count_first = refl
