-- In_row 2 of `differ-and-expand`, and the second file of the proof format, by computation.
use Rattle.std.specs.Prelude.{◌≡◌, ℕ, List, [], ◌∷◌, codes, true, refl}
use Rattle.circ_term.specs.Tree.{Tree, Var, App, none, more}
use Rattle.circ_theory.specs.Signature.{Operator}
use Rattle.circ_theory.specs.Theory.{Theory, goal}
use Rattle.circ_theory.specs.Examples.{plain_op}
use Rattle.circ_theory.specs.Goal.{Equation}
use Rattle.circ_theory.specs.declared.way.Way.TheVariants.{Forth, Back}
use Rattle.circ_special.specs.Special.{place}
use Rattle.circ_proof.specs.Plain.{LinkOf, Equation_link, Hypothesis_link, Content_link, no_chain, ChainOf, Same_why}
use Rattle.circ_proof.specs.Rules.{Reduce, Derive, Done}
use Rattle.circ_proof.specs.Proof.{GoalNames, Proof}
use Rattle.circ_entry.specs.Entries.{Written, written_entry}
use Rattle.circ_expansion.specs.Pieces.{Piece, Pieces, Equation_piece, Content_piece, Assumption_piece, Cases_piece, no_piece, more_pieces}
use Rattle.circ_expansion.specs.Expand.{Spending, Yields, Long, Past, Stopped, expansion}

abbrev pub one : ℕ → ℕ → Tree → Tree
one f s t = App f s (more t none)

abbrev pub two : ℕ → ℕ → Tree → Tree → Tree
two f s t u = App f s (more t (more u none))

abbrev pub constant : ℕ → ℕ → Tree
constant f s = App f s none

abbrev pub equation : Tree → Tree → Equation
equation s t = record { left = s; right = t; conds = []; exec = true }

abbrev pub hd : Tree → Tree
hd t = one 3 0 t

abbrev pub tl : Tree → Tree
tl t = one 4 1 t

abbrev pub s : Tree
s = Var 0 1

abbrev pub t : Tree
t = Var 1 1

abbrev pub bits : Theory
bits = record {
  name = codes "B";
  signature = record {
    sorts = codes "Bit" ∷ codes "Stream" ∷ [];
    ops = plain_op (codes "0") [] 0 ∷ plain_op (codes "1") [] 0 ∷ plain_op (codes "+") (0 ∷ 0 ∷ []) 0
        ∷ plain_op (codes "hd") (1 ∷ []) 0 ∷ plain_op (codes "tl") (1 ∷ []) 1
        ∷ plain_op (codes "zeros") [] 1 ∷ plain_op (codes "ones") [] 1 ∷ plain_op (codes "odd") (1 ∷ []) 1
        ∷ plain_op (codes "zip") (1 ∷ 1 ∷ []) 1 ∷ plain_op (codes "+") (1 ∷ 1 ∷ []) 1
        ∷ plain_op (codes "f") (1 ∷ []) 1 ∷ plain_op (codes "g") (1 ∷ []) 1 ∷ [];
  };
  variables = [];
  equations = equation (two 2 0 (constant 0 0) (Var 0 0)) (Var 0 0)
      ∷ equation (two 2 0 (Var 0 0) (constant 0 0)) (Var 0 0)
      ∷ equation (two 2 0 (constant 1 0) (constant 1 0)) (constant 0 0)
      ∷ equation (hd (constant 5 1)) (constant 0 0)
      ∷ equation (tl (constant 5 1)) (constant 5 1)
      ∷ equation (hd (constant 6 1)) (constant 1 0)
      ∷ equation (tl (constant 6 1)) (constant 6 1)
      ∷ equation (hd (one 7 1 s)) (hd s)
      ∷ equation (tl (one 7 1 s)) (one 7 1 (tl (tl s)))
      ∷ equation (hd (two 8 1 s t)) (hd s)
      ∷ equation (tl (two 8 1 s t)) (two 8 1 t (tl s))
      ∷ equation (hd (two 9 1 s t)) (two 2 0 (hd s) (hd t))
      ∷ equation (tl (two 9 1 s t)) (two 9 1 (tl s) (tl t))
      ∷ equation (hd (one 10 1 s)) (hd s)
      ∷ equation (tl (one 10 1 s)) (two 9 1 s (one 10 1 s))
      ∷ equation (hd (one 11 1 s)) (hd s)
      ∷ equation (tl (one 11 1 s)) (two 9 1 s (one 11 1 s))
      ∷ [];
  derivatives = record { hole = 1; body = hd s } ∷ record { hole = 1; body = tl s } ∷ [];
  cases = record { sort = 0; constants = 0 ∷ 1 ∷ [] } ∷ [];
}

abbrev pub between : ℕ → ℕ → GoalNames
between l r = record { conds = []; left = l; right = r }

abbrev pub left_links : List (LinkOf ℕ) → ChainOf ℕ
left_links ls = record { left = ls; right = [] }

abbrev pub zipped : Proof
zipped = record {
  version = 1;
  table = s ∷ one 7 1 s ∷ tl s ∷ one 7 1 (tl s) ∷ two 8 1 (one 7 1 s) (one 7 1 (tl s)) ∷ [];
  places = [];
  certificates = [];
  blocks = record {
    goals = goal [] (two 8 1 (one 7 1 s) (one 7 1 (tl s))) s ∷ [];
    names = between 4 0 ∷ [];
    steps = Derive
        ∷ Reduce (Same_why (left_links (Equation_link 9 Forth [] (1 ∷ 3 ∷ []) no_chain ∷ Equation_link 7 Forth [] (0 ∷ []) no_chain ∷ [])))
        ∷ Reduce (Same_why (left_links (Equation_link 10 Forth [] (1 ∷ 3 ∷ []) no_chain ∷ Equation_link 8 Forth (1 ∷ []) (0 ∷ []) no_chain
        ∷ Hypothesis_link 0 Forth [] (2 ∷ []) no_chain ∷ [])))
        ∷ Done ∷ [];
  } ∷ [];
}

abbrev pub entry : ℕ → Written
entry k = written_entry k []

-- with the words 1 1 0
pub row_2 : expansion 100000 bits zipped 0 (entry 1 ∷ entry 0 ∷ []) ≡
    Yields (
    more_pieces (Equation_piece 10 Forth (0 ∷ []) (one 7 1 s ∷ one 7 1 (tl s) ∷ []))
    (more_pieces (Equation_piece 8 Forth (0 ∷ 1 ∷ []) (s ∷ []))
    (more_pieces (Equation_piece 9 Forth [] (one 7 1 (tl s) ∷ one 7 1 (tl (tl s)) ∷ []))
    (more_pieces (Equation_piece 7 Forth [] (tl s ∷ [])) no_piece)))
    ) 99991
row_2 = refl

-- units: Ex, Ex of the child, two links, the use of Ly, Ex, Ex of the child, two links; with one fewer it is too long
pub row_2_long : expansion 8 bits zipped 0 (entry 1 ∷ entry 0 ∷ []) ≡ Long
row_2_long = refl

abbrev pub u : Tree
u = Var 0 1

-- the second file of the proof format: a place and its certificates
abbrev pub summed : Proof
summed = record {
  version = 1;
  table = Var 1 1 ∷ u ∷ one 10 1 u ∷ one 11 1 u ∷ [];
  places = place 9 1 ∷ [];
  certificates = (Equation_link 11 Forth [] (0 ∷ 1 ∷ []) no_chain ∷ []) ∷ (Equation_link 12 Forth [] (0 ∷ 1 ∷ []) no_chain ∷ []) ∷ [];
  blocks = record {
    goals = goal [] (one 10 1 u) (one 11 1 u) ∷ [];
    names = between 2 3 ∷ [];
    steps = Derive
        ∷ Reduce (Same_why (record { left = Equation_link 13 Forth [] (1 ∷ []) no_chain ∷ []; right = Equation_link 15 Forth [] (1 ∷ []) no_chain ∷ [] }))
        ∷ Reduce (Same_why (record {
          left = Equation_link 14 Forth [] (1 ∷ []) no_chain ∷ Hypothesis_link 0 Forth (1 ∷ []) (1 ∷ []) no_chain ∷ [];
          right = Equation_link 16 Forth [] (1 ∷ []) no_chain ∷ [];
        }))
        ∷ Done ∷ [];
  } ∷ [];
}

-- hd(tl(f(S))) = hd(tl(g(S))): the certificate for hd, forwards and back
pub row_8 : expansion 100000 bits summed 0 (entry 1 ∷ entry 0 ∷ []) ≡
    Yields (
    more_pieces (Equation_piece 14 Forth (0 ∷ []) (u ∷ []))
    (more_pieces (Equation_piece 11 Forth [] (u ∷ one 10 1 u ∷ []))
    (more_pieces (Equation_piece 13 Forth (1 ∷ []) (u ∷ []))
    (more_pieces (Equation_piece 15 Back (1 ∷ []) (u ∷ []))
    (more_pieces (Equation_piece 11 Back [] (u ∷ one 11 1 u ∷ []))
    (more_pieces (Equation_piece 16 Back (0 ∷ []) (u ∷ [])) no_piece)))))
    ) 99988
row_8 = refl

abbrev pub line_of : Piece → ℕ × List ℕ
line_of (Equation_piece number way path terms) = (number, path)
line_of (Content_piece op path old new by) = (op, path)
line_of (Assumption_piece number way path) = (number, path)
line_of (Cases_piece term parts) = (0, [])

abbrev pub lines_of : Pieces → List (ℕ × List ℕ)
lines_of no_piece = []
lines_of (more_pieces x xs) = line_of x ∷ lines_of xs

abbrev pub lines_in : Spending Pieces → List (ℕ × List ℕ)
lines_in (Yields xs n) = lines_of xs
lines_in Long = []
lines_in (Past l) = []
lines_in Stopped = []

-- one tl deeper: the certificate for tl, a hidden instance at a special path, and the place with an entry below it
pub row_8_deeper : lines_in (expansion 100000 bits summed 0 (entry 1 ∷ entry 1 ∷ entry 0 ∷ [])) ≡
    (14, 0 ∷ 0 ∷ []) ∷ (12, 0 ∷ []) ∷ (11, []) ∷ (14, 1 ∷ 0 ∷ []) ∷ (11, 1 ∷ []) ∷ (13, 1 ∷ 1 ∷ [])
    ∷ (15, 1 ∷ 1 ∷ []) ∷ (11, 1 ∷ []) ∷ (16, 1 ∷ 0 ∷ []) ∷ (11, []) ∷ (12, 0 ∷ []) ∷ (16, 0 ∷ 0 ∷ []) ∷ []
row_8_deeper = refl

-- ---- content under a substitution: f(X, X) = X by content of an operator that is associative and idempotent, used on a * b, of which the content of
-- (a * b) * (a * b) is [a, b, a, b] and not that of a * b

abbrev pub join : Operator
join = record (plain_op (codes "*") (0 ∷ 0 ∷ []) 0) { assoc = true; idem = true }

abbrev pub idempotents : Theory
idempotents = record {
  name = codes "I";
  signature = record { sorts = codes "S" ∷ []; ops = plain_op (codes "a") [] 0 ∷ plain_op (codes "b") [] 0 ∷ join ∷ [] };
  variables = [];
  equations = [];
  derivatives = [];
  cases = [];
}

abbrev pub v : Tree
v = Var 0 0

abbrev pub ab : Tree
ab = two 2 0 (constant 0 0) (constant 1 0)

abbrev pub squares : Proof
squares = record {
  version = 1;
  table = v ∷ two 2 0 v v ∷ constant 0 0 ∷ constant 1 0 ∷ ab ∷ two 2 0 ab ab ∷ [];
  places = [];
  certificates = [];
  blocks = record {
    goals = goal [] (two 2 0 v v) v ∷ [];
    names = between 1 0 ∷ [];
    steps = Reduce (Same_why (left_links (Content_link 2 [] 0 ∷ []))) ∷ Done ∷ [];
  } ∷ record {
    goals = goal [] (two 2 0 ab ab) ab ∷ [];
    names = between 5 4 ∷ [];
    steps = Reduce (Same_why (left_links (Hypothesis_link 0 Forth [] (4 ∷ []) no_chain ∷ []))) ∷ Done ∷ [];
  }
      ∷ [];
}

pub content_row : expansion 100000 idempotents squares 1 [] ≡
    Yields (more_pieces (Content_piece 2 [] (two 2 0 v v) v (record { number = 0; sort = 0; term = ab } ∷ [])) no_piece) 99997
content_row = refl
