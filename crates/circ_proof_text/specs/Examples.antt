-- Examples that try the definitions.
use Rattle.std.specs.Prelude.{ℕ, List, [], ◌∷◌, ◌++◌, codes}
use Rattle.circ_term.specs.Tree.{Tree, Var, App, none, more}
use Rattle.circ_theory.specs.declared.way.Way.TheVariants.{Forth}
use Rattle.circ_special.specs.Special.{place}
use Rattle.circ_theory.specs.Pair.{pair_with}
use Rattle.circ_proof.specs.Plain.{LinkOf, Equation_link, Hypothesis_link, Assumption_link, more_links, no_link}
use Rattle.circ_proof.specs.Plain.{more_chains, no_chain, WhyOf, Same_why}
use Rattle.circ_theory.specs.Theory.{goal}
use Rattle.circ_proof.specs.Rules.{Reduce, Derive, Cases, Done}
use Rattle.circ_proof.specs.Proof.{Proof}
use Rattle.circ_grammar.specs.Machine.{goal_names}

abbrev pub by_links : (left right : List (LinkOf ℕ)) → WhyOf ℕ
by_links ls rs = Same_why (record { left = ls; right = rs })

-- Streams of bits: sort 1 is Stream, operator 4 is tl, 7 odd, 8 zip.

abbrev pub stream : Tree
stream = Var 0 1

abbrev pub on_stream : (op : ℕ) → Tree → Tree
on_stream f t = App f 1 (more t none)

abbrev pub zipped : Tree
zipped = App 8 1 (more (on_stream 7 stream) (more (on_stream 7 (on_stream 4 stream)) none))

-- zip(odd(S), odd(tl(S))) = S
abbrev pub zips : Proof
zips = record {
  version = 1;
  table = stream ∷ on_stream 7 stream ∷ on_stream 4 stream ∷ on_stream 7 (on_stream 4 stream) ∷ zipped ∷ [];
  places = [];
  certificates = [];
  blocks = record {
    goals = goal [] zipped stream ∷ [];
    names = goal_names 4 0 ∷ [];
    steps = Derive
        ∷ Reduce (by_links (Equation_link 9 Forth [] (1 ∷ 3 ∷ []) no_chain ∷ Equation_link 7 Forth [] (0 ∷ []) no_chain ∷ []) [])
        ∷ Reduce (by_links (Equation_link 10 Forth [] (1 ∷ 3 ∷ []) no_chain ∷ Equation_link 8 Forth (1 ∷ []) (0 ∷ []) no_chain ∷ Hypothesis_link 0 Forth [] (2 ∷ []) no_chain ∷ []) [])
        ∷ Done ∷ [];
  } ∷ [];
}

abbrev pub zips_text : List ℕ
zips_text =
    codes "circproof 1\nv 0 1\na 7 0\na 4 0\na 7 2\na 8 1 3\n"
    ++ codes "block\ngoal 4 0\nderive\n"
    ++ codes "reduce\nleft equation > 9 - 1 3\nleft equation > 7 - 0\nsame\n"
    ++ codes "reduce\nleft equation > 10 - 1 3\nleft equation > 8 1 0\nleft hypothesis > 0 - 2\nsame\n"
    ++ codes "done\nend\n"

-- Two sums f and g of streams, 10 and 11, are one: operator 9 is the sum, and its second argument is a special place.

abbrev pub sums : Proof
sums = record {
  version = 1;
  table = Var 1 1 ∷ Var 0 1 ∷ on_stream 10 (Var 0 1) ∷ on_stream 11 (Var 0 1) ∷ [];
  places = place 9 1 ∷ [];
  certificates = (Equation_link 11 Forth [] (0 ∷ 1 ∷ []) no_chain ∷ []) ∷ (Equation_link 12 Forth [] (0 ∷ 1 ∷ []) no_chain ∷ []) ∷ [];
  blocks = record {
    goals = goal [] (on_stream 10 (Var 0 1)) (on_stream 11 (Var 0 1)) ∷ [];
    names = goal_names 2 3 ∷ [];
    steps = Derive
        ∷ Reduce (by_links (Equation_link 13 Forth [] (1 ∷ []) no_chain ∷ []) (Equation_link 15 Forth [] (1 ∷ []) no_chain ∷ []))
        ∷ Reduce (by_links (Equation_link 14 Forth [] (1 ∷ []) no_chain ∷ Hypothesis_link 0 Forth (1 ∷ []) (1 ∷ []) no_chain ∷ [])
        (Equation_link 16 Forth [] (1 ∷ []) no_chain ∷ []))
        ∷ Done ∷ [];
  } ∷ [];
}

abbrev pub sums_text : List ℕ
sums_text =
    codes "circproof 1\nv 1 1\nv 0 1\na 10 1\na 11 1\nplace 9 1\n"
    ++ codes "cert\nleft equation > 11 - 0 1\ncert\nleft equation > 12 - 0 1\n"
    ++ codes "block\ngoal 2 3\nderive\n"
    ++ codes "reduce\nleft equation > 13 - 1\nright equation > 15 - 1\nsame\n"
    ++ codes "reduce\nleft equation > 14 - 1\nleft hypothesis > 0 1 1\nright equation > 16 - 1\nsame\n"
    ++ codes "done\nend\n"

-- a proof for a theory in which sort 1 has a derivative: a variable of this sort is itself
abbrev pub itself : Proof
itself = record {
  version = 1;
  table = stream ∷ [];
  places = [];
  certificates = [];
  blocks = record { goals = goal [] stream stream ∷ []; names = goal_names 0 0 ∷ []; steps = Derive ∷ Reduce (by_links [] []) ∷ Done ∷ [] } ∷ [];
}

-- if B = 1 then odd(S) = S: sort 0 is Bit, operator 1 the bit 1. The equation that is used has one condition, which is the goal's own.

abbrev pub bit : Tree
bit = Var 0 0

abbrev pub one_bit : Tree
one_bit = App 1 0 none

abbrev pub given_bit : Proof
given_bit = record {
  version = 2;
  table = stream ∷ bit ∷ one_bit ∷ on_stream 7 stream ∷ [];
  places = [];
  certificates = [];
  blocks = record {
    goals = goal (pair_with bit one_bit ∷ []) (on_stream 7 stream) stream ∷ [];
    names = record { conds = (1, 2) ∷ []; left = 3; right = 0 } ∷ [];
    steps = Cases 1
        ∷ Reduce (by_links (Equation_link 9 Forth [] (0 ∷ 1 ∷ []) (more_chains (more_links (Assumption_link 0 Forth []) no_link) no_link no_chain) ∷ []) [])
        ∷ Done ∷ [];
  } ∷ [];
}

abbrev pub given_bit_text : List ℕ
given_bit_text =
    codes "circproof 2\nv 0 1\nv 0 0\na 1\na 7 0\n"
    ++ codes "block\ngoal 3 0\ngiven 1 2\ncases 1\n"
    ++ codes "reduce\nleft equation > 9 - 0 1\nif\nleft assumption > 0 -\nsame\nsame\n"
    ++ codes "done\nend\n"

-- `itself` with a condition, of a variable of bits and itself
abbrev pub itself_given : Proof
itself_given = record {
  version = 2;
  table = stream ∷ bit ∷ [];
  places = [];
  certificates = [];
  blocks = record {
    goals = goal (pair_with bit bit ∷ []) stream stream ∷ [];
    names = record { conds = (1, 1) ∷ []; left = 0; right = 0 } ∷ [];
    steps = Derive ∷ Reduce (by_links [] []) ∷ Done ∷ [];
  } ∷ [];
}

-- seven splits inside one another, each of which wants two whys
abbrev pub seven_open : List ℕ
seven_open = 2 ∷ 2 ∷ 2 ∷ 2 ∷ 2 ∷ 2 ∷ 2 ∷ []
