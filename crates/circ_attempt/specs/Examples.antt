-- Words with sums, products and a derivative, and goals that try the definitions.
use Rattle.std.specs.Prelude.{ℕ, zero, suc, Bool, true, false, List, [], ◌∷◌, codes, Option, Some, None, Result, Ok, Err}
use Rattle.circ_term.specs.Tree.{Tree, Var}
use Rattle.circ_theory.specs.Theory.{Theory, goal}
use Rattle.circ_theory.specs.Examples.{plain_op}
use Rattle.circ_theory.specs.Goal.{Goal}
use Rattle.circ_special.specs.Special.{place}
use Rattle.circ_plain_search.specs.Examples.{equation, constant, on_one, on_two}
use Rattle.circ_plain_search.specs.Numbering.{Found, Special, special}
use Rattle.circ_plain_search.specs.Search.{Ending}
use Rattle.circ_conditional_search.specs.Examples.{manner}
use Rattle.circ_conditional_search.specs.Versions.{versioned_found}
use Rattle.circ_attempt.specs.RewritingSearch.{first_going}
use Rattle.circ_attempt.specs.Search.{Conduct, Going, turn_rewriting}

-- what is found, where the search ends within so many turns
abbrev pub found_by_rewriting : (turns : ℕ) → Theory → Special → Conduct → Result Going Ending → Option Found
found_by_rewriting n th s c (Err e) = Some (versioned_found s e)
found_by_rewriting zero th s c (Ok x) = None
found_by_rewriting (suc n) th s c (Ok x) = found_by_rewriting n th s c (turn_rewriting th s.places c x)

-- the search of these blocks, within twenty turns
abbrev pub search_rewriting : Theory → Special → Conduct → List (List Goal) → Option Found
search_rewriting th s c blocks = found_by_rewriting 20 th s c (Ok (first_going c blocks))

abbrev pub conduct : (rewrite : Bool) → (steps derives : ℕ) → Conduct
conduct on steps derives = record { manner = manner steps derives false; rewrite = on }

-- ---- one sort: sums, which are associative and commutative, products, a derivative d, and the empty word 0

abbrev pub add : Tree → Tree → Tree
add x y = on_two 0 0 x y

abbrev pub word : Tree → Tree → Tree
word x y = on_two 1 0 x y

abbrev pub d : Tree → Tree
d x = on_one 2 0 x

abbrev pub no_word : Tree
no_word = constant 3 0

abbrev pub p : Tree
p = Var 0 0

abbrev pub q : Tree
q = Var 1 0

abbrev pub r : Tree
r = Var 2 0

abbrev pub s : Tree
s = Var 3 0

-- d(P + Q) = d(P) + d(Q), d(P ; Q) = (d(P) ; Q) + (P ; d(Q)), d(0) = 0, 0 + P = P
abbrev pub words : Theory
words = record {
  name = codes "WORDS";
  signature = record {
    sorts = codes "W" ∷ [];
    ops = record (plain_op (codes "+") (0 ∷ 0 ∷ []) 0) { assoc = true; comm = true } ∷ plain_op (codes ";") (0 ∷ 0 ∷ []) 0
        ∷ plain_op (codes "d") (0 ∷ []) 0 ∷ plain_op (codes "0") [] 0 ∷ [];
  };
  variables = [];
  equations = equation (d (add p q)) (add (d p) (d q)) ∷ equation (d (word p q)) (add (word (d p) q) (word p (d q)))
      ∷ equation (d no_word) no_word ∷ equation (add no_word p) p ∷ [];
  derivatives = record { hole = 0; body = d p } ∷ [];
  cases = [];
}

-- both places of sums and products; no row uses their certificates
abbrev pub words_set : Special
words_set = special (place 0 0 ∷ place 0 1 ∷ place 1 0 ∷ place 1 1 ∷ []) []

abbrev pub in_words : (rewrite : Bool) → (steps derives : ℕ) → List (List Goal) → Option Found
in_words on steps derives blocks = search_rewriting words words_set (conduct on steps derives) blocks

-- ---- goals

-- 0 ; P = 0
abbrev pub vanishing : Goal
vanishing = goal [] (word no_word p) no_word

-- 0 = 0 ; P
abbrev pub vanishing_turned : Goal
vanishing_turned = goal [] no_word (word no_word p)

-- P ; (Q + R) = (P ; Q) + (P ; R)
abbrev pub spread : Goal
spread = goal [] (word p (add q r)) (add (word p q) (word p r))

-- P ; (Q + R + S) = (P ; Q) + (P ; R) + (P ; S)
abbrev pub spread_wide : Goal
spread_wide = goal [] (word p (add q (add r s))) (add (word p q) (add (word p r) (word p s)))

-- S + P ; (Q + R) = (P ; Q) + (S + (P ; R))
abbrev pub spread_beside : Goal
spread_beside = goal [] (add s (word p (add q r))) (add (word p q) (add s (word p r)))

-- P ; Q = Q ; P
abbrev pub turned_words : Goal
turned_words = goal [] (word p q) (word q p)

-- (P + Q) ; R = (R ; P) + (R ; Q)
abbrev pub spread_turned : Goal
spread_turned = goal [] (word (add p q) r) (add (word r p) (word r q))

-- P ; Q = d(P) ; Q, which can be used again and again
abbrev pub growing : Goal
growing = goal [] (word p q) (word (d p) q)

-- Q ; P = d(P), which is not found
abbrev pub one_word : Goal
one_word = goal [] (word q p) (d p)

-- the sum of so many words more, which is none
abbrev pub many : (more : ℕ) → Tree
many zero = word q p
many (suc n) = add (word q p) (many n)

abbrev pub many_words : (more : ℕ) → Goal
many_words n = goal [] (many n) (d p)

-- P ; d(Q) = d(Q) ; P, which leads in a circle where both are derived
abbrev pub circling : Goal
circling = goal [] (word p (d q)) (word (d q) p)

-- d(P) ; d(Q) = d(R), which is not found
abbrev pub two_derived : Goal
two_derived = goal [] (word (d p) (d q)) (d r)
