-- Join of two terms, the lemma pass over a term, and what is split on.
use Rattle.std.specs.Prelude.{ℕ, zero, suc, ◌+◌, Bool, true, false, not, ◌==◌, ◌&&◌, if◌then◌else◌, nat_eq, List, [], ◌∷◌, ◌++◌, Option, Some, None, Result, Ok, Err}
use Rattle.std.specs.List.{list_any}
use Rattle.std.specs.Option.{option_or, option_map_or, unwrap_or}
use Rattle.circ_term.specs.Tree.{Tree, Trees, Var, App, none, more, sort_of, operator_number, replaced}
use Rattle.circ_term.specs.Limits.{Limit, first_limit, or_else}
use Rattle.circ_term.specs.Order.{is_same}
use Rattle.circ_term.specs.Substitution.{Substitution, instance}
use Rattle.circ_theory.specs.Theory.{Theory, Pair, sides}
use Rattle.circ_theory.specs.Variables.{Variable, variables_of, sorted}
use Rattle.circ_theory.specs.Observing.{cases_of}
use Rattle.circ_theory.specs.Goal.{Goal}
use Rattle.circ_theory.specs.declared.way.Way.{Way}
use Rattle.circ_theory.specs.declared.way.Way.TheVariants.{Forth, Back}
use Rattle.circ_special.specs.declared.place.Place.{Place}
use Rattle.circ_proof.specs.Plain.{LinkOf, ChainsOf, Hypothesis_link, no_chain}
use Rattle.circ_rewrite.specs.Matching.{image, matching, matches}
use Rattle.circ_rewrite.specs.Due.{rule_variables, terms_by}
use Rattle.circ_rewrite.specs.declared.parts.Rule.{Rule}
use Rattle.circ_rewrite.specs.declared.parts.RuleName.{RuleName}
use Rattle.circ_rewrite.specs.declared.parts.RuleName.TheVariants as name

-- Why a part of the search stops it: a rewrite step is due and none is left; a term passes a limit; or a case cannot be split further, with its two
-- sides and its assumptions.
pub data Stop : Type 0 where
  No_budget : Stop
  Past_limit : (limit : Limit) → Stop
  Not_split : (left right : Tree) (assumptions : List Pair) → Stop

abbrev pub and_then : {A B E : Type 0} → Result A E → (A → Result B E) → Result B E
and_then (Ok a) f = f a
and_then (Err e) f = Err e

-- each variable of a pair is given the subterm at its first occurrence, left side first
abbrev pub pair_matching : (p : Pair) → (a b : Tree) → Substitution
pair_matching p a b = λ n s. unwrap_or (option_or (image p.left a n s) (image p.right b n s)) (Var n s)

-- whether there is a substitution that makes the left side a and the right side b
abbrev pub pair_matches : (p : Pair) → (a b : Tree) → Bool
pair_matches p a b = is_same (instance (pair_matching p a b) p.left) a && is_same (instance (pair_matching p a b) p.right) b

-- the variables of a hypothesis and of its conditions, by number, then sort
abbrev pub hypothesis_variables : Goal → List Variable
hypothesis_variables h = sorted (variables_of h)

-- A hypothesis used at a path of the whole term: its number, its terms, the chains of its conditions, and the new subterm. One that is used has no condition.
pub record HypothesisUse : Type 0 where
  pub number : ℕ
  pub way : Way
  pub path : List ℕ
  pub terms : List Tree
  pub conds : ChainsOf Tree
  pub new : Tree

abbrev pub use_with : ℕ → Way → List ℕ → List Tree → Tree → HypothesisUse
use_with number way path terms new = record { number = number; way = way; path = path; terms = terms; conds = no_chain; new = new }

abbrev pub use_link : HypothesisUse → LinkOf Tree
use_link u = Hypothesis_link u.number u.way u.path u.terms u.conds

-- a hypothesis with its left side on a and its right side on b, at the path q; the new subterm is given
abbrev pub pair_use : ℕ → Way → Goal → List ℕ → (new a b : Tree) → Option HypothesisUse
pair_use n way h q new a b =
    if pair_matches (sides h) a b then Some (use_with n way q (terms_by (pair_matching (sides h) a b) (hypothesis_variables h)) new) else None

-- one hypothesis on a and b, and else the other way about
abbrev pub one_use : ℕ → Goal → List ℕ → (a b : Tree) → Option HypothesisUse
one_use n h q a b = option_or (pair_use n Forth h q b a b) (pair_use n Back h q b b a)

-- the first hypothesis that can be used, where the first has the number n
abbrev pub first_use : (n : ℕ) → List Goal → List ℕ → (a b : Tree) → Option HypothesisUse
first_use n [] q a b = None
first_use n (h ∷ hs) q a b = option_or (one_use n h q a b) (first_use (n + 1) hs q a b)

-- whether argument i of the operator f is a place of the set
abbrev pub is_place : List Place → (f i : ℕ) → Bool
is_place G f i = list_any (λ g. (g.op == f) && (g.arg == i)) G

-- equal terms need no link; else the first use is one link; else the arguments are looked at
abbrev pub meets : (same : Bool) → Option HypothesisUse → Option (List HypothesisUse) → Option (List HypothesisUse)
meets true u inside = Some []
meets false (Some u) inside = Some (u ∷ [])
meets false None inside = inside

-- an argument is equal, or stands at a place of the set and joins; and so the others
abbrev pub beside : (same at_place : Bool) → Option (List HypothesisUse) → Option (List HypothesisUse) → Option (List HypothesisUse)
beside true p one rest = rest
beside false false one rest = None
beside false true (Some us) (Some vs) = Some (us ++ vs)
beside false true (Some us) None = None
beside false true None rest = None

-- Join of a and b, which stand at the path q: the uses of hypotheses, in order, that make a equal to b, or none.
abbrev mutual
  pub joined : List Place → List Goal → (q : List ℕ) → (a b : Tree) → Option (List HypothesisUse)
  joined G H q (Var n s) b = meets (is_same (Var n s) b) (first_use 0 H q (Var n s) b) None
  joined G H q (App f s ts) (Var m k) = meets false (first_use 0 H q (App f s ts) (Var m k)) None
  joined G H q (App f s ts) (App g k us) =
      meets (is_same (App f s ts) (App g k us)) (first_use 0 H q (App f s ts) (App g k us))
      (if (f == g) && (s == k) then all_joined G H f q 0 ts us else None)

  -- the same for the arguments of f from the left, where the first is argument i
  pub all_joined : List Place → List Goal → (f : ℕ) → (q : List ℕ) → (i : ℕ) → (ts us : Trees) → Option (List HypothesisUse)
  all_joined G H f q i none none = Some []
  all_joined G H f q i none (more u us) = None
  all_joined G H f q i (more t ts) none = None
  all_joined G H f q i (more t ts) (more u us) =
      beside (is_same t u) (is_place G f i) (joined G H (q ++ i ∷ []) t u) (all_joined G H f q (i + 1) ts us)

abbrev pub rule_number : RuleName → ℕ
rule_number (name.Equation n) = n
rule_number (name.Lemma n) = n

-- a hidden lemma on the term t at the path q: the instance of its right side takes the term's place
abbrev pub lemma_use : Rule → List ℕ → Tree → Option HypothesisUse
lemma_use r q t =
    if matches r.left t
    then Some (use_with (rule_number r.name) Forth q (terms_by (matching r.left t) (rule_variables r)) (instance (matching r.left t) r.right))
    else None

-- the first hidden lemma whose left side matches
abbrev pub first_lemma : List Rule → List ℕ → Tree → Option HypothesisUse
first_lemma [] q t = None
first_lemma (r ∷ rs) q t = option_or (lemma_use r q t) (first_lemma rs q t)

-- where a lemma is used, nothing inside is
abbrev pub or_inside : Option HypothesisUse → List HypothesisUse → List HypothesisUse
or_inside (Some u) us = u ∷ []
or_inside None us = us

-- A lemma pass over a term at the path q: at the special paths, a term before its arguments, arguments from the left, and never into a new term.
abbrev mutual
  pub swept : List Place → (lemmas : List Rule) → (q : List ℕ) → Tree → List HypothesisUse
  swept G L q (Var n s) = or_inside (first_lemma L q (Var n s)) []
  swept G L q (App f s ts) = or_inside (first_lemma L q (App f s ts)) (all_swept G L f q 0 ts)

  -- the same for the arguments of f from the left, where the first is argument i
  pub all_swept : List Place → (lemmas : List Rule) → (f : ℕ) → (q : List ℕ) → (i : ℕ) → Trees → List HypothesisUse
  all_swept G L f q i none = []
  all_swept G L f q i (more t ts) = (if is_place G f i then swept G L (q ++ i ∷ []) t else []) ++ all_swept G L f q (i + 1) ts

-- the term, or the limit that it passes
abbrev pub within_or : Option Limit → Tree → Result Tree Stop
within_or None t = Ok t
within_or (Some l) t = Err (Past_limit l)

-- the term with the new subterm at the use's path
abbrev pub put_in : Tree → HypothesisUse → Tree
put_in t u = unwrap_or (replaced t u.path u.new) t

-- the new subterm is built first, then the term around it
abbrev pub put : Tree → HypothesisUse → Result Tree Stop
put t u = within_or (or_else (first_limit u.new) (first_limit (put_in t u))) (put_in t u)

-- Join's uses, one after another, which are not counted
abbrev pub put_all : Tree → List HypothesisUse → Result Tree Stop
put_all t [] = Ok t
put_all t (u ∷ us) = and_then (put t u) (λ v. put_all v us)

-- the uses of a lemma pass, each of which is one rewrite step of this budget: the term, and what is left
abbrev pub put_counted : (budget : ℕ) → Tree → List HypothesisUse → Result (Tree × ℕ) Stop
put_counted k t [] = Ok (t, k)
put_counted zero t (u ∷ us) = Err No_budget
put_counted (suc k) t (u ∷ us) = and_then (put t u) (λ v. put_counted k v us)

-- A term is open where its sort has a case list and it is none of the listed constants.
abbrev pub is_open : Theory → Tree → Bool
is_open th t =
    option_map_or (λ cs. not (option_map_or (λ f. list_any (nat_eq f) cs) (operator_number t) false)) (cases_of th (sort_of t)) false

-- the first open subterm in post-order
abbrev mutual
  pub first_open : Theory → Tree → Option Tree
  first_open th (Var n s) = if is_open th (Var n s) then Some (Var n s) else None
  first_open th (App f s ts) = option_or (first_open_in th ts) (if is_open th (App f s ts) then Some (App f s ts) else None)

  pub first_open_in : Theory → Trees → Option Tree
  first_open_in th none = None
  first_open_in th (more t ts) = option_or (first_open th t) (first_open_in th ts)
