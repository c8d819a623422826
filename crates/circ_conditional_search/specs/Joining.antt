-- Join of two terms and the lemma pass over a term, where hypotheses and lemmas may have conditions. Both try conditions, which takes steps. A name
-- that ends in `trying` is the plain search's for the same without conditions.
use Rattle.std.specs.Prelude.{ℕ, zero, suc, ◌+◌, Bool, true, false, ◌==◌, ◌&&◌, if◌then◌else◌, List, [], ◌∷◌, ◌++◌, Option, Some, None}
use Rattle.circ_term.specs.Tree.{Tree, Trees, Var, App, none, more}
use Rattle.circ_term.specs.Limits.{Limit, first_limit, or_else}
use Rattle.circ_term.specs.Order.{is_same}
use Rattle.circ_term.specs.Substitution.{instance}
use Rattle.circ_theory.specs.Theory.{sides}
use Rattle.circ_theory.specs.Goal.{Goal}
use Rattle.circ_theory.specs.declared.way.Way.{Way}
use Rattle.circ_theory.specs.declared.way.Way.TheVariants.{Forth, Back}
use Rattle.circ_special.specs.declared.place.Place.{Place}
use Rattle.circ_rewrite.specs.Matching.{matching, matches}
use Rattle.circ_rewrite.specs.Due.{rule_variables, terms_by}
use Rattle.circ_rewrite.specs.Links.{chains_by}
use Rattle.circ_rewrite.specs.Replacement.{Passes}
use Rattle.circ_rewrite.specs.declared.parts.Rule.{Rule}
use Rattle.circ_conditional_norm.specs.Tries.{Normaliser, tried}
use Rattle.circ_conditional_norm.specs.Work.{Work, Made, Out, Past, or_next, map_found, unless_limit}
use Rattle.circ_plain_search.specs.Joining.{HypothesisUse, pair_matching, pair_matches, hypothesis_variables, is_place, rule_number, put_in}

-- a use whose conditions hold by these passes
abbrev pub use_passing : ℕ → Way → List ℕ → List Tree → Passes → Tree → HypothesisUse
use_passing number way path terms passes new =
    record { number = number; way = way; path = path; terms = terms; conds = chains_by passes; new = new }

-- what is done with a value, and with what is left
abbrev pub work_then : {A B : Type 0} → Work A → (A → ℕ → Work B) → Work B
work_then (Made a k) f = f a k
work_then Out f = Out
work_then (Past l k) f = Past l k

-- the same with a value that was found
abbrev pub found_then : {A B : Type 0} → Work (Option A) → (A → ℕ → Work (Option B)) → Work (Option B)
found_then (Made (Some a) k) f = f a k
found_then (Made None k) f = Made None k
found_then Out f = Out
found_then (Past l k) f = Past l k

module _ (normal : Normaliser) where
  -- A hypothesis with its left side on a and its right side on b, at the path q, where its conditions hold; the new subterm is given. Its variables are given
  -- what both sides give them, and those of its conditions alone stand for themselves.
  abbrev pub pair_use_trying : ℕ → Way → Goal → List ℕ → (new a b : Tree) → (budget : ℕ) → Work (Option HypothesisUse)
  pair_use_trying n way h q new a b k =
      if pair_matches (sides h) a b
      then map_found (λ passes. use_passing n way q (terms_by (pair_matching (sides h) a b) (hypothesis_variables h)) passes new)
      (tried (Some normal) (pair_matching (sides h) a b) h.conds k)
      else Made None k

  -- one hypothesis on a and b, and else the other way about
  abbrev pub one_use_trying : ℕ → Goal → List ℕ → (a b : Tree) → (budget : ℕ) → Work (Option HypothesisUse)
  one_use_trying n h q a b k = or_next (pair_use_trying n Forth h q b a b k) (pair_use_trying n Back h q b b a)

  -- the first hypothesis that can be used, where the first has the number n
  abbrev pub first_use_trying : (n : ℕ) → List Goal → List ℕ → (a b : Tree) → (budget : ℕ) → Work (Option HypothesisUse)
  first_use_trying n [] q a b k = Made None k
  first_use_trying n (h ∷ hs) q a b k = or_next (one_use_trying n h q a b k) (first_use_trying (n + 1) hs q a b)

-- equal terms need no link; else the first use is one link; else the arguments are looked at
abbrev pub meets_trying : (same : Bool) → (ℕ → Work (Option HypothesisUse)) → (ℕ → Work (Option (List HypothesisUse))) → (budget : ℕ)
    → Work (Option (List HypothesisUse))
meets_trying true first inside k = Made (Some []) k
meets_trying false first inside k = or_next (map_found (λ u. u ∷ []) (first k)) inside

-- an argument is equal, or stands at a place of the set and joins; and so the others
abbrev pub beside_trying : (same at_place : Bool) → (one rest : ℕ → Work (Option (List HypothesisUse))) → (budget : ℕ) → Work (Option (List HypothesisUse))
beside_trying true p one rest k = rest k
beside_trying false false one rest k = Made None k
beside_trying false true one rest k = found_then (one k) (λ us l. map_found (λ vs. us ++ vs) (rest l))

abbrev pub no_join : (budget : ℕ) → Work (Option (List HypothesisUse))
no_join k = Made None k

module _ (normal : Normaliser) (G : List Place) (H : List Goal) where
  -- Join of a and b, which stand at the path q: the uses of hypotheses, in order, that make a equal to b, or none. Arguments are taken from the left, and
  -- what is tried for one stays spent where a later one does not join.
  abbrev mutual
    pub joined_trying : (q : List ℕ) → (a b : Tree) → (budget : ℕ) → Work (Option (List HypothesisUse))
    joined_trying q (Var n s) b k = meets_trying (is_same (Var n s) b) (first_use_trying normal 0 H q (Var n s) b) no_join k
    joined_trying q (App f s ts) (Var m j) k = meets_trying false (first_use_trying normal 0 H q (App f s ts) (Var m j)) no_join k
    joined_trying q (App f s ts) (App g j us) k =
        meets_trying (is_same (App f s ts) (App g j us)) (first_use_trying normal 0 H q (App f s ts) (App g j us))
        (if (f == g) && (s == j) then all_joined_trying f q 0 ts us else no_join) k

    -- the same for the arguments of f from the left, where the first is argument i
    pub all_joined_trying : (f : ℕ) → (q : List ℕ) → (i : ℕ) → (ts us : Trees) → (budget : ℕ) → Work (Option (List HypothesisUse))
    all_joined_trying f q i none none k = Made (Some []) k
    all_joined_trying f q i none (more u us) k = Made None k
    all_joined_trying f q i (more t ts) none k = Made None k
    all_joined_trying f q i (more t ts) (more u us) k =
        beside_trying (is_same t u) (is_place G f i) (joined_trying (q ++ i ∷ []) t u) (all_joined_trying f q (i + 1) ts us) k

-- ---- the lemma pass: each replacement is made before the next path is looked at

-- the whole term as it stands in a pass, and the uses made so far
pub record Swept : Type 0 where
  pub whole : Tree
  pub uses : List HypothesisUse

abbrev pub swept_with : Tree → List HypothesisUse → Swept
swept_with t us = record { whole = t; uses = us }

-- the first limit that is passed: the new subterm is built first, then the term around it
abbrev pub put_limit : Tree → HypothesisUse → Option Limit
put_limit t u = or_else (first_limit u.new) (first_limit (put_in t u))

-- a use is put into the whole term, which takes a step
abbrev pub put_swept : Swept → HypothesisUse → (budget : ℕ) → Work Swept
put_swept w u zero = Out
put_swept w u (suc k) = unless_limit (put_limit w.whole u) (suc k) (Made (swept_with (put_in w.whole u) (w.uses ++ u ∷ [])) k)

-- where a lemma is used, nothing inside is
abbrev pub swept_or_inside : Swept → Work (Option HypothesisUse) → (ℕ → Work Swept) → Work Swept
swept_or_inside w (Made (Some u) k) inside = put_swept w u k
swept_or_inside w (Made None k) inside = inside k
swept_or_inside w Out inside = Out
swept_or_inside w (Past l k) inside = Past l k

module _ (normal : Normaliser) where
  -- a hidden lemma on the term t at the path q, where its conditions hold: the instance of its right side takes the term's place
  abbrev pub lemma_use_trying : Rule → List ℕ → Tree → (budget : ℕ) → Work (Option HypothesisUse)
  lemma_use_trying r q t k =
      if matches r.left t
      then map_found
      (λ passes. use_passing (rule_number r.name) Forth q (terms_by (matching r.left t) (rule_variables r)) passes (instance (matching r.left t) r.right))
      (tried (Some normal) (matching r.left t) r.conds k)
      else Made None k

  -- the first hidden lemma that applies
  abbrev pub first_lemma_trying : List Rule → List ℕ → Tree → (budget : ℕ) → Work (Option HypothesisUse)
  first_lemma_trying [] q t k = Made None k
  first_lemma_trying (r ∷ rs) q t k = or_next (lemma_use_trying r q t k) (first_lemma_trying rs q t)

module _ (normal : Normaliser) (G : List Place) (L : List Rule) where
  -- A lemma pass over a term at the path q: at the special paths, a term before its arguments, arguments from the left, and never into a new term.
  abbrev mutual
    pub swept_trying : (q : List ℕ) → Tree → Swept → (budget : ℕ) → Work Swept
    swept_trying q (Var n s) w k = swept_or_inside w (first_lemma_trying normal L q (Var n s) k) (Made w)
    swept_trying q (App f s ts) w k = swept_or_inside w (first_lemma_trying normal L q (App f s ts) k) (all_swept_trying f q 0 ts w)

    -- the same for the arguments of f from the left, where the first is argument i
    pub all_swept_trying : (f : ℕ) → (q : List ℕ) → (i : ℕ) → Trees → Swept → (budget : ℕ) → Work Swept
    all_swept_trying f q i none w k = Made w k
    all_swept_trying f q i (more t ts) w k =
        work_then (if is_place G f i then swept_trying (q ++ i ∷ []) t w k else Made w k) (λ v l. all_swept_trying f q (i + 1) ts v l)
