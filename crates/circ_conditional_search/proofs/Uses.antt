-- A hypothesis that is used at a special path, where its conditions hold, leads on; and what a list of arguments becomes.
use Rattle.std.proofs.Common.{◌≡◌, ℕ, ◌≤◌, length, List, [], ◌∷◌, ◌++◌, map, Option, Some, None, Result, Ok, Err, refl, ap, sym, subst, ◌∙◌}
use Rattle.std.specs.Prelude.{slice_set}
use Rattle.std.specs.List.{slice_get}
use Rattle.std.specs.Option.{unwrap_or}
use Rattle.circ_term.specs.Tree.{Tree, Trees, App, more, sort_of, list_of, trees_of, at, replaced}
use Rattle.circ_term.proofs.Trees.{list_of-trees_of}
use Rattle.circ_term.specs.Limits.{Limit, first_limit, or_else, IsWithinLimits}
use Rattle.circ_term.specs.Substitution.{Substitution, instance}
use Rattle.circ_term.proofs.Paths.{replaced_there, replaced_self, at_replaced, replaced_twice, replaced_below}
use Rattle.circ_theory.specs.Signature.{IsWellSorted, IsSubstitution}
use Rattle.circ_theory.specs.Theory.{Pair, sides}
use Rattle.circ_theory.specs.Variables.{FitVariables, sorted, variables_of}
use Rattle.circ_theory.specs.Rewriting.{from_side, to_side, by_terms}
use Rattle.circ_theory.specs.Fresh.{above}
use Rattle.circ_theory.proofs.Instances.{instance_well_sorted}
use Rattle.circ_theory.proofs.Lists.{all_by}
use Rattle.circ_theory.proofs.Rewriting.{contains_at, given_substitution}
use Rattle.circ_theory.proofs.Sorting.{KeepsSort, replaced_sorted, sorted_to, sort_instances}
use Rattle.circ_special.specs.Special.{IsSpecial}
use Rattle.circ_plain_search.specs.Joining.{and_then, Stop, HypothesisUse, use_link, put_in, within_or, put_all}
use Rattle.circ_plain_search.proofs.Terms.{Fine, FineTerms, replaced_low}
use Rattle.circ_plain_search.proofs.Special.{special_replaced}
use Rattle.circ_plain_search.proofs.Uses.{Through, through, same_Ok, map_append, row, row_arg, row_next}
use Rattle.circ_proof.specs.Plain.{LinkOf}
use Rattle.circ_theory.specs.Goal.{Goal}
use Rattle.circ_proof.specs.Goals.{AreSortedGoals}
use Rattle.circ_proof.specs.Link.{Setting, ConditionsLead, AllOfChains}
use Rattle.circ_conditional_search.specs.Joining.{put_limit}
use Rattle.circ_conditional_search.proofs.Nesting.{ChainsNestIn}
use Rattle.circ_conditional_search.proofs.Led.{Led, led_none, led_append}

put_is : (t : Tree) (u : HypothesisUse) (v w : Tree) → replaced t u.path u.new ≡ Some v → within_or (put_limit t u) (put_in t u) ≡ Ok w → (v ≡ w) × IsWithinLimits w
put_is t u v w m e =
    let is : put_in t u ≡ v = ap (λ o. unwrap_or o t) m in
    let P : Tree → Type 0 = λ x. within_or (or_else (first_limit u.new) (first_limit x)) x ≡ Ok w in
    go (first_limit u.new) (first_limit v) refl (subst P is e)
  where
    go : (n o : Option Limit) → first_limit v ≡ o → within_or (or_else n o) v ≡ Ok w → (v ≡ w) × IsWithinLimits w
    go None None f z = let s : v ≡ w = same_Ok v w z in let P : Tree → Type 0 = IsWithinLimits in (s, subst P s f)
    go None (Some l) f z = absurd (cc)
    go (Some k) o f z = absurd (cc)

-- A hypothesis of the list is used at the path q on the term a, and gives b. Its conditions hold.
pub record IsUse (c : Setting) (m : ℕ) (q : List ℕ) (a b : Tree) (u : HypothesisUse) : Type 0 where
  pub hypothesis : Goal
  pub listed : slice_get c.hypotheses u.number ≡ Some hypothesis
  pub path : u.path ≡ q
  pub fit : FitVariables (sorted (variables_of hypothesis)) u.terms
  pub old : instance (by_terms hypothesis u.terms) (from_side u.way (sides hypothesis)) ≡ a
  pub made : instance (by_terms hypothesis u.terms) (to_side u.way (sides hypothesis)) ≡ u.new
  pub new : u.new ≡ b
  pub terms : FineTerms c.theory m u.terms
  pub low : above u.new ≤ m
  pub holds : ConditionsLead c (by_terms hypothesis u.terms) hypothesis.conds u.conds
  pub chains : AllOfChains (Fine c.theory m) u.conds
  pub nests : ChainsNestIn 8 u.conds

-- The uses lead from t to u, which is t with b at the path.
pub record UsesLead (c : Setting) (m : ℕ) (us : List HypothesisUse) (q : List ℕ) (b t u : Tree) : Type 0 where
  pub led : Led c m (map use_link us) t u
  pub made : replaced t q b ≡ Some u

put_all_append : (xs ys : List HypothesisUse) (t : Tree) → put_all t (xs ++ ys) ≡ and_then (put_all t xs) (λ u. put_all u ys)
put_all_append [] ys t = refl
put_all_append (x ∷ xs) ys t = go (λ u. put_all_append xs ys u) (within_or (put_limit t x) (put_in t x))
  where
    go : ((u : Tree) → put_all u (xs ++ ys) ≡ and_then (put_all u xs) (λ v. put_all v ys)) → (r : Result Tree Stop)
        → and_then r (λ u. put_all u (xs ++ ys)) ≡ and_then (and_then r (λ u. put_all u xs)) (λ u. put_all u ys)
    go ih (Ok u) = ih u
    go ih (Err e) = refl

get_mid : {X : Type 0} (front : List X) (x : X) (rest : List X) → slice_get (front ++ x ∷ rest) (length front) ≡ Some x
get_mid [] x rest = refl
get_mid (y ∷ ys) x rest = get_mid ys x rest

set_mid : {X : Type 0} (front : List X) (x y : X) (rest : List X) → slice_set (front ++ x ∷ rest) (length front) y ≡ front ++ y ∷ rest
set_mid [] x y rest = refl
set_mid (z ∷ zs) x y rest = ap (λ r. z ∷ r) (set_mid zs x y rest)

pub row_put : (f s : ℕ) (front : List Tree) (t u : Tree) (ts : Trees) → replaced (row f s front (more t ts)) (length front ∷ []) u ≡ Some (row f s front (more u ts))
row_put f s front t u ts =
    let got : slice_get (list_of (trees_of (front ++ t ∷ list_of ts))) (length front) ≡ Some t = row_arg front t ts in
    let e : slice_set (list_of (trees_of (front ++ t ∷ list_of ts))) (length front) u ≡ front ++ u ∷ list_of ts
    = ap (λ l. slice_set l (length front) u) (list_of-trees_of (front ++ t ∷ list_of ts)) ∙ set_mid front t u (list_of ts) in
    rw got (ap (λ l. Some (App f s (trees_of l))) e)

module _ (c : Setting) (m : ℕ) (well : AreSortedGoals c.theory c.hypotheses) where
  use_keeps : (q : List ℕ) (a b : Tree) (u : HypothesisUse) → IsUse c m q a b u → KeepsSort c.theory a u.new
  use_keeps q a b u it =
      let h : Goal = it.hypothesis in
      let p : Pair = sides h in
      let w = (well h (contains_at c.hypotheses u.number h it.listed)).sorted in
      let σ : Substitution = by_terms h u.terms in
      let s : IsSubstitution c.theory.signature σ
      = given_substitution c.theory.signature (sorted (variables_of h)) u.terms it.fit
      (all_by (Fine c.theory m) (IsWellSorted c.theory.signature) u.terms (λ t f. f.sorted) it.terms) in
      let P : Tree → Type 0 = IsWellSorted c.theory.signature in
      record {
        well_sorted = subst P it.made (instance_well_sorted c.theory.signature σ (to_side u.way p) s (sorted_to c.theory.signature u.way p w));
        same_sort = ap sort_of (sym it.made) ∙ sort_instances c.theory.signature u.way p σ w s ∙ ap sort_of it.old;
      }

  pub use_leads : (q : List ℕ) (a b : Tree) (u : HypothesisUse) (t v : Tree) → IsUse c m q a b u → Fine c.theory m t → at t q ≡ Some a → IsSpecial c.places t q
      → within_or (put_limit t u) (put_in t u) ≡ Ok v → UsesLead c m (u ∷ []) q b t v
  use_leads q a b u t v it f there special e =
      let P : List ℕ → Type 0 = λ p. at t p ≡ Some a in
      let S : List ℕ → Type 0 = λ p. IsSpecial c.places t p in
      let here : at t u.path ≡ Some a = subst P (sym it.path) there in
      let r = replaced_there u.path t a u.new here in
      let d = put_is t u r.0 v r.1 e in
      let made : replaced t u.path u.new ≡ Some v = r.1 ∙ ap Some d.0 in
      let keeps = replaced_sorted c.theory u.path t a u.new v f.sorted here (use_keeps q a b u it) made in
      record {
        led = record {
          leads = (
            v,
            (
              record {
                hypothesis = it.hypothesis;
                listed = it.listed;
                rewrites = record {
                  fit = it.fit;
                  replaces = record { there = here ∙ ap Some (sym it.old); made = ap (replaced t u.path) it.made ∙ made; within = d.1 };
                };
                special = λ h. subst S (sym it.path) special;
              },
              it.holds,
            ),
            refl,
          );
          fine = record { sorted = keeps.well_sorted; within = d.1; low = replaced_low m u.path t u.new v made f.low it.low };
          same_sort = keeps.same_sort;
          terms = ((it.terms, it.chains), tt);
          nests = (it.nests, tt);
        };
        made = ap (λ x. replaced t q x) (sym it.new) ∙ ap (λ p. replaced t p u.new) (sym it.path) ∙ made;
      }

  pub no_use : (q : List ℕ) (b t : Tree) → Fine c.theory m t → at t q ≡ Some b → UsesLead c m [] q b t t
  no_use q b t f there = record { led = led_none c m t f; made = replaced_self q t b there }

  pub nothing_leads : (us : List HypothesisUse) (q : List ℕ) (b t u : Tree) → Fine c.theory m t → at t q ≡ Some b → us ≡ [] → put_all t us ≡ Ok u
      → UsesLead c m us q b t u
  nothing_leads us q b t u f there nil e =
      let P : List HypothesisUse → Type 0 = λ l. UsesLead c m l q b t u in
      let Q : Tree → Type 0 = λ x. UsesLead c m [] q b t x in
      let it : t ≡ u = same_Ok t u (ap (put_all t) (sym nil) ∙ e) in
      subst P (sym nil) (subst Q it (no_use q b t f there))

  pub one_leads : (us : List HypothesisUse) (q : List ℕ) (a b t u : Tree) (x : HypothesisUse) → Fine c.theory m t → IsUse c m q a b x → at t q ≡ Some a
      → IsSpecial c.places t q → us ≡ x ∷ [] → put_all t us ≡ Ok u → UsesLead c m us q b t u
  one_leads us q a b t u x f it there special one e =
      let P : List HypothesisUse → Type 0 = λ l. UsesLead c m l q b t u in
      let y : Through (within_or (put_limit t x) (put_in t x)) (λ v. put_all v []) u = through _ (λ v. put_all v []) u (ap (put_all t) (sym one) ∙ e) in
      let end : y.value ≡ u = same_Ok y.value u y.last in
      subst P (sym one) (use_leads q a b x t u it f there special (y.first ∙ ap Ok end))

  -- Uses on one argument have led from x to w, in which it is u.
  pub record Beyond (us : List HypothesisUse) (q : List ℕ) (f s : ℕ) (front : List Tree) (u : Tree) (ts : Trees) (x w : Tree) : Type 0 where
    pub first : UsesLead c m us (q ++ length front ∷ []) u x w
    pub made : replaced x q (row f s front (more u ts)) ≡ Some w
    pub there : at w q ≡ Some (row f s (front ++ u ∷ []) ts)
    pub special : IsSpecial c.places w q

  pub beyond : (us : List HypothesisUse) (q : List ℕ) (f s : ℕ) (front : List Tree) (t u : Tree) (ts : Trees) (x w : Tree)
      → at x q ≡ Some (row f s front (more t ts)) → IsSpecial c.places x q → UsesLead c m us (q ++ length front ∷ []) u x w → Beyond us q f s front u ts x w
  beyond us q f s front t u ts x w there special a =
      let made : replaced x q (row f s front (more u ts)) ≡ Some w
      = sym (replaced_below q (length front ∷ []) x (row f s front (more t ts)) u (row f s front (more u ts)) there (row_put f s front t u ts)) ∙ a.made in
      record {
        first = a;
        made = made;
        there = at_replaced q x (row f s front (more u ts)) w made ∙ ap Some (sym (row_next f s front u ts));
        special = special_replaced c.places q x (row f s front (more u ts)) w made special;
      }

  pub both_lead : (us vs : List HypothesisUse) (q : List ℕ) (f s : ℕ) (front : List Tree) (u : Tree) (ts : Trees) (x w y z : Tree)
      → Beyond us q f s front u ts x w → UsesLead c m vs q z w y → UsesLead c m (us ++ vs) q z x y
  both_lead us vs q f s front u ts x w y z a b =
      let P : List (LinkOf Tree) → Type 0 = λ ls. Led c m ls x y in
      record {
        led = subst P (sym (map_append use_link us vs)) (led_append c m (map use_link us) (map use_link vs) x w y a.first.led b.led);
        made = sym (replaced_twice q x (row f s front (more u ts)) w z a.made) ∙ b.made;
      }

-- uses one after another, in two parts
pub record InParts (us vs : List HypothesisUse) (x y : Tree) : Type 0 where
  pub between : Tree
  pub first : put_all x us ≡ Ok between
  pub last : put_all between vs ≡ Ok y

pub in_parts : (us vs : List HypothesisUse) (x y : Tree) → put_all x (us ++ vs) ≡ Ok y → InParts us vs x y
in_parts us vs x y e =
    let r : Through (put_all x us) (λ w. put_all w vs) y = through (put_all x us) (λ w. put_all w vs) y (sym (put_all_append us vs x) ∙ e) in
    record { between = r.value; first = r.first; last = r.last }
