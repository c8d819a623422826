-- A hypothesis that is used at a special path leads on, and what a list of arguments becomes.
use Rattle.std.proofs.Common.{◌≡◌, ℕ, ◌+◌, ◌≤◌, length, List, [], ◌∷◌, ◌++◌, map, Option, Some, None, Result, Ok, Err, refl, ap, sym, subst, ◌∙◌, append_assoc, length-append}
use Rattle.std.specs.Prelude.{slice_set}
use Rattle.std.specs.List.{slice_get}
use Rattle.std.specs.Option.{unwrap_or}
use Rattle.circ_term.specs.Tree.{Tree, Trees, App, more, sort_of, list_of, trees_of, at, replaced}
use Rattle.circ_term.proofs.Trees.{list_of-trees_of}
use Rattle.circ_term.specs.Limits.{Limit, first_limit, or_else, IsWithinLimits}
use Rattle.circ_term.specs.Substitution.{Substitution, instance}
use Rattle.circ_term.proofs.Paths.{replaced_there, replaced_self, at_replaced, replaced_twice, replaced_below}
use Rattle.circ_theory.specs.Signature.{IsWellSorted, IsSubstitution}
use Rattle.circ_theory.specs.Theory.{Theory, Pair, sides}
use Rattle.circ_theory.specs.Variables.{FitVariables, given}
use Rattle.circ_theory.specs.Rewriting.{from_side, to_side}
use Rattle.circ_theory.specs.Fresh.{above}
use Rattle.circ_theory.specs.Goal.{Goal}
use Rattle.circ_theory.proofs.Instances.{instance_well_sorted}
use Rattle.circ_theory.proofs.Lists.{all_at, all_by}
use Rattle.circ_theory.proofs.Rewriting.{contains_at, given_substitution}
use Rattle.circ_theory.proofs.Sorting.{KeepsSort, replaced_sorted, sorted_to, sort_instances}
use Rattle.circ_special.specs.declared.place.Place.{Place}
use Rattle.circ_special.specs.Special.{IsSpecial}
use Rattle.circ_proof.specs.Plain.{LinkOf, no_chain}
use Rattle.circ_proof.specs.Goals.{AreSortedGoals}
use Rattle.circ_proof.specs.Link.{Setting, setting}
use Rattle.circ_plain_search.specs.BlockRules.{HaveNoConditions}
use Rattle.circ_plain_search.specs.Joining.{Stop, HypothesisUse, use_link, hypothesis_variables, and_then, within_or, put_in, put, put_all}
use Rattle.circ_plain_search.proofs.Terms.{Fine, FineTerms, replaced_low}
use Rattle.circ_plain_search.proofs.Led.{Led, led_none, led_append}
use Rattle.circ_plain_search.proofs.Special.{special_replaced}
use Rattle.circ_plain_search.proofs.Unconditional.{none_lead, none_named}

-- what an `and_then` that is Ok went through
pub record Through {A B E : Type 0} (r : Result A E) (f : A → Result B E) (b : B) : Type 0 where
  pub value : A
  pub first : r ≡ Ok value
  pub last : f value ≡ Ok b

pub through : {A B E : Type 0} (r : Result A E) (f : A → Result B E) (b : B) → and_then r f ≡ Ok b → Through r f b
through (Ok a) f b e = record { value = a; first = refl; last = e }
through (Err x) f b e = absurd (cc)

pub same_Ok : {A E : Type 0} (a b : A) → ◌≡◌ {A = Result A E} (Ok a) (Ok b) → a ≡ b
same_Ok a b e = cc

put_is : (t : Tree) (u : HypothesisUse) (v w : Tree) → replaced t u.path u.new ≡ Some v → put t u ≡ Ok w → (v ≡ w) × IsWithinLimits w
put_is t u v w m e =
    let is : put_in t u ≡ v = ap (λ o. unwrap_or o t) m in
    let P : Tree → Type 0 = λ x. within_or (or_else (first_limit u.new) (first_limit x)) x ≡ Ok w in
    go (first_limit u.new) (first_limit v) refl (subst P is e)
  where
    go : (n o : Option Limit) → first_limit v ≡ o → within_or (or_else n o) v ≡ Ok w → (v ≡ w) × IsWithinLimits w
    go None None f z = let s : v ≡ w = same_Ok v w z in let P : Tree → Type 0 = IsWithinLimits in (s, subst P s f)
    go None (Some l) f z = absurd (cc)
    go (Some k) o f z = absurd (cc)

-- A hypothesis of the list is used at the path q on the term a, and gives b.
pub record IsUse (th : Theory) (m : ℕ) (H : List Goal) (q : List ℕ) (a b : Tree) (u : HypothesisUse) : Type 0 where
  pub hypothesis : Goal
  pub listed : slice_get H u.number ≡ Some hypothesis
  pub path : u.path ≡ q
  pub conds : u.conds ≡ no_chain
  pub fit : FitVariables (hypothesis_variables hypothesis) u.terms
  pub old : instance (given (hypothesis_variables hypothesis) u.terms) (from_side u.way (sides hypothesis)) ≡ a
  pub made : instance (given (hypothesis_variables hypothesis) u.terms) (to_side u.way (sides hypothesis)) ≡ u.new
  pub new : u.new ≡ b
  pub terms : FineTerms th m u.terms
  pub low : above u.new ≤ m

-- The uses lead from t to u, which is t with b at the path.
pub record UsesLead (th : Theory) (m : ℕ) (G : List Place) (H : List Goal) (us : List HypothesisUse) (q : List ℕ) (b t u : Tree) : Type 0 where
  pub led : Led (setting th G H []) m (map use_link us) t u
  pub made : replaced t q b ≡ Some u

pub map_append : {X Y : Type 0} (f : X → Y) (xs ys : List X) → map f (xs ++ ys) ≡ map f xs ++ map f ys
map_append f [] ys = refl
map_append f (x ∷ xs) ys = ap (λ r. f x ∷ r) (map_append f xs ys)

put_all_append : (xs ys : List HypothesisUse) (t : Tree) → put_all t (xs ++ ys) ≡ and_then (put_all t xs) (λ u. put_all u ys)
put_all_append [] ys t = refl
put_all_append (x ∷ xs) ys t = go (λ u. put_all_append xs ys u) (put t x)
  where
    go : ((u : Tree) → put_all u (xs ++ ys) ≡ and_then (put_all u xs) (λ v. put_all v ys)) → (r : Result Tree Stop)
        → and_then r (λ u. put_all u (xs ++ ys)) ≡ and_then (and_then r (λ u. put_all u xs)) (λ u. put_all u ys)
    go ih (Ok u) = ih u
    go ih (Err e) = refl

-- f applied to the arguments before a place and those from there on
abbrev pub row : ℕ → ℕ → List Tree → Trees → Tree
row f s front ts = App f s (trees_of (front ++ list_of ts))

get_mid : {X : Type 0} (front : List X) (x : X) (rest : List X) → slice_get (front ++ x ∷ rest) (length front) ≡ Some x
get_mid [] x rest = refl
get_mid (y ∷ ys) x rest = get_mid ys x rest

set_mid : {X : Type 0} (front : List X) (x y : X) (rest : List X) → slice_set (front ++ x ∷ rest) (length front) y ≡ front ++ y ∷ rest
set_mid [] x y rest = refl
set_mid (z ∷ zs) x y rest = ap (λ r. z ∷ r) (set_mid zs x y rest)

pub row_arg : (front : List Tree) (t : Tree) (ts : Trees) → slice_get (list_of (trees_of (front ++ list_of (more t ts)))) (length front) ≡ Some t
row_arg front t ts = ap (λ l. slice_get l (length front)) (list_of-trees_of (front ++ t ∷ list_of ts)) ∙ get_mid front t (list_of ts)

row_put : (f s : ℕ) (front : List Tree) (t u : Tree) (ts : Trees) → replaced (row f s front (more t ts)) (length front ∷ []) u ≡ Some (row f s front (more u ts))
row_put f s front t u ts =
    let got : slice_get (list_of (trees_of (front ++ t ∷ list_of ts))) (length front) ≡ Some t = row_arg front t ts in
    let e : slice_set (list_of (trees_of (front ++ t ∷ list_of ts))) (length front) u ≡ front ++ u ∷ list_of ts
    = ap (λ l. slice_set l (length front) u) (list_of-trees_of (front ++ t ∷ list_of ts)) ∙ set_mid front t u (list_of ts) in
    rw got (ap (λ l. Some (App f s (trees_of l))) e)

pub row_next : (f s : ℕ) (front : List Tree) (t : Tree) (ts : Trees) → row f s (front ++ t ∷ []) ts ≡ row f s front (more t ts)
row_next f s front t ts = ap (λ l. App f s (trees_of l)) (append_assoc front (t ∷ []) (list_of ts))

pub longer : (front : List Tree) (t : Tree) → length (front ++ t ∷ []) ≡ length front + 1
longer front t = length-append front (t ∷ [])

module _ (th : Theory) (m : ℕ) (G : List Place) (H : List Goal) (sorted : AreSortedGoals th H) (bare : HaveNoConditions H) where
  abbrev around : Setting
  around = setting th G H []

  use_keeps : (q : List ℕ) (a b : Tree) (u : HypothesisUse) → IsUse th m H q a b u → KeepsSort th a u.new
  use_keeps q a b u it =
      let p : Pair = sides it.hypothesis in
      let w = (sorted it.hypothesis (contains_at H u.number it.hypothesis it.listed)).sorted in
      let σ : Substitution = given (hypothesis_variables it.hypothesis) u.terms in
      let s : IsSubstitution th.signature σ
      = given_substitution th.signature (hypothesis_variables it.hypothesis) u.terms it.fit (all_by (Fine th m) (IsWellSorted th.signature) u.terms (λ t f. f.sorted) it.terms) in
      let P : Tree → Type 0 = IsWellSorted th.signature in
      record {
        well_sorted = subst P it.made (instance_well_sorted th.signature σ (to_side u.way p) s (sorted_to th.signature u.way p w));
        same_sort = ap sort_of (sym it.made) ∙ sort_instances th.signature u.way p σ w s ∙ ap sort_of it.old;
      }

  use_leads : (q : List ℕ) (a b : Tree) (u : HypothesisUse) (t v : Tree) → IsUse th m H q a b u → Fine th m t → at t q ≡ Some a → IsSpecial G t q
      → put t u ≡ Ok v → UsesLead th m G H (u ∷ []) q b t v
  use_leads q a b u t v it f there special e =
      let P : List ℕ → Type 0 = λ p. at t p ≡ Some a in
      let S : List ℕ → Type 0 = λ p. IsSpecial G t p in
      let here : at t u.path ≡ Some a = subst P (sym it.path) there in
      let r = replaced_there u.path t a u.new here in
      let d = put_is t u r.0 v r.1 e in
      let made : replaced t u.path u.new ≡ Some v = r.1 ∙ ap Some d.0 in
      let keeps = replaced_sorted th u.path t a u.new v f.sorted here (use_keeps q a b u it) made in
      record {
        led = record {
          leads = (
            v,
            (
              record {
                hypothesis = it.hypothesis;
                listed = it.listed;
                rewrites = record {
                  fit = it.fit;
                  replaces = record { there = here ∙ ap Some (sym it.old); made = ap (replaced t u.path) it.made ∙ made; within = d.1 };
                };
                special = λ h. subst S (sym it.path) special;
              },
              none_lead around (given (hypothesis_variables it.hypothesis) u.terms) it.hypothesis.conds u.conds
                  (all_at (λ g. g.conds ≡ []) H u.number it.hypothesis bare it.listed) it.conds,
            ),
            refl,
          );
          fine = record { sorted = keeps.well_sorted; within = d.1; low = replaced_low m u.path t u.new v made f.low it.low };
          same_sort = keeps.same_sort;
          terms = ((it.terms, none_named (Fine th m) u.conds it.conds), tt);
        };
        made = ap (λ x. replaced t q x) (sym it.new) ∙ ap (λ p. replaced t p u.new) (sym it.path) ∙ made;
      }

  pub nothing_leads : (us : List HypothesisUse) (q : List ℕ) (b t u : Tree) → Fine th m t → at t q ≡ Some b → us ≡ [] → put_all t us ≡ Ok u
      → UsesLead th m G H us q b t u
  nothing_leads us q b t u f there nil e =
      let P : List HypothesisUse → Type 0 = λ l. UsesLead th m G H l q b t u in
      let Q : Tree → Type 0 = λ x. UsesLead th m G H [] q b t x in
      let it : t ≡ u = same_Ok t u (ap (put_all t) (sym nil) ∙ e) in
      subst P (sym nil) (subst Q it (record { led = led_none around m t f; made = replaced_self q t b there }))

  pub one_leads : (us : List HypothesisUse) (q : List ℕ) (a b t u : Tree) (x : HypothesisUse) → Fine th m t → IsUse th m H q a b x → at t q ≡ Some a
      → IsSpecial G t q → us ≡ x ∷ [] → put_all t us ≡ Ok u → UsesLead th m G H us q b t u
  one_leads us q a b t u x f it there special one e =
      let P : List HypothesisUse → Type 0 = λ l. UsesLead th m G H l q b t u in
      let y : Through (put t x) (λ v. put_all v []) u = through (put t x) (λ v. put_all v []) u (ap (put_all t) (sym one) ∙ e) in
      let end : y.value ≡ u = same_Ok y.value u y.last in
      subst P (sym one) (use_leads q a b x t u it f there special (y.first ∙ ap Ok end))

  -- Uses on one argument have led to w, in which it is u, and those after it are to lead to y.
  pub record AfterOne (us vs : List HypothesisUse) (q : List ℕ) (f s : ℕ) (front : List Tree) (u : Tree) (ts : Trees) (x y : Tree) : Type 0 where
    pub w : Tree
    pub first : UsesLead th m G H us (q ++ length front ∷ []) u x w
    pub made : replaced x q (row f s front (more u ts)) ≡ Some w
    pub there : at w q ≡ Some (row f s (front ++ u ∷ []) ts)
    pub special : IsSpecial G w q
    pub last : put_all w vs ≡ Ok y

  pub after_one : (us vs : List HypothesisUse) (q : List ℕ) (f s : ℕ) (front : List Tree) (t u : Tree) (ts : Trees) (x y : Tree)
      → at x q ≡ Some (row f s front (more t ts)) → IsSpecial G x q → put_all x (us ++ vs) ≡ Ok y
      → ((w : Tree) → put_all x us ≡ Ok w → UsesLead th m G H us (q ++ length front ∷ []) u x w) → AfterOne us vs q f s front u ts x y
  after_one us vs q f s front t u ts x y there special e first =
      let r : Through (put_all x us) (λ w. put_all w vs) y = through (put_all x us) (λ w. put_all w vs) y (sym (put_all_append us vs x) ∙ e) in
      let a = first r.value r.first in
      let made : replaced x q (row f s front (more u ts)) ≡ Some r.value
      = sym (replaced_below q (length front ∷ []) x (row f s front (more t ts)) u (row f s front (more u ts)) there (row_put f s front t u ts)) ∙ a.made in
      record {
        w = r.value;
        first = a;
        made = made;
        there = at_replaced q x (row f s front (more u ts)) r.value made ∙ ap Some (sym (row_next f s front u ts));
        special = special_replaced G q x (row f s front (more u ts)) r.value made special;
        last = r.last;
      }

  -- where uses one after another lead, the first lead
  pub first_put : (us vs : List HypothesisUse) (x y : Tree) → put_all x (us ++ vs) ≡ Ok y → (w : Tree) × (put_all x us ≡ Ok w)
  first_put us vs x y e =
      let r : Through (put_all x us) (λ w. put_all w vs) y = through (put_all x us) (λ w. put_all w vs) y (sym (put_all_append us vs x) ∙ e) in
      (r.value, r.first)

  pub both_lead : (us vs : List HypothesisUse) (q : List ℕ) (f s : ℕ) (front : List Tree) (u : Tree) (ts : Trees) (x y z : Tree)
      → (a : AfterOne us vs q f s front u ts x y) → UsesLead th m G H vs q z a.w y → UsesLead th m G H (us ++ vs) q z x y
  both_lead us vs q f s front u ts x y z a b =
      let P : List (LinkOf Tree) → Type 0 = λ ls. Led around m ls x y in
      record {
        led = subst P (sym (map_append use_link us vs)) (led_append around m (map use_link us) (map use_link vs) x a.w y a.first.led b.led);
        made = sym (replaced_twice q x (row f s front (more u ts)) a.w z a.made) ∙ b.made;
      }
