-- The traces of a normal form lead to it, and its terms, those of its tries too, are fine.
use Rattle.std.proofs.Common.{◌≡◌, ◌⊎◌, inl, inr, ℕ, zero, suc, ◌≤◌, ◌-◌, Bool, true, false, ◌||◌, ◌==◌, if◌then◌else◌, List, [], ◌∷◌, ◌++◌, map, Option, Some, None, Result, Ok, refl, ap, sym, subst, ◌∙◌, append_assoc, append-nil}
use Rattle.std.specs.List.{AllByRecursion, list_any, list_all}
use Rattle.std.specs.Option.{option_or, option_map_or}
use Rattle.std.proofs.lemmas.Bool.{and_parts, eqb-true}
use Rattle.std.proofs.lemmas.Option.{same_Some}
use Rattle.circ_term.specs.Tree.{Tree, Var, App, replaced}
use Rattle.circ_term.specs.Limits.{Limit, first_limit, or_else, IsWithinLimits}
use Rattle.circ_term.specs.Order.{is_same}
use Rattle.circ_term.specs.Substitution.{Substitution, instance}
use Rattle.circ_term.proofs.Order.{same_here}
use Rattle.circ_term.proofs.Limits.{replaced_within}
use Rattle.circ_term.proofs.Paths.{replaced_there}
use Rattle.circ_theory.specs.Signature.{Signature, IsWellSorted, IsSubstitution}
use Rattle.circ_theory.specs.Theory.{Theory, Pair, IsWellSortedPair}
use Rattle.circ_theory.specs.Variables.{pair_occurrences, Variable, is_variable, occurrences}
use Rattle.circ_theory.specs.WellFormed.{IsWellFormed}
use Rattle.circ_theory.specs.Fresh.{above}
use Rattle.circ_theory.proofs.Instances.{instance_well_sorted}
use Rattle.circ_theory.proofs.Lists.{all_at}
use Rattle.circ_theory.proofs.Sorting.{replaced_sorted}
use Rattle.circ_special.specs.declared.place.Place.{Place}
use Rattle.circ_match.specs.Matcher.{has_variable}
use Rattle.circ_aci.specs.Canonical.{canonical_under}
use Rattle.circ_aci.proofs.Again.{is_canonical}
use Rattle.circ_rewrite.specs.Matching.{matching, matches}
use Rattle.circ_rewrite.specs.Due.{terms_by, IsRewriteRule, assumed, content_due, rule_variables, rule_goal}
use Rattle.circ_rewrite.specs.declared.parts.Rule.{Rule}
use Rattle.circ_rewrite.specs.declared.parts.RuleName.{RuleName}
use Rattle.circ_rewrite.proofs.RuleTerms.{bound_in_left, has_variable-occurrences}
use Rattle.circ_plain_search.proofs.Terms.{Fine, replaced_low, instance_low, at_fine, canonical_low}
use Rattle.circ_plain_search.proofs.PairTerms.{given_fine}
use Rattle.circ_theory.specs.Goal.{Goal}
use Rattle.circ_proof.specs.Link.{Setting, setting, AllOfLink, AllOfRow, AllOfChains, AllOfLinks}
use Rattle.circ_rewrite.specs.Replacement.{Passes, no_pass, Replacement, Placed, Traced, traced, By_rule, By_content, trace_row}
use Rattle.circ_conditional_norm.specs.Work.{Work, Made, Out, Past, map_found}
use Rattle.circ_rewrite.specs.Norm.{Normalised, Normal_form, Budget_spent, Limit_passed}
use Rattle.circ_conditional_norm.specs.Tries.{rule_replaces, Normaliser, same_forms, conditions_hold, tried, rule_tried, rules_tried, due_trying}
use Rattle.circ_conditional_norm.specs.Norm.{look_from, looked, make, run_from, inner_norm, norm_with_room, conditional_norm, try_limit}
use Rattle.circ_rewrite.specs.Links.{link_by, link_of, row_by, chains_by, IsRuleOf}
use Rattle.circ_conditional_norm.proofs.Working.{found_map, found_next, found_limit, both_none, same_found}
use Rattle.circ_conditional_norm.proofs.Looking.{IsDueAt, look_from_there}
use Rattle.circ_rewrite.proofs.Linked.{matching_substitution, assumed_is}
use Rattle.circ_conditional_norm.proofs.Linked.{held_by, all_sorted, IsSound, sound, inner_links, norm_links}
use Rattle.circ_plain_search.specs.Joining.{Stop}
use Rattle.circ_plain_search.specs.Search.{NormalSide, normal_side, side_of}
use Rattle.circ_conditional_search.specs.Search.{normalised_trying}
use Rattle.circ_conditional_search.proofs.Led.{Led}
use Rattle.circ_conditional_search.proofs.Nesting.{norm_nests}
use Rattle.circ_conditional_search.proofs.GoalTerms.{OfTerm, OfPairs, all_terms}
use Rattle.circ_rewrite.specs.declared.parts.RuleName.TheVariants as name

-- assumptions that may be used: well-sorted, and with right sides of low numbers
pub record IsAssumption (th : Theory) (m : ℕ) (p : Pair) : Type 0 where
  pub sorted : IsWellSortedPair th.signature p
  pub low : above p.right ≤ m

-- ---- a try

-- the terms that a normaliser makes of fine terms are fine
abbrev pub IsFining : Theory → ℕ → Normaliser → Type 0
IsFining th m f = (k : ℕ) (t u : Tree) (ts : List Traced) (l : ℕ) → Fine th m t → f k t ≡ Normal_form u ts l → Fine th m u × AllOfLinks (Fine th m) (map link_of ts)

abbrev pub AreFining : Theory → ℕ → Option Normaliser → Type 0
AreFining th m None = Unit {0}
AreFining th m (Some f) = IsFining th m f

row_fine : (P : Tree → Type 0) (ts : List Traced) → AllOfLinks P (map link_of ts) → AllOfRow P (row_by (trace_row ts))
row_fine P [] a = tt
row_fine P (tr ∷ ts) a = (a.0, row_fine P ts a.1)

-- the instances of conditions are well-sorted, and have variables of low numbers
pub record IsLowPair (th : Theory) (m : ℕ) (σ : Substitution) (p : Pair) : Type 0 where
  pub left : IsWellSorted th.signature (instance σ p.left)
  pub left_low : above (instance σ p.left) ≤ m
  pub right : IsWellSorted th.signature (instance σ p.right)
  pub right_low : above (instance σ p.right) ≤ m

pub low_pairs : (th : Theory) (m : ℕ) (σ : Substitution) → IsSubstitution th.signature σ → (ps : List Pair) → AllByRecursion (IsWellSortedPair th.signature) ps
    → OfPairs (λ n s. Fine th m (σ n s)) ps → AllByRecursion (IsLowPair th m σ) ps
low_pairs th m σ s [] w f = tt
low_pairs th m σ s (p ∷ ps) w f = (
  record {
    left = instance_well_sorted th.signature σ p.left s w.0.left;
    left_low = instance_low m σ p.left (λ n k h. (f.0.0 n k h).low);
    right = instance_well_sorted th.signature σ p.right s w.0.right;
    right_low = instance_low m σ p.right (λ n k h. (f.0.1 n k h).low);
  },
  low_pairs th m σ s ps w.1 f.1,
)

module _ (th : Theory) (m : ℕ) where
  all_hold_fine : (f : Normaliser) → IsFining th m f → (σ : Substitution) (ps : List Pair) → AllByRecursion (IsLowPair th m σ) ps → (k : ℕ) (cs : Passes) (l : ℕ)
      → conditions_hold f σ ps k ≡ Made (Some cs) l → AllOfChains (Fine th m) (chains_by cs)
  all_hold_fine f fine σ [] w k cs l e = subst (λ x. AllOfChains (Fine th m) (chains_by x)) (same_found no_pass cs k l e).0 tt
  all_hold_fine f fine σ (p ∷ ps) w k cs l e =
      let a : Tree = instance σ p.left in
      let b : Tree = instance σ p.right in
      let lim = found_limit (or_else (first_limit a) (first_limit b)) k (same_forms f a b k (conditions_hold f σ ps)) (Some cs) l e in
      let within = both_none (first_limit a) (first_limit b) lim.0 in
      let h = held_by f a b k (conditions_hold f σ ps) cs l lim.1 in
      let la = fine k a h.same h.left_traces h.between (record { sorted = w.0.left; within = within.0; low = w.0.left_low }) h.left in
      let lb = fine h.between b h.same h.right_traces h.after (record { sorted = w.0.right; within = within.1; low = w.0.right_low }) h.right in
      subst (λ y. AllOfChains (Fine th m) (chains_by y)) h.is
      (row_fine (Fine th m) h.left_traces la.1, row_fine (Fine th m) h.right_traces lb.1, all_hold_fine f fine σ ps w.1 h.after h.passes l h.later)

  pub holds_fine : (o : Option Normaliser) → AreFining th m o → (σ : Substitution) (ps : List Pair) → AllByRecursion (IsLowPair th m σ) ps → (k : ℕ) (cs : Passes) (l : ℕ)
      → tried o σ ps k ≡ Made (Some cs) l → AllOfChains (Fine th m) (chains_by cs)
  holds_fine o fine σ [] w k cs l e = subst (λ x. AllOfChains (Fine th m) (chains_by x)) (same_found no_pass cs k l e).0 tt
  holds_fine None fine σ (p ∷ ps) w k cs l e = absurd (cc)
  holds_fine (Some f) fine σ (p ∷ ps) w zero cs l e = absurd (cc)
  holds_fine (Some f) fine σ (p ∷ ps) w (suc k) cs l e = all_hold_fine f fine σ (p ∷ ps) w k cs l e

-- ---- what is due

pick : {X : Type 0} (a b : Bool) → (a || b) ≡ true → (a ≡ true → X) → (b ≡ true → X) → X
pick true b h x y = x refl
pick false b h x y = y h

among : (v : Variable) (vs us : List Variable) → list_all (λ w. list_any (is_variable w) us) vs ≡ true → list_any (is_variable v) vs ≡ true
    → list_any (is_variable v) us ≡ true
among v [] us h e = absurd (cc)
among v (w ∷ vs) us h e =
    let parts = and_parts (list_any (is_variable w) us) (list_all (λ w. list_any (is_variable w) us) vs) h in
    pick (is_variable v w) (list_any (is_variable v) vs) e
    (λ x. ap (λ u. list_any (is_variable u) us) (same_variable v w x) ∙ parts.0)
    (among v vs us parts.1)
  where
    same_variable : (v w : Variable) → is_variable v w ≡ true → v ≡ w
    same_variable v w e =
        let parts = and_parts (v.number == w.number) (v.sort == w.sort) e in
        let a = eqb-true v.number w.number parts.0 in
        let b = eqb-true v.sort w.sort parts.1 in
        λ i. record { number = a i; sort = b i }

any_of : (v : Variable) (us vs : List Variable) → list_all (λ w. list_any (is_variable w) us) vs ≡ true → list_any (is_variable v) vs ≡ true
    → list_any (is_variable v) us ≡ true
any_of v us vs h e = among v vs us h e

all_parts_true : {X : Type 0} (f : X → Bool) (xs ys : List X) → list_all f (xs ++ ys) ≡ true → (list_all f xs ≡ true) × (list_all f ys ≡ true)
all_parts_true f [] ys e = (refl, e)
all_parts_true f (x ∷ xs) ys e =
    let p = and_parts (f x) (list_all f (xs ++ ys)) e in
    let r = all_parts_true f xs ys p.1 in
    (rw (p.0, r.0) refl, r.1)

pairs_bound : (t : Tree) (ps : List Pair) → list_all (λ v. list_any (is_variable v) (occurrences t)) (pair_occurrences ps) ≡ true → (P : (n s : ℕ) → Type 0)
    → OfTerm P t → OfPairs P ps
pairs_bound t [] h P f = tt
pairs_bound t (p ∷ ps) h P f =
    let test : Variable → Bool = λ v. list_any (is_variable v) (occurrences t) in
    let a = all_parts_true test (occurrences p.left) (occurrences p.right ++ pair_occurrences ps) h in
    let b = all_parts_true test (occurrences p.right) (pair_occurrences ps) a.1 in
    ((λ n s o. f n s (there p.left a.0 n s o), λ n s o. f n s (there p.right b.0 n s o)), pairs_bound t ps b.1 P f)
  where
    there : (x : Tree) → list_all (λ v. list_any (is_variable v) (occurrences t)) (occurrences x) ≡ true → (n s : ℕ) → has_variable x n s ≡ true → has_variable t n s ≡ true
    there x e n s o =
        has_variable-occurrences t n s
        ∙ any_of (record { number = n; sort = s }) (occurrences t) (occurrences x) e (sym (has_variable-occurrences x n s) ∙ o)

-- the variables of a rule's conditions are in its left side
pub conds_bound : (r : Rule) → IsRewriteRule r → (P : (n s : ℕ) → Type 0) → OfTerm P r.left → OfPairs P r.conds
conds_bound r ok P f =
    pairs_bound r.left r.conds
    (all_parts_true (λ v. list_any (is_variable v) (occurrences r.left)) (occurrences r.right) (pair_occurrences r.conds) ok.bound).1 P f

-- What is known of what is due in a fine term.
pub record IsFineDue (th : Theory) (m : ℕ) (path : List ℕ) (r : Replacement) : Type 0 where
  pub terms : AllOfLink (Fine th m) (link_by path r.reason)
  pub low : above r.new ≤ m

rule_terms : (P : Tree → Type 0) (path : List ℕ) (n : RuleName) (ts : List Tree) (cs : Passes) → AllByRecursion P ts → AllOfChains P (chains_by cs)
    → AllOfLink P (link_by path (By_rule n ts cs))
rule_terms P path (name.Equation n) ts cs a b = (a, b)
rule_terms P path (name.Lemma n) ts cs a b = (a, b)

module _ (th : Theory) (wf : IsWellFormed th) (m : ℕ) (one : 1 ≤ m) (o : Option Normaliser) (fining : AreFining th m o) (path : List ℕ) (a : Tree) (f : Fine th m a) where
  abbrev base : Theory
  base = th

  by_rule : (H : List Goal) (q : Rule) → IsRuleOf th H q → (k : ℕ) (r : Replacement) (l : ℕ) → rule_tried o q k a ≡ Made (Some r) l → IsFineDue base m path r
  by_rule H q rule k r l e = go (matches q.left a) refl e
    where
      σ : Substitution
      σ = matching q.left a

      new : Passes → Replacement
      new = rule_replaces q a

      fine_here : instance σ q.left ≡ a → OfTerm (λ n s. Fine base m (σ n s)) q.left
      fine_here is n s h = given_fine base m σ q.left a is f n s h

      go : (b : Bool) → matches q.left a ≡ b → (if b then map_found new (tried o σ q.conds k) else Made None k) ≡ Made (Some r) l → IsFineDue base m path r
      go false g x = absurd (cc)
      go true g x =
          let is : instance σ q.left ≡ a = same_here (instance σ q.left) a g in
          let h = found_map new (tried o σ q.conds k) r l x in
          let left = fine_here is in
          let conds = conds_bound q rule.rewrites (λ n s. Fine base m (σ n s)) left in
          let right : OfTerm (λ n s. Fine base m (σ n s)) q.right = λ n s y. left n s (bound_in_left q rule.rewrites n s y) in
          let chains = holds_fine base m o fining σ q.conds
          (low_pairs base m σ (matching_substitution base.signature q.left a f.sorted) q.conds (all_sorted base q.conds rule.sorted.conds) conds) k h.0 l h.1 in
          subst (IsFineDue base m path) h.2
          (record {
            terms = rule_terms (Fine base m) path q.name (terms_by σ (rule_variables q)) h.0 (all_terms (Fine base m) (rule_goal q) σ left right conds) chains;
            low = instance_low m σ q.right (λ n s y. (right n s y).low);
          })

  by_rules : (H : List Goal) (rs : List Rule) → AllByRecursion (IsRuleOf th H) rs → (k : ℕ) (r : Replacement) (l : ℕ) → rules_tried o rs k a ≡ Made (Some r) l
      → IsFineDue base m path r
  by_rules H [] all k r l e = absurd (cc)
  by_rules H (q ∷ rs) all k r l e = go (found_next (rule_tried o q k a) (λ n. rules_tried o rs n a) r l e) (λ n x. by_rules H rs all.1 n r l x)
    where
      go : (rule_tried o q k a ≡ Made (Some r) l) ⊎ ((n : ℕ) × (rule_tried o q k a ≡ Made None n) × (rules_tried o rs n a ≡ Made (Some r) l))
          → ((n : ℕ) → rules_tried o rs n a ≡ Made (Some r) l → IsFineDue base m path r) → IsFineDue base m path r
      go (inl x) ih = by_rule H q all.0 k r l x
      go (inr x) ih = ih x.0 x.2

  by_assumption : (A : List Pair) → AllByRecursion (IsAssumption base m) A → (r : Replacement) → assumed 0 A a ≡ Some r → IsFineDue base m path r
  by_assumption A all r e =
      let h = assumed_is 0 A a r e in
      let g = all_at (IsAssumption base m) A h.0 h.1 all h.2 in
      subst (IsFineDue base m path) (sym h.4) (record { terms = tt; low = g.low })

by_content : (th : Theory) → IsWellFormed th → (m : ℕ) → 1 ≤ m → (path : List ℕ) (a : Tree) → Fine th m a → (r : Replacement)
    → content_due th.signature a ≡ Some r → IsWithinLimits r.new → IsFineDue th m path r
by_content th wf m one path (Var n s) f r e w = absurd (cc)
by_content th wf m one path (App g s ts) f r e w = go (is_same form a) e
  where
    a : Tree
    a = App g s ts

    form : Tree
    form = canonical_under th.signature g a

    new : Replacement
    new = record { reason = By_content g form; new = form }

    sorted : IsWellSorted th.signature form
    sorted = rw f.sorted.1 (is_canonical th wf g f.sorted.0 f.sorted.1 a f.sorted).well_sorted

    low : above form ≤ m
    low = canonical_low m th.signature g a one f.low

    go : (b : Bool) → (if b then None else Some new) ≡ Some r → IsFineDue th m path r
    go true x = absurd (cc)
    go false x =
        let is : new ≡ r = same_Some new r x in
        let P : Replacement → Type 0 = λ y. IsWithinLimits y.new in
        subst (IsFineDue th m path) is (record { terms = record { sorted = sorted; within = subst P (sym is) w; low = low }; low = low })

module _ (th : Theory) (wf : IsWellFormed th) (m : ℕ) (one : 1 ≤ m) (H : List Goal) (rules : List Rule) (all : AllByRecursion (IsRuleOf th H) rules)
    (A : List Pair) (fine : AllByRecursion (IsAssumption th m) A) where
  abbrev sig : Signature
  sig = th.signature

  due_fine : (o : Option Normaliser) → AreFining th m o → (path : List ℕ) (a : Tree) → Fine th m a → (k : ℕ) (r : Replacement) (l : ℕ)
      → due_trying o sig rules A k a ≡ Made (Some r) l → IsWithinLimits r.new → IsFineDue th m path r
  due_fine o fining path (Var n s) f k r l e w = by_assumption th wf m one o fining path (Var n s) f A fine r (same_parts (assumed 0 A (Var n s)) r k l e)
    where
      same_parts : (x : Option Replacement) (y : Replacement) (i j : ℕ) → Made x i ≡ Made (Some y) j → x ≡ Some y
      same_parts x y i j z = cc
  due_fine o fining path (App g s ts) f k r l e w = first (assumed 0 A a) refl e
    where
      a : Tree
      a = App g s ts

      second : (x : Option Replacement) → content_due sig a ≡ x → option_map_or (λ y. Made (Some y) k) x (rules_tried o rules k a) ≡ Made (Some r) l → IsFineDue th m path r
      second None c z = by_rules th wf m one o fining path a f H rules all k r l z
      second (Some y) c z = by_content th wf m one path a f r (c ∙ ap Some (same_found y r k l z).0) w

      first : (x : Option Replacement) → assumed 0 A a ≡ x
          → option_map_or (λ y. Made (Some y) k) (option_or x (content_due sig a)) (rules_tried o rules k a) ≡ Made (Some r) l → IsFineDue th m path r
      first None c z = second (content_due sig a) refl z
      first (Some y) c z = by_assumption th wf m one o fining path a f A fine r (c ∙ ap Some (same_found y r k l z).0)

  pub sorted_assumptions : (B : List Pair) → AllByRecursion (IsAssumption th m) B → AllByRecursion (IsWellSortedPair sig) B
  sorted_assumptions [] b = tt
  sorted_assumptions (p ∷ ps) b = (b.0.sorted, sorted_assumptions ps b.1)

  abbrev pub around : List Place → Setting
  around G = setting th G H A

  -- what a run_from that began with the traces ts ends with
  record IsFineRun (u : Tree) (ts us : List Traced) : Type 0 where
    traces : List Traced
    are : us ≡ ts ++ traces
    last : Fine th m u
    terms : AllOfLinks (Fine th m) (map link_of traces)

  module _ (o : Option Normaliser) (fining : AreFining th m o) (sounds : (k : ℕ) (a : Tree) (d : Replacement) (l : ℕ) → IsWellSorted sig a → due_trying o sig rules A k a ≡ Made (Some d) l → IsSound (around []) a d) where
    abbrev due : (budget : ℕ) → Tree → Work (Option Replacement)
    due = due_trying o sig rules A

    same_normal : (t u : Tree) (ts us : List Traced) (k l : ℕ) → Normal_form t ts k ≡ Normal_form u us l → (t ≡ u) × (ts ≡ us)
    same_normal t u ts us k l e = (cc, cc)

    ended : (t u : Tree) (ts us : List Traced) (k l : ℕ) → Fine th m t → Normal_form t ts k ≡ Normal_form u us l → IsFineRun u ts us
    ended t u ts us k l f e =
        let p = same_normal t u ts us k l e in
        record { traces = []; are = sym p.1 ∙ sym (append-nil ts); last = subst (Fine th m) p.0 f; terms = tt }

    run_fine : (n : ℕ) (from : List ℕ) (t u : Tree) (ts us : List Traced) (k l : ℕ) → Fine th m t → run_from due n from t ts k ≡ Normal_form u us l → IsFineRun u ts us
    run_fine zero from t u ts us k l f e = go (look_from due from t k) e
      where
        go : (x : Work (Option Placed)) → looked due (λ q j. Budget_spent) t ts x ≡ Normal_form u us l → IsFineRun u ts us
        go (Made (Some q) j) z = absurd (cc)
        go (Made None j) z = ended t u ts us j l f z
        go Out z = absurd (cc)
        go (Past y j) z = absurd (cc)
    run_fine (suc n) from t u ts us k l f e = go (look_from due from t k) refl e (λ p v vs j y z. run_fine n p v u vs us j l y z)
      where
        go : (x : Work (Option Placed)) → look_from due from t k ≡ x → looked due (make due (run_from due n) t ts) t ts x ≡ Normal_form u us l
            → ((p : List ℕ) (v : Tree) (vs : List Traced) (j : ℕ) → Fine th m v → run_from due n p v vs j ≡ Normal_form u us l → IsFineRun u vs us)
            → IsFineRun u ts us
        go (Made None j) x z ih = ended t u ts us j l f z
        go Out x z ih = absurd (cc)
        go (Past y j) x z ih = absurd (cc)
        go (Made (Some q) zero) x z ih = absurd (cc)
        go (Made (Some q) (suc j)) x z ih = at_limit (first_limit new.0) refl
          where
            there : IsDueAt due t q (suc j)
            there = look_from_there due from t k q (suc j) x

            new : (v : Tree) × (replaced t q.path q.replacement.new ≡ Some v)
            new = replaced_there q.path t there.0 q.replacement.new there.1

            at_limit : (y : Option Limit) → first_limit new.0 ≡ y → IsFineRun u ts us
            at_limit (Some y) g = absurd (let h = rw (new.1, g) at z in cc)
            at_limit None g =
                let old = at_fine th m q.path t there.0 f there.1 in
                let s = sounds there.2 there.0 q.replacement (suc j) old.sorted there.3 in
                let sorts = replaced_sorted th q.path t there.0 q.replacement.new new.0 f.sorted there.1 s.keeps new.1 in
                let d = due_fine o fining q.path there.0 old there.2 q.replacement (suc j) there.3 (replaced_within q.path t q.replacement.new new.0 new.1 g) in
                let low = replaced_low m q.path t q.replacement.new new.0 new.1 f.low d.low in
                let rest = ih q.path new.0 (ts ++ traced q ∷ []) j (record { sorted = sorts.well_sorted; within = g; low = low }) (rw (new.1, g) at z) in
                record {
                  traces = traced q ∷ rest.traces;
                  are = rest.are ∙ append_assoc ts (traced q ∷ []) rest.traces;
                  last = rest.last;
                  terms = (d.terms, rest.terms);
                }

    form_fine : IsFining th m (λ k t. run_from due k [] t [] k)
    form_fine k t u ts l f e =
        let r = run_fine k [] t u [] ts k l f e in
        (r.last, subst (λ vs. AllOfLinks (Fine th m) (map link_of vs)) (sym r.are) r.terms)

  sounds_with : (n : ℕ) (k : ℕ) (a : Tree) (d : Replacement) (l : ℕ) → IsWellSorted sig a → due_trying (inner_norm n sig rules A) sig rules A k a ≡ Made (Some d) l → IsSound (around []) a d
  sounds_with n =
      sound (around []) wf (sorted_assumptions A fine) (inner_norm n sig rules A) (inner_links (around []) wf (sorted_assumptions A fine) rules all n) rules all

  pub inner_fine : (n : ℕ) → AreFining th m (inner_norm n sig rules A)
  inner_fine zero = tt
  inner_fine (suc n) = form_fine (inner_norm n sig rules A) (inner_fine n) (sounds_with n)

  pub norm_fine : (n : ℕ) → IsFining th m (norm_with_room n sig rules A)
  norm_fine n = form_fine (inner_norm n sig rules A) (inner_fine n) (sounds_with n)

  pub normal_form_led : (G : List Place) (t u : Tree) (traces : List Traced) (k left : ℕ) → Fine th m t
      → conditional_norm 0 sig rules A k t ≡ Normal_form u traces left → Led (around G) m (map link_of traces) t u
  normal_form_led G t u traces k left f e =
      let links = norm_links (around G) wf (sorted_assumptions A fine) rules all (try_limit - 0) k t u traces left f.sorted e in
      let fines = norm_fine (try_limit - 0) k t u traces left f e in
      record { leads = links.lead; fine = fines.0; same_sort = links.same_sort; terms = fines.1; nests = norm_nests (try_limit - 0) sig rules A k t u traces left e }

  pub normalised_led : (G : List Place) (t : Tree) (k : ℕ) (n : NormalSide) → Fine th m t → normalised_trying th rules A t k ≡ Ok n → Led (around G) m n.links t n.term
  normalised_led G t k n f e = go (conditional_norm 0 sig rules A k t) refl e
    where
      same : (x y : NormalSide) → ◌≡◌ {A = Result NormalSide Stop} (Ok x) (Ok y) → x ≡ y
      same x y e = cc

      go : (x : Normalised) → conditional_norm 0 sig rules A k t ≡ x → side_of x ≡ Ok n → Led (around G) m n.links t n.term
      go (Normal_form u traces left) x y =
          subst (λ z. Led (around G) m z.links t z.term) (same (normal_side u (map link_of traces) left) n y) (normal_form_led G t u traces k left f x)
      go Budget_spent x y = absurd (cc)
      go (Limit_passed l left) x y = absurd (cc)
