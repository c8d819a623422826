-- What is due is what a link asks, and keeps terms well-sorted.
use Rattle.std.proofs.Common.{◌≡◌, ℕ, ◌+◌, suc, Bool, true, false, ◌==◌, ◌&&◌, ◌||◌, if◌then◌else◌, List, [], ◌∷◌, Option, Some, None, refl, ap, sym, subst, ◌∙◌, arith}
use Rattle.std.specs.List.{slice_get, list_any, AllByRecursion}
use Rattle.std.specs.Option.{option_or}
use Rattle.std.proofs.lemmas.Bool.{eqb-true, eq-eqb, and_parts}
use Rattle.std.proofs.lemmas.Option.{same_Some}
use Rattle.circ_term.specs.Tree.{Tree, Trees, Var, App, none, more, sort_of, at, replaced}
use Rattle.circ_term.specs.Limits.{IsWithinLimits}
use Rattle.circ_term.specs.Order.{is_same}
use Rattle.circ_term.specs.Substitution.{Substitution, KeepsSorts, instance}
use Rattle.circ_term.proofs.Order.{same_here}
use Rattle.circ_theory.specs.Signature.{Signature, IsWellSorted, HaveSorts, IsSubstitution}
use Rattle.circ_theory.specs.Theory.{Theory, Pair, goal_of, IsWellSortedPair}
use Rattle.circ_theory.specs.WellFormed.{IsWellFormed}
use Rattle.circ_theory.specs.Variables.{Variable, is_variable, is_before, put_in_order, sorted, variables_of, FitVariables, given}
use Rattle.circ_theory.specs.Rewriting.{RewritesBy, by_terms}
use Rattle.circ_theory.specs.Goal.{Goal}
use Rattle.circ_theory.specs.declared.way.Way.TheVariants.{Forth}
use Rattle.circ_theory.proofs.Lists.{all_at}
use Rattle.circ_theory.proofs.Instances.{sort_of-instance_by, instance_well_sorted}
use Rattle.circ_theory.proofs.Sorting.{KeepsSort, at_sorted, replaced_sorted}
use Rattle.circ_aci.specs.Content.{HasContentOf}
use Rattle.circ_aci.specs.Canonical.{canonical_under}
use Rattle.circ_aci.proofs.Again.{is_canonical}
use Rattle.circ_proof.specs.Plain.{no_chain}
use Rattle.circ_proof.specs.Link.{Setting, Leads, ConditionsLead}
use Rattle.circ_match.specs.Matcher.{has_variable}
use Rattle.circ_match.proofs.Variables.{instance-variable}
use Rattle.circ_rewrite.specs.Replacement.{Replacement, Traced, By_rule, By_assumption, By_content, no_pass}
use Rattle.circ_rewrite.specs.Matching.{image, images, matching, matches}
use Rattle.circ_rewrite.specs.Due.{assumed, content_due, rule_goal, rule_variables, terms_by, ruled, due_under, IsRewriteRule, AreUnconditional}
use Rattle.circ_rewrite.specs.Reductions.{TracesLead}
use Rattle.circ_rewrite.specs.Links.{link_by, link_of, IsNamed, IsRuleOf, AreLinks}
use Rattle.circ_rewrite.specs.declared.parts.Rule.{Rule}
use Rattle.circ_rewrite.specs.declared.parts.RuleName.{RuleName}
use Rattle.circ_rewrite.specs.declared.parts.RuleName.TheVariants as name
use Rattle.circ_rewrite.proofs.MatchingFacts.{matching-sorts}
use Rattle.circ_rewrite.proofs.RuleTerms.{bound_in_left, of_left}

-- ---- what the terms of a trace give back

any_put : (p : Variable → Bool) (v : Variable) (ws : List Variable) → list_any p (put_in_order v ws) ≡ (p v || list_any p ws)
any_put p v [] = refl
any_put p v (w ∷ ws) = go (is_before w v) (any_put p v ws)
  where
    swap : (a b c : Bool) → (a || (b || c)) ≡ (b || (a || c))
    swap true true c = refl
    swap true false c = refl
    swap false true c = refl
    swap false false c = refl

    go : (b : Bool) → list_any p (put_in_order v ws) ≡ (p v || list_any p ws)
        → list_any p (if b then w ∷ put_in_order v ws else v ∷ w ∷ ws) ≡ (p v || (p w || list_any p ws))
    go true ih = ap (λ b. p w || b) ih ∙ swap (p w) (p v) (list_any p ws)
    go false ih = refl

pub any_sorted : (p : Variable → Bool) (vs : List Variable) → list_any p (sorted vs) ≡ list_any p vs
any_sorted p [] = refl
any_sorted p (v ∷ vs) = any_put p v (sorted vs) ∙ ap (λ b. p v || b) (any_sorted p vs)

pub fit_given : (σ : Substitution) → KeepsSorts σ → (vs : List Variable) → FitVariables vs (terms_by σ vs)
fit_given σ k [] = tt
fit_given σ k (v ∷ vs) = (k v.number v.sort, fit_given σ k vs)

flip : (v w : Variable) → is_variable v w ≡ true → is_variable w v ≡ true
flip v w e =
    let p = and_parts (v.number == w.number) (v.sort == w.sort) e in
    rw (eq-eqb w.number v.number (sym (eqb-true v.number w.number p.0)), eq-eqb w.sort v.sort (sym (eqb-true v.sort w.sort p.1))) refl

pub given_back : (σ : Substitution) (vs : List Variable) (n s : ℕ) → list_any (is_variable (record { number = n; sort = s })) vs ≡ true
    → given vs (terms_by σ vs) n s ≡ σ n s
given_back σ [] n s e = absurd (cc)
given_back σ (v ∷ vs) n s e = go (given_back σ vs n s) ((v.number == n) && (v.sort == s)) refl
  where
    x : Variable
    x = record { number = n; sort = s }

    later : is_variable v x ≡ false → (b : Bool) → is_variable x v ≡ b → (b || list_any (is_variable x) vs) ≡ true → list_any (is_variable x) vs ≡ true
    later f false g e = e
    later f true g e = absurd (let z = sym f ∙ flip x v g in cc)

    go : (list_any (is_variable x) vs ≡ true → given vs (terms_by σ vs) n s ≡ σ n s)
        → (b : Bool) → is_variable v x ≡ b → (if b then σ v.number v.sort else given vs (terms_by σ vs) n s) ≡ σ n s
    go ih true f =
        let p = and_parts (v.number == n) (v.sort == s) f in
        ap (λ m. σ m v.sort) (eqb-true v.number n p.0) ∙ ap (σ n) (eqb-true v.sort s p.1)
    go ih false f = ih (later f (is_variable x v) refl e)

-- on terms whose variables are the rule's
given_instance : (r : Rule) → IsRewriteRule r → (σ : Substitution) (t : Tree) → ((n s : ℕ) → has_variable t n s ≡ true → has_variable r.left n s ≡ true)
    → instance (given (rule_variables r) (terms_by σ (rule_variables r))) t ≡ instance σ t
given_instance r ok σ t within =
    instance-variable (given (rule_variables r) (terms_by σ (rule_variables r))) σ t
    (λ n s h. given_back σ (rule_variables r) n s
    (any_sorted (is_variable (record { number = n; sort = s })) (variables_of (rule_goal r)) ∙ sym (of_left r ok n s) ∙ within n s h))

-- ---- what matching gives is well-sorted

mutual
  pub image_sorted : (sig : Signature) (p t : Tree) (n s : ℕ) (u : Tree) → IsWellSorted sig t → image p t n s ≡ Some u → IsWellSorted sig u
  image_sorted sig (Var m k) t n s u w e = go ((m == n) && (k == s)) (sort_of t == s) e
    where
      go : (a b : Bool) → (if a then (if b then Some t else None) else None) ≡ Some u → IsWellSorted sig u
      go false b x = absurd (cc)
      go true false x = absurd (cc)
      go true true x = subst (λ v. IsWellSorted sig v) (same_Some t u x) w
  image_sorted sig (App f k ps) (Var m j) n s u w e = absurd (cc)
  image_sorted sig (App f k ps) (App g j ts) n s u w e = images_sorted sig ps ts w.0.args n s u w.3 e

  images_sorted : (sig : Signature) (ps ts : Trees) (ss : List ℕ) (n s : ℕ) (u : Tree) → HaveSorts sig ts ss → images ps ts n s ≡ Some u → IsWellSorted sig u
  images_sorted sig none ts ss n s u h e = absurd (cc)
  images_sorted sig (more p ps) none ss n s u h e = absurd (cc)
  images_sorted sig (more p ps) (more t ts) [] n s u h e = absurd h
  images_sorted sig (more p ps) (more t ts) (k ∷ ss) n s u h e = go (image p t n s) refl (image_sorted sig p t n s u h.1) (images_sorted sig ps ts ss n s u h.2)
    where
      go : (o : Option Tree) → image p t n s ≡ o → (image p t n s ≡ Some u → IsWellSorted sig u) → (images ps ts n s ≡ Some u → IsWellSorted sig u) → IsWellSorted sig u
      go None f a b = b (rw f at e)
      go (Some x) f a b = a (f ∙ (rw f at e))

pub matching_substitution : (sig : Signature) (p t : Tree) → IsWellSorted sig t → IsSubstitution sig (matching p t)
matching_substitution sig p t w n s l = (matching-sorts p t n s, go (image p t n s) refl)
  where
    go : (o : Option Tree) → image p t n s ≡ o → IsWellSorted sig (matching p t n s)
    go None f = rw f l
    go (Some x) f = rw f (image_sorted sig p t n s x w f)

-- ---- one replacement, of a by r.new at the path of t

-- What is known of a replacement that is made in a well-sorted term.
record IsSound (c : Setting) (path : List ℕ) (r : Replacement) (t a u : Tree) : Type 0 where
  leads : Leads c (link_by path r.reason) t u
  keeps : KeepsSort c.theory a r.new

module _ (c : Setting) (ok : IsWellFormed c.theory) where
  abbrev th : Theory
  th = c.theory

  abbrev goals : List Goal
  goals = c.hypotheses

  -- where a goal has no conditions, no chain is asked
  nothing_asked : (σ : Substitution) (ps : List Pair) → ps ≡ [] → ConditionsLead c σ ps no_chain
  nothing_asked σ ps e = subst (λ qs. ConditionsLead c σ qs no_chain) (sym e) tt

  by_rule : (r : Rule) → IsRuleOf th goals r → r.conds ≡ [] → (path : List ℕ) (t a u : Tree) → at t path ≡ Some a → IsWellSorted th.signature a → matches r.left a ≡ true
      → replaced t path (instance (matching r.left a) r.right) ≡ Some u → IsWithinLimits u
      → IsSound c path (record { reason = By_rule r.name (terms_by (matching r.left a) (rule_variables r)) no_pass; new = instance (matching r.left a) r.right }) t a u
  by_rule r rule plain path t a u there w m made within = record { leads = go r.name rule.named; keeps = keeps }
    where
      σ : Substitution
      σ = matching r.left a

      vs : List Variable
      vs = rule_variables r

      is : instance σ r.left ≡ a
      is = same_here (instance σ r.left) a m

      left : instance (given vs (terms_by σ vs)) r.left ≡ a
      left = given_instance r rule.rewrites σ r.left (λ n s h. h) ∙ is

      right : instance (given vs (terms_by σ vs)) r.right ≡ instance σ r.right
      right = given_instance r rule.rewrites σ r.right (bound_in_left r rule.rewrites)

      rewrites : RewritesBy (rule_goal r) Forth path (terms_by σ vs) t u
      rewrites = record {
        fit = fit_given σ (matching-sorts r.left a) vs;
        replaces = record { there = there ∙ ap Some (sym left); made = ap (replaced t path) right ∙ made; within = within };
      }

      go : (name : RuleName) → IsNamed th goals name (rule_goal r) → Leads c (link_by path (By_rule name (terms_by σ vs) no_pass)) t u
      go (name.Equation n) h = (
        record { equation = h.0; listed = h.1; rewrites = subst (λ g. RewritesBy g Forth path (terms_by σ vs) t u) (sym h.2) rewrites },
        nothing_asked (by_terms (goal_of h.0) (terms_by σ vs)) h.0.conds (ap (λ g. g.conds) h.2 ∙ plain),
      )
      go (name.Lemma n) h = (
        record { hypothesis = rule_goal r; listed = h.0; rewrites = rewrites; special = λ hidden. absurd (h.1 hidden) },
        nothing_asked (by_terms (rule_goal r) (terms_by σ vs)) r.conds plain,
      )

      keeps : KeepsSort th a (instance σ r.right)
      keeps =
          let s = matching_substitution th.signature r.left a w in
          record {
            well_sorted = instance_well_sorted th.signature σ r.right s rule.sorted.sorted.right;
            same_sort =
                sort_of-instance_by th.signature σ r.right s rule.sorted.sorted.right ∙ rule.sorted.sorted.same_sort
                ∙ sym (sort_of-instance_by th.signature σ r.left s rule.sorted.sorted.left) ∙ ap sort_of is;
          }

  by_rules : (rs : List Rule) → AllByRecursion (IsRuleOf th goals) rs → AreUnconditional rs → (path : List ℕ) (r : Replacement) (t a u : Tree) → at t path ≡ Some a
      → IsWellSorted th.signature a → ruled rs a ≡ Some r → replaced t path r.new ≡ Some u → IsWithinLimits u → IsSound c path r t a u
  by_rules [] all plain path r t a u there w e made within = absurd (cc)
  by_rules (q ∷ rs) all plain path r t a u there w e made within = go (matches q.left a) refl e (λ x. by_rules rs all.1 plain.1 path r t a u there w x made within)
    where
      new : Replacement
      new = record { reason = By_rule q.name (terms_by (matching q.left a) (rule_variables q)) no_pass; new = instance (matching q.left a) q.right }

      go : (b : Bool) → matches q.left a ≡ b → option_or (if b then Some new else None) (ruled rs a) ≡ Some r → (ruled rs a ≡ Some r → IsSound c path r t a u)
          → IsSound c path r t a u
      go false m x ih = ih x
      go true m x ih =
          let is : new ≡ r = same_Some new r x in
          subst (λ y. IsSound c path y t a u) is (by_rule q all.0 plain.0 path t a u there w m (ap (λ y. replaced t path y.new) is ∙ made) within)

  by_content : (path : List ℕ) (r : Replacement) (t a u : Tree) → at t path ≡ Some a → IsWellSorted th.signature a → content_due th.signature a ≡ Some r
      → replaced t path r.new ≡ Some u → IsWithinLimits u → IsSound c path r t a u
  by_content path r t (Var n s) u there w e made within = absurd (cc)
  by_content path r t (App f s ts) u there w e made within = go (is_same form a) e
    where
      a : Tree
      a = App f s ts

      form : Tree
      form = canonical_under th.signature f a

      kept : KeepsSort th a form × HasContentOf th.signature f a form
      kept =
          let l = is_canonical th ok f w.0 w.1 a w in
          rw w.1 (
            record { well_sorted = l.well_sorted; same_sort = l.same_sort },
            record { operator = w.0; there = w.1; same_sort = l.same_sort; same_content = sym l.same_content },
          )

      go : (b : Bool) → (if b then None else Some (record { reason = By_content f form; new = form })) ≡ Some r → IsSound c path r t a u
      go true x = absurd (cc)
      go false x =
          let new : Replacement = record { reason = By_content f form; new = form } in
          let is : new ≡ r = same_Some new r x in
          subst (λ y. IsSound c path y t a u) is
          (record {
            leads = record {
              old = a;
              content = kept.1;
              replaces = record { there = there; made = ap (λ y. replaced t path y.new) is ∙ made; within = within };
            };
            keeps = kept.0;
          })

pub assumed_is : (n : ℕ) (A : List Pair) (t : Tree) (r : Replacement) → assumed n A t ≡ Some r
    → (i : ℕ) × (p : Pair) × (slice_get A i ≡ Some p) × (p.left ≡ t) × (r ≡ record { reason = By_assumption (n + i); new = p.right })
assumed_is n [] t r e = absurd (cc)
assumed_is n (p ∷ ps) t r e = go (is_same p.left t) refl (assumed_is (n + 1) ps t r) e
  where
    go : (b : Bool) → is_same p.left t ≡ b
        → (assumed (n + 1) ps t ≡ Some r → (i : ℕ) × (h : Pair) × (slice_get ps i ≡ Some h) × (h.left ≡ t) × (r ≡ record { reason = By_assumption (n + 1 + i); new = h.right }))
        → option_or (if b then Some (record { reason = By_assumption n; new = p.right }) else None) (assumed (n + 1) ps t) ≡ Some r
        → (i : ℕ) × (h : Pair) × (slice_get (p ∷ ps) i ≡ Some h) × (h.left ≡ t) × (r ≡ record { reason = By_assumption (n + i); new = h.right })
    go true m ih x =
        let z : n ≡ n + 0 = omega arith in
        (0, p, refl, same_here p.left t m, sym (same_Some _ r x) ∙ ap (λ k. record { reason = By_assumption k; new = p.right }) z)
    go false m ih x =
        let h = ih x in
        let z : n + 1 + h.0 ≡ n + suc h.0 = omega arith in
        (suc h.0, h.1, h.2, h.3, h.4 ∙ ap (λ k. record { reason = By_assumption k; new = h.1.right }) z)

module _ (c : Setting) (ok : IsWellFormed c.theory) (fine : AllByRecursion (IsWellSortedPair c.theory.signature) c.assumptions) where
  by_assumption : (path : List ℕ) (r : Replacement) (t a u : Tree) → at t path ≡ Some a → assumed 0 c.assumptions a ≡ Some r
      → replaced t path r.new ≡ Some u → IsWithinLimits u → IsSound c path r t a u
  by_assumption path r t a u there e made within =
      let h = assumed_is 0 c.assumptions a r e in
      let new : Replacement = record { reason = By_assumption h.0; new = h.1.right } in
      let z : 0 + h.0 ≡ h.0 = omega arith in
      let is : new ≡ r = ap (λ k. record { reason = By_assumption k; new = h.1.right }) (sym z) ∙ sym h.4 in
      let sorted = all_at (IsWellSortedPair c.theory.signature) c.assumptions h.0 h.1 fine h.2 in
      subst (λ y. IsSound c path y t a u) is
      (record {
        leads = record {
          assumed = h.1;
          listed = h.2;
          replaces = record { there = there ∙ ap Some (sym h.3); made = ap (λ y. replaced t path y.new) is ∙ made; within = within };
        };
        keeps = record { well_sorted = sorted.right; same_sort = sorted.same_sort ∙ ap sort_of h.3 };
      })

  module _ (rules : List Rule) (all : AllByRecursion (IsRuleOf c.theory c.hypotheses) rules) (plain : AreUnconditional rules) where
    sound : (path : List ℕ) (r : Replacement) (t a u : Tree) → at t path ≡ Some a → IsWellSorted c.theory.signature a → due_under c.theory.signature rules c.assumptions a ≡ Some r
        → replaced t path r.new ≡ Some u → IsWithinLimits u → IsSound c path r t a u
    sound path r t (Var n s) u there w e made within = by_assumption path r t (Var n s) u there e made within
    sound path r t (App f s ts) u there w e made within = first (assumed 0 c.assumptions (App f s ts)) refl e
      where
        second : (o : Option Replacement) → content_due c.theory.signature (App f s ts) ≡ o → option_or o (ruled rules (App f s ts)) ≡ Some r
            → IsSound c path r t (App f s ts) u
        second None g x = by_rules c ok rules all plain path r t (App f s ts) u there w x made within
        second (Some y) g x = by_content c ok path r t (App f s ts) u there w (g ∙ x) made within

        first : (o : Option Replacement) → assumed 0 c.assumptions (App f s ts) ≡ o
            → option_or o (option_or (content_due c.theory.signature (App f s ts)) (ruled rules (App f s ts))) ≡ Some r
            → IsSound c path r t (App f s ts) u
        first None g x = second (content_due c.theory.signature (App f s ts)) refl x
        first (Some y) g x = by_assumption path r t (App f s ts) u there (g ∙ x) made within

    pub are_links : (traces : List Traced) (t u : Tree) → IsWellSorted c.theory.signature t → TracesLead (due_under c.theory.signature rules c.assumptions) traces t u
        → AreLinks c traces t u
    are_links [] t u w e = subst (λ x. AreLinks c [] t x) e (record { lead = refl; well_sorted = w; same_sort = refl })
    are_links (tr ∷ ts) t u w h =
        let step = h.3 in
        let one = sound tr.path h.0 t step.old h.1 step.there (at_sorted c.theory tr.path t step.old w step.there) step.is_due step.made step.within in
        let sorts = replaced_sorted c.theory tr.path t step.old h.0.new h.1 w step.there one.keeps step.made in
        let rest = are_links ts h.1 u sorts.well_sorted h.4 in
        record {
          lead = (h.1, subst (λ x. Leads c (link_of x) t h.1) (sym h.2) one.leads, rest.lead);
          well_sorted = rest.well_sorted;
          same_sort = rest.same_sort ∙ sorts.same_sort;
        }
