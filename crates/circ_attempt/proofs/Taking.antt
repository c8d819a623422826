-- What is taken by a hypothesis as a rule is a use of it.
use Rattle.std.proofs.Common.{◌≡◌, ◌⊎◌, inl, inr, ℕ, zero, suc, ◌+◌, Bool, true, false, if◌then◌else◌, List, [], ◌∷◌, ◌++◌, length, drop, Option, Some, None, refl, ap, subst, ◌∙◌, arith}
use Rattle.std.specs.Prelude.{not, ◌&&◌}
use Rattle.std.specs.List.{slice_get, AllByRecursion}
use Rattle.std.specs.Option.{unwrap_or}
use Rattle.circ_term.specs.Tree.{Tree, Var, sort_of}
use Rattle.circ_term.specs.Substitution.{Substitution, instance}
use Rattle.circ_term.proofs.Order.{same_here}
use Rattle.circ_theory.specs.Theory.{Theory, Pair, sides}
use Rattle.circ_theory.specs.Variables.{sorted, variables_of}
use Rattle.circ_theory.specs.Observing.{is_hidden}
use Rattle.circ_theory.specs.Rewriting.{from_side, to_side, by_terms}
use Rattle.circ_theory.specs.Goal.{Goal}
use Rattle.circ_theory.specs.declared.way.Way.{Way}
use Rattle.circ_theory.specs.declared.way.Way.TheVariants.{Forth, Back}
use Rattle.circ_theory.proofs.Lists.{all_at}
use Rattle.circ_proof.specs.Link.{Setting}
use Rattle.circ_rewrite.specs.Due.{terms_by}
use Rattle.circ_rewrite.specs.Matching.{image, matching, matches}
use Rattle.circ_rewrite.specs.Replacement.{Passes}
use Rattle.circ_rewrite.proofs.Linked.{fit_given, matching_substitution}
use Rattle.circ_rewrite.proofs.MatchingFacts.{matching-sorts}
use Rattle.circ_conditional_norm.specs.Tries.{Normaliser, tried}
use Rattle.circ_conditional_norm.specs.Work.{Made, map_found}
use Rattle.circ_conditional_norm.proofs.Given.{gives_back}
use Rattle.circ_conditional_norm.proofs.Linked.{IsLinking, holds_lead, lead_same, all_sorted}
use Rattle.circ_conditional_norm.proofs.Working.{found_map, found_next}
use Rattle.circ_plain_search.specs.BlockRules.{can_rewrite}
use Rattle.circ_plain_search.specs.Joining.{HypothesisUse}
use Rattle.circ_plain_search.proofs.Led.{all_append}
use Rattle.circ_plain_search.proofs.Rules.{BeginsWith}
use Rattle.circ_plain_search.proofs.Terms.{Fine, instance_low}
use Rattle.circ_conditional_search.specs.Joining.{use_passing}
use Rattle.circ_conditional_search.proofs.Derived.{FineCond, FineGoal, FineGoals, are_conditions, goals_sorted}
use Rattle.circ_conditional_search.proofs.GoalTerms.{OfTerm, OfPairs, all_terms}
use Rattle.circ_conditional_search.proofs.Joins.{image_fine, variable_sort, variable_low}
use Rattle.circ_conditional_search.proofs.Nesting.{IsNesting, holds_nest}
use Rattle.circ_conditional_search.proofs.Normals.{IsFining, low_pairs, holds_fine}
use Rattle.circ_conditional_search.proofs.Uses.{IsUse}
use Rattle.circ_attempt.specs.Attempt.{derived_rules}
use Rattle.circ_attempt.specs.Rules.{HypothesisRule, read_as, turned, can_read, match_each_other, or_no_rule, is_even, shrinks_back, own_rule, own_rules, lemma_of, lemmas_of, may_take, old_side, new_by, rule_use, first_rule_use}
use Rattle.circ_attempt.proofs.Sweeping.{IsTaking}

-- ---- rules are hypotheses

-- A rule is the hypothesis of its number.
pub record IsListed (H : List Goal) (r : HypothesisRule) : Type 0 where
  pub listed : slice_get H r.number ≡ Some r.hypothesis

abbrev pub AreListed : List Goal → List HypothesisRule → Type 0
AreListed H rs = AllByRecursion (IsListed H) rs

-- these stand among the hypotheses from a number on
abbrev StandFrom : (hypotheses : List Goal) (n : ℕ) (goals : List Goal) → Type 0
StandFrom H n gs = (k : ℕ) (g : Goal) → slice_get gs k ≡ Some g → slice_get H (n + k) ≡ Some g

stands_first : (H : List Goal) (n : ℕ) (g : Goal) (gs : List Goal) → StandFrom H n (g ∷ gs) → slice_get H n ≡ Some g
stands_first H n g gs s = ap (slice_get H) (let e : n ≡ n + 0 = omega arith in e) ∙ s zero g refl

stand_next : (H : List Goal) (n : ℕ) (g : Goal) (gs : List Goal) → StandFrom H n (g ∷ gs) → StandFrom H (n + 1) gs
stand_next H n g gs s k h e = ap (slice_get H) (let m : n + 1 + k ≡ n + suc k = omega arith in m) ∙ s (suc k) h e

stand_behind : (n : ℕ) (H : List Goal) → StandFrom H n (drop n H)
stand_behind zero H k g e = ap (slice_get H) (let z : 0 + k ≡ k = omega arith in z) ∙ e
stand_behind (suc n) [] k g e = absurd (cc)
stand_behind (suc n) (h ∷ hs) k g e = ap (slice_get (h ∷ hs)) (let z : suc n + k ≡ suc (n + k) = omega arith in z) ∙ stand_behind n hs k g e

own_rule_listed : (H : List Goal) (n : ℕ) (b : Bool) (h : Goal) (rest : List HypothesisRule) → slice_get H n ≡ Some h → AreListed H rest
    → AreListed H (or_no_rule (own_rule n b h) rest)
own_rule_listed H n b h rest there all = go (is_even h) (shrinks_back b h) (can_read h) (can_read (turned h))
  where
    go : (u v w x : Bool) → AreListed H
        (or_no_rule (if u then Some (read_as n Forth h true) else if v then Some (read_as n Back h false) else if w then Some (read_as n Forth h false)
        else if x then Some (read_as n Back h false) else None) rest)
    go true v w x = (record { listed = there }, all)
    go false true w x = (record { listed = there }, all)
    go false false true x = (record { listed = there }, all)
    go false false false true = (record { listed = there }, all)
    go false false false false = all

own_rules_listed : (H : List Goal) (n : ℕ) (bs : List Bool) (hs : List Goal) → StandFrom H n hs → AreListed H (own_rules n bs hs)
own_rules_listed H n bs [] s = tt
own_rules_listed H n [] (h ∷ hs) s =
    own_rule_listed H n false h (own_rules (n + 1) [] hs) (stands_first H n h hs s) (own_rules_listed H (n + 1) [] hs (stand_next H n h hs s))
own_rules_listed H n (b ∷ bs) (h ∷ hs) s =
    own_rule_listed H n b h (own_rules (n + 1) bs hs) (stands_first H n h hs s) (own_rules_listed H (n + 1) bs hs (stand_next H n h hs s))

lemma_listed : (th : Theory) (H : List Goal) (n : ℕ) (g : Goal) (rest : List HypothesisRule) → slice_get H n ≡ Some g → AreListed H rest
    → AreListed H (or_no_rule (lemma_of th n g) rest)
lemma_listed th H n g rest there all = go (not (is_hidden th (sort_of g.left))) (can_rewrite g) (can_rewrite (turned g))
  where
    go : (u v w : Bool) → AreListed H
        (or_no_rule (if u then None else if v then Some (read_as n Forth g (match_each_other g)) else if w then Some (read_as n Back g false) else None) rest)
    go true v w = all
    go false true w = (record { listed = there }, all)
    go false false true = (record { listed = there }, all)
    go false false false = all

lemmas_from : (th : Theory) (H : List Goal) (n : ℕ) (gs : List Goal) → StandFrom H n gs → AreListed H (lemmas_of th n gs)
lemmas_from th H n [] s = tt
lemmas_from th H n (g ∷ gs) s =
    lemma_listed th H n g (lemmas_of th (n + 1) gs) (stands_first H n g gs s) (lemmas_from th H (n + 1) gs (stand_next H n g gs s))

pub lemmas_listed : (th : Theory) (H E : List Goal) → BeginsWith H E → AreListed H (lemmas_of th 0 E)
lemmas_listed th H E b = lemmas_from th H 0 E (λ k g e. ap (slice_get H) (let z : 0 + k ≡ k = omega arith in z) ∙ b k g e)

pub attempt_listed : (th : Theory) (H E : List Goal) (bs : List Bool) → BeginsWith H E → AreListed H (lemmas_of th 0 E ++ derived_rules E H bs)
attempt_listed th H E bs b =
    all_append (IsListed H) (lemmas_of th 0 E) (derived_rules E H bs) (lemmas_listed th H E b)
    (own_rules_listed H (length E) bs (drop (length E) H) (stand_behind (length E) H))

-- ---- uses

module _ (c : Setting) (m : ℕ) (fine : FineGoals c.theory m c.hypotheses) (f : Normaliser) (links : IsLinking c f) (fining : IsFining c.theory m f) (nest : IsNesting 7 f) where
  abbrev th : Theory
  th = c.theory

  module _ (q : List ℕ) (a : Tree) (fa : Fine th m a) where
    -- what a variable is given, itself where the side lacks it
    given_fine : (p t : Tree) → Fine th m t → OfTerm (λ n s. Fine th m (matching p a n s)) t
    given_fine p t ft n s h = go (image p a n s) refl
      where
        go : (o : Option Tree) → image p a n s ≡ o → Fine th m (unwrap_or o (Var n s))
        go (Some x) e = image_fine th m p a n s x fa e
        go None e = record { sorted = variable_sort th.signature t n s ft.sorted h; within = refl; low = (let x = variable_low t n s h in let y = ft.low in omega (arith, x, y)) }

    given_pairs : (p : Tree) (ps : List Pair) → AllByRecursion (FineCond th m) ps → OfPairs (λ n s. Fine th m (matching p a n s)) ps
    given_pairs p [] f = tt
    given_pairs p (r ∷ ps) f = ((given_fine p r.left f.0.left, given_fine p r.right f.0.right), given_pairs p ps f.1)

    to_fine : (w : Way) (h : Goal) → FineGoal th m h → Fine th m (to_side w (sides h))
    to_fine Forth h g = g.right
    to_fine Back h g = g.left

    rule_here : (d : HypothesisRule) → IsListed c.hypotheses d → (k : ℕ) (u : HypothesisUse) (l : ℕ) → rule_use f d q a k ≡ Made (Some u) l → IsUse c m q a u.new u
    rule_here d there k u l e = go (matches p a) (may_take d (new_by d a) a) refl e
      where
        h : Goal
        h = d.hypothesis

        p : Tree
        p = old_side d

        r : Tree
        r = to_side d.way (sides h)

        σ : Substitution
        σ = matching p a

        ts : List Tree
        ts = terms_by σ (sorted (variables_of h))

        new : Passes → HypothesisUse
        new cs = use_passing d.number d.way q ts cs (instance σ r)

        from_back : (v : Way) → instance (by_terms h ts) (from_side v (sides h)) ≡ instance σ (from_side v (sides h))
        from_back Forth = (gives_back h σ).left
        from_back Back = (gives_back h σ).right

        to_back : (v : Way) → instance (by_terms h ts) (to_side v (sides h)) ≡ instance σ (to_side v (sides h))
        to_back Forth = (gives_back h σ).right
        to_back Back = (gives_back h σ).left

        go : (v x : Bool) → matches p a ≡ v → (if v && x then map_found new (tried (Some f) σ h.conds k) else Made None k) ≡ Made (Some u) l → IsUse c m q a u.new u
        go false x g z = absurd (cc)
        go true false g z = absurd (cc)
        go true true g z =
            let y = found_map new (tried (Some f) σ h.conds k) u l z in
            let is : instance σ p ≡ a = same_here (instance σ p) a g in
            let good = all_at (FineGoal th m) c.hypotheses d.number h fine there.listed in
            let vars = given_pairs p h.conds good.conds in
            let s = matching_substitution th.signature p a fa.sorted in
            let sorted_conds = all_sorted th h.conds (are_conditions th m h.conds good.conds) in
            subst (λ v. IsUse c m q a v.new v) y.2 (record {
              hypothesis = h;
              listed = there.listed;
              path = refl;
              fit = fit_given σ (matching-sorts p a) (sorted (variables_of h));
              old = from_back d.way ∙ is;
              made = to_back d.way;
              new = refl;
              terms = all_terms (Fine th m) h σ (given_fine p h.left good.left) (given_fine p h.right good.right) vars;
              low = instance_low m σ r (λ i j o. (given_fine p r (to_fine d.way h good) i j o).low);
              holds = lead_same c σ _ h.conds y.0 (gives_back h σ).conds (holds_lead c (Some f) links σ s h.conds sorted_conds k y.0 l y.1);
              chains = holds_fine th m (Some f) fining σ h.conds (low_pairs th m σ s h.conds sorted_conds vars) k y.0 l y.1;
              nests = holds_nest 7 f nest σ h.conds k y.0 l y.1;
            })

    first_is_use : (rs : List HypothesisRule) (k : ℕ) (u : HypothesisUse) (l : ℕ) → AreListed c.hypotheses rs → first_rule_use f rs q a k ≡ Made (Some u) l
        → IsUse c m q a u.new u
    first_is_use [] k u l all e = absurd (cc)
    first_is_use (r ∷ rs) k u l all e = go (found_next (rule_use f r q a k) (first_rule_use f rs q a) u l e) (λ j x. first_is_use rs j u l all.1 x)
      where
        go : (rule_use f r q a k ≡ Made (Some u) l) ⊎ ((j : ℕ) × (rule_use f r q a k ≡ Made None j) × (first_rule_use f rs q a j ≡ Made (Some u) l))
            → ((j : ℕ) → first_rule_use f rs q a j ≡ Made (Some u) l → IsUse c m q a u.new u) → IsUse c m q a u.new u
        go (inl x) ih = rule_here r all.0 k u l x
        go (inr x) ih = ih x.0 x.2

  pub rules_take : (rs : List HypothesisRule) → AreListed c.hypotheses rs → IsTaking c m (goals_sorted th m c.hypotheses fine) (first_rule_use f rs)
  rules_take rs all q a fa k u l e = first_is_use q a fa rs k u l all e
