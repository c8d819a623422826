-- At most eight conditions of links stand inside one another.
use Rattle.std.proofs.Common.{◌≡◌, ◌⊎◌, inl, inr, ℕ, zero, suc, Bool, true, false, if◌then◌else◌, List, [], ◌∷◌, ◌++◌, map, Option, Some, None, refl, ap, sym, subst, ◌∙◌}
use Rattle.std.specs.List.{AllByRecursion}
use Rattle.std.specs.Option.{option_or, option_map_or}
use Rattle.std.proofs.lemmas.Option.{same_Some}
use Rattle.circ_term.specs.Tree.{Tree, Var, App}
use Rattle.circ_term.specs.Limits.{Limit, first_limit, or_else}
use Rattle.circ_term.specs.Order.{is_same}
use Rattle.circ_term.specs.Substitution.{Substitution, instance}
use Rattle.circ_theory.specs.Signature.{Signature}
use Rattle.circ_theory.specs.Theory.{Pair}
use Rattle.circ_aci.specs.Canonical.{canonical_under}
use Rattle.circ_rewrite.specs.Matching.{matching, matches}
use Rattle.circ_rewrite.specs.Due.{terms_by, assumed, content_due, rule_variables}
use Rattle.circ_rewrite.specs.declared.parts.RuleName.{RuleName}
use Rattle.circ_proof.specs.Plain.{LinkOf, LinksOf, ChainsOf, Equation_link, Hypothesis_link, Assumption_link, Content_link, no_link, more_links, no_chain, more_chains, ChainOf}
use Rattle.circ_rewrite.specs.declared.parts.Rule.{Rule}
use Rattle.circ_rewrite.specs.Replacement.{Passes, no_pass, Replacement, Placed, Traced, traced, By_rule, By_content, trace_row}
use Rattle.circ_conditional_norm.specs.Work.{Work, Made, Out, Past, map_found}
use Rattle.circ_rewrite.specs.Norm.{Normal_form, Budget_spent, Limit_passed}
use Rattle.circ_conditional_norm.specs.Tries.{rule_replaces, Normaliser, same_forms, conditions_hold, tried, rule_tried, rules_tried, due_trying}
use Rattle.circ_conditional_norm.specs.Norm.{look_from, remade, looked, make, run_from, inner_norm, norm_with_room}
use Rattle.circ_rewrite.specs.Links.{link_by, link_of, row_by, chains_by}
use Rattle.circ_conditional_norm.proofs.Working.{found_map, found_next, found_limit, same_found}
use Rattle.circ_conditional_norm.proofs.Looking.{IsDueAt, look_from_there}
use Rattle.circ_conditional_norm.proofs.Linked.{held_by}
use Rattle.circ_rewrite.proofs.Linked.{assumed_is}
use Rattle.circ_rewrite.specs.declared.parts.RuleName.TheVariants as name

-- at most n conditions stand inside one another
abbrev mutual
  pub NestsIn : {T : Type 0} → ℕ → LinkOf T → Type 0
  NestsIn n (Equation_link number way path terms conds) = ChainsNestIn n conds
  NestsIn n (Hypothesis_link number way path terms conds) = ChainsNestIn n conds
  NestsIn n (Assumption_link number way path) = Unit {0}
  NestsIn n (Content_link op path term) = Unit {0}

  pub RowNestsIn : {T : Type 0} → ℕ → LinksOf T → Type 0
  RowNestsIn n no_link = Unit {0}
  RowNestsIn n (more_links l ls) = NestsIn n l × RowNestsIn n ls

  pub ChainsNestIn : {T : Type 0} → ℕ → ChainsOf T → Type 0
  ChainsNestIn n no_chain = Unit {0}
  ChainsNestIn zero (more_chains l r cs) = ⊥
  ChainsNestIn (suc n) (more_chains l r cs) = RowNestsIn n l × RowNestsIn n r × ChainsNestIn (suc n) cs

abbrev pub AllNestIn : {T : Type 0} → ℕ → List (LinkOf T) → Type 0
AllNestIn n ls = AllByRecursion (NestsIn n) ls

abbrev pub ChainNests : {T : Type 0} → ChainOf T → Type 0
ChainNests c = AllNestIn 8 c.left × AllNestIn 8 c.right

-- the traces that a normaliser gives nest in n
abbrev pub IsNesting : ℕ → Normaliser → Type 0
IsNesting n f = (k : ℕ) (t u : Tree) (ts : List Traced) (l : ℕ) → f k t ≡ Normal_form u ts l → AllNestIn n (map link_of ts)

-- and those of what may stand for one, one less
abbrev AreNesting : ℕ → Option Normaliser → Type 0
AreNesting n None = Unit {0}
AreNesting zero (Some f) = ⊥
AreNesting (suc n) (Some f) = IsNesting n f

row_nests : (n : ℕ) (ts : List Traced) → AllNestIn n (map link_of ts) → RowNestsIn n (row_by (trace_row ts))
row_nests n [] a = tt
row_nests n (tr ∷ ts) a = (a.0, row_nests n ts a.1)

all_hold_nest : (n : ℕ) (f : Normaliser) → IsNesting n f → (σ : Substitution) (ps : List Pair) (k : ℕ) (cs : Passes) (l : ℕ)
    → conditions_hold f σ ps k ≡ Made (Some cs) l → ChainsNestIn (suc n) (chains_by cs)
all_hold_nest n f h σ [] k cs l e = subst (λ x. ChainsNestIn (suc n) (chains_by x)) (same_found no_pass cs k l e).0 tt
all_hold_nest n f h σ (p ∷ ps) k cs l e =
    let a : Tree = instance σ p.left in
    let b : Tree = instance σ p.right in
    let lim = found_limit (or_else (first_limit a) (first_limit b)) k (same_forms f a b k (conditions_hold f σ ps)) (Some cs) l e in
    let r = held_by f a b k (conditions_hold f σ ps) cs l lim.1 in
    subst (λ y. ChainsNestIn (suc n) (chains_by y)) r.is (
      row_nests n r.left_traces (h k a r.same r.left_traces r.between r.left),
      row_nests n r.right_traces (h r.between b r.same r.right_traces r.after r.right),
      all_hold_nest n f h σ ps r.after r.passes l r.later,
    )

pub holds_nest : (n : ℕ) (f : Normaliser) → IsNesting n f → (σ : Substitution) (ps : List Pair) (k : ℕ) (cs : Passes) (l : ℕ)
    → tried (Some f) σ ps k ≡ Made (Some cs) l → ChainsNestIn (suc n) (chains_by cs)
holds_nest n f h σ [] k cs l e = subst (λ x. ChainsNestIn (suc n) (chains_by x)) (same_found no_pass cs k l e).0 tt
holds_nest n f h σ (p ∷ ps) zero cs l e = absurd (cc)
holds_nest n f h σ (p ∷ ps) (suc k) cs l e = all_hold_nest n f h σ (p ∷ ps) k cs l e

maybe_holds : (n : ℕ) (o : Option Normaliser) → AreNesting n o → (σ : Substitution) (ps : List Pair) (k : ℕ) (cs : Passes) (l : ℕ)
    → tried o σ ps k ≡ Made (Some cs) l → ChainsNestIn n (chains_by cs)
maybe_holds n None h σ [] k cs l e = subst (λ x. ChainsNestIn n (chains_by x)) (same_found no_pass cs k l e).0 tt
maybe_holds n None h σ (p ∷ ps) k cs l e = absurd (cc)
maybe_holds zero (Some f) h σ ps k cs l e = absurd h
maybe_holds (suc n) (Some f) h σ ps k cs l e = holds_nest n f h σ ps k cs l e

rule_nests : (n : ℕ) (path : List ℕ) (x : RuleName) (ts : List Tree) (cs : Passes) → ChainsNestIn n (chains_by cs) → NestsIn n (link_by path (By_rule x ts cs))
rule_nests n path (name.Equation i) ts cs h = h
rule_nests n path (name.Lemma i) ts cs h = h

module _ (n : ℕ) (o : Option Normaliser) (nest : AreNesting n o) where
  rules_nest : (rs : List Rule) (k : ℕ) (t : Tree) (d : Replacement) (l : ℕ) (path : List ℕ) → rules_tried o rs k t ≡ Made (Some d) l → NestsIn n (link_by path d.reason)
  rules_nest [] k t d l path e = absurd (cc)
  rules_nest (r ∷ rs) k t d l path e = go (found_next (rule_tried o r k t) (λ m. rules_tried o rs m t) d l e) (λ m x. rules_nest rs m t d l path x)
    where
      new : Passes → Replacement
      new = rule_replaces r t

      one : (b : Bool) → (if b then map_found new (tried o (matching r.left t) r.conds k) else Made None k) ≡ Made (Some d) l → NestsIn n (link_by path d.reason)
      one false x = absurd (cc)
      one true x =
          let h = found_map new (tried o (matching r.left t) r.conds k) d l x in
          subst (λ y. NestsIn n (link_by path y.reason)) h.2
          (rule_nests n path r.name (terms_by (matching r.left t) (rule_variables r)) h.0 (maybe_holds n o nest (matching r.left t) r.conds k h.0 l h.1))

      go : (rule_tried o r k t ≡ Made (Some d) l) ⊎ ((m : ℕ) × (rule_tried o r k t ≡ Made None m) × (rules_tried o rs m t ≡ Made (Some d) l))
          → ((m : ℕ) → rules_tried o rs m t ≡ Made (Some d) l → NestsIn n (link_by path d.reason)) → NestsIn n (link_by path d.reason)
      go (inl x) ih = one (matches r.left t) x
      go (inr x) ih = ih x.0 x.2

  assumed_nests : (A : List Pair) (t : Tree) (d : Replacement) (path : List ℕ) → assumed 0 A t ≡ Some d → NestsIn n (link_by path d.reason)
  assumed_nests A t d path e = let h = assumed_is 0 A t d e in subst (λ y. NestsIn n (link_by path y.reason)) (sym h.4) tt

  content_nests : (sig : Signature) (t : Tree) (d : Replacement) (path : List ℕ) → content_due sig t ≡ Some d → NestsIn n (link_by path d.reason)
  content_nests sig (Var i s) d path e = absurd (cc)
  content_nests sig (App f s ts) d path e = go (is_same form (App f s ts)) e
    where
      form : Tree
      form = canonical_under sig f (App f s ts)

      new : Replacement
      new = record { reason = By_content f form; new = form }

      go : (b : Bool) → (if b then None else Some new) ≡ Some d → NestsIn n (link_by path d.reason)
      go true x = absurd (cc)
      go false x = subst (λ y. NestsIn n (link_by path y.reason)) (same_Some new d x) tt

  due_nests : (sig : Signature) (rs : List Rule) (A : List Pair) (k : ℕ) (t : Tree) (d : Replacement) (l : ℕ) (path : List ℕ)
      → due_trying o sig rs A k t ≡ Made (Some d) l → NestsIn n (link_by path d.reason)
  due_nests sig rs A k (Var i s) d l path e = assumed_nests A (Var i s) d path (same_parts (assumed 0 A (Var i s)) d k l e)
    where
      same_parts : (x : Option Replacement) (y : Replacement) (i j : ℕ) → Made x i ≡ Made (Some y) j → x ≡ Some y
      same_parts x y i j z = cc
  due_nests sig rs A k (App f s ts) d l path e = first (assumed 0 A t) refl e
    where
      t : Tree
      t = App f s ts

      second : (x : Option Replacement) → content_due sig t ≡ x → option_map_or (λ r. Made (Some r) k) x (rules_tried o rs k t) ≡ Made (Some d) l → NestsIn n (link_by path d.reason)
      second None g z = rules_nest rs k t d l path z
      second (Some y) g z = content_nests sig t d path (g ∙ ap Some (same_found y d k l z).0)

      first : (x : Option Replacement) → assumed 0 A t ≡ x
          → option_map_or (λ r. Made (Some r) k) (option_or x (content_due sig t)) (rules_tried o rs k t) ≡ Made (Some d) l → NestsIn n (link_by path d.reason)
      first None g z = second (content_due sig t) refl z
      first (Some y) g z = assumed_nests A t d path (g ∙ ap Some (same_found y d k l z).0)

module _ (n : ℕ) (due : (budget : ℕ) → Tree → Work (Option Replacement))
    (nests : (k : ℕ) (t : Tree) (d : Replacement) (l : ℕ) (path : List ℕ) → due k t ≡ Made (Some d) l → NestsIn n (link_by path d.reason)) where
  same_traces : (t u : Tree) (ts us : List Traced) (k l : ℕ) → Normal_form t ts k ≡ Normal_form u us l → ts ≡ us
  same_traces t u ts us k l e = cc

  -- with the traces before
  run_nests : (i : ℕ) (from : List ℕ) (t u : Tree) (ts us : List Traced) (k l : ℕ) → AllNestIn n (map link_of ts) → run_from due i from t ts k ≡ Normal_form u us l
      → AllNestIn n (map link_of us)
  run_nests zero from t u ts us k l h e = go (look_from due from t k) e
    where
      go : (x : Work (Option Placed)) → looked due (λ q m. Budget_spent) t ts x ≡ Normal_form u us l → AllNestIn n (map link_of us)
      go (Made (Some q) m) z = absurd (cc)
      go (Made None m) z = subst (λ y. AllNestIn n (map link_of y)) (same_traces t u ts us m l z) h
      go Out z = absurd (cc)
      go (Past y m) z = absurd (cc)
  run_nests (suc i) from t u ts us k l h e = go (look_from due from t k) refl e (λ p v vs m y z. run_nests i p v u vs us m l y z)
    where
      more : (xs : List Traced) (tr : Traced) → AllNestIn n (map link_of xs) → NestsIn n (link_of tr) → AllNestIn n (map link_of (xs ++ tr ∷ []))
      more [] tr a b = (b, tt)
      more (x ∷ xs) tr a b = (a.0, more xs tr a.1 b)

      go : (x : Work (Option Placed)) → look_from due from t k ≡ x → looked due (make due (run_from due i) t ts) t ts x ≡ Normal_form u us l
          → ((p : List ℕ) (v : Tree) (vs : List Traced) (m : ℕ) → AllNestIn n (map link_of vs) → run_from due i p v vs m ≡ Normal_form u us l → AllNestIn n (map link_of us))
          → AllNestIn n (map link_of us)
      go (Made None m) x z ih = subst (λ y. AllNestIn n (map link_of y)) (same_traces t u ts us m l z) h
      go Out x z ih = absurd (cc)
      go (Past y m) x z ih = absurd (cc)
      go (Made (Some q) zero) x z ih = absurd (cc)
      go (Made (Some q) (suc m)) x z ih = at_limit (first_limit (remade t q)) z
        where
          there : IsDueAt due t q (suc m)
          there = look_from_there due from t k q (suc m) x

          at_limit : (y : Option Limit) → option_map_or (λ l. Limit_passed l (suc m)) y (run_from due i q.path (remade t q) (ts ++ traced q ∷ []) m) ≡ Normal_form u us l
              → AllNestIn n (map link_of us)
          at_limit (Some y) w = absurd (cc)
          at_limit None w = ih q.path (remade t q) (ts ++ traced q ∷ []) m (more ts (traced q) h (nests there.2 there.0 q.replacement (suc m) q.path there.3)) w

inner_nests : (n : ℕ) (sig : Signature) (rs : List Rule) (A : List Pair) → AreNesting n (inner_norm n sig rs A)
inner_nests zero sig rs A = tt
inner_nests (suc n) sig rs A =
    λ k t u ts l e. run_nests n (due_trying (inner_norm n sig rs A) sig rs A) (due_nests n (inner_norm n sig rs A) (inner_nests n sig rs A) sig rs A) k [] t u [] ts k l tt e

pub norm_nests : (n : ℕ) (sig : Signature) (rs : List Rule) (A : List Pair) → IsNesting n (norm_with_room n sig rs A)
norm_nests n sig rs A k t u ts l e =
    run_nests n (due_trying (inner_norm n sig rs A) sig rs A) (due_nests n (inner_norm n sig rs A) (inner_nests n sig rs A) sig rs A) k [] t u [] ts k l tt e
