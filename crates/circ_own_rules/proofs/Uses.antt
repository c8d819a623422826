-- Uses that are made once conditions hold, and what their variables are given.
use Rattle.std.proofs.Common.{◌≡◌, ℕ, Bool, true, false, ◌↔◌, ◌||◌, if◌then◌else◌, List, [], ◌∷◌, map, Option, Some, None, unwrap_or, is_some, IsTrue, refl, ap, sym, subst, ◌∙◌}
use Rattle.std.specs.Option.{option_or}
use Rattle.std.specs.List.Sorted.{IsStrictlySortedBy}
use Rattle.circ_term.specs.Tree.{Tree, Var}
use Rattle.circ_term.specs.Order.{is_same}
use Rattle.circ_term.specs.Substitution.{Substitution, instance}
use Rattle.circ_term.specs.Subst.{Bound, bound_cmp, found, substitution_of}
use Rattle.circ_term.proofs.Order.{same_here, same_itself}
use Rattle.circ_theory.specs.Theory.{sides}
use Rattle.circ_theory.specs.Rewriting.{from_side}
use Rattle.circ_theory.specs.Goal.{Goal}
use Rattle.circ_theory.specs.declared.way.Way.{Way}
use Rattle.circ_theory.specs.declared.way.Way.TheVariants.{Forth, Back}
use Rattle.circ_match.specs.Matcher.{has_variable}
use Rattle.circ_proof.specs.Plain.{ChainsOf}
use Rattle.circ_rewrite.specs.Due.{terms_by}
use Rattle.circ_rewrite.specs.Links.{chains_by}
use Rattle.circ_rewrite.specs.Replacement.{Passes}
use Rattle.circ_rewrite.specs.declared.fault.RewriteFault.{RewriteFault}
use Rattle.circ_conditional_norm.specs.Tries.{Normaliser, tried}
use Rattle.circ_conditional_norm.specs.Work.{Work, Made, map_found}
use Rattle.circ_tries.specs.Trying.{Hinders}
use Rattle.circ_tries.proofs.Faulting.{hinders_map, hinders_same}
use Rattle.circ_plain_search.specs.Joining.{HypothesisUse, hypothesis_variables}
use Rattle.circ_conditional_search.specs.Joining.{use_passing}
use Rattle.circ_join.specs.Binding.{BindsRest, BindsSides, have_pair_variable}
use Rattle.circ_join.proofs.BothSides.{hypothesis_terms}
use Rattle.circ_attempt.specs.Rules.{HypothesisRule, may_take}
use Rattle.circ_own_rules.specs.Rules.{new_side}
use Rattle.circ_own_rules.specs.Using.{rule_use_by, BindsOld, BindsGoal}

-- a test of equality is the test of the definitions
pub told_same : (s t : Tree) (r : Bool) → (IsTrue r ↔ (s ≡ t)) → r ≡ is_same s t
told_same s t true h = sym (subst (λ u. is_same s u ≡ true) (h.0 refl) (same_itself s))
told_same s t false h = go (is_same s t) refl
  where
    go : (b : Bool) → is_same s t ≡ b → false ≡ b
    go true e = absurd (let z : false ≡ true = h.1 (same_here s t e) in cc)
    go false e = refl

-- ---- what variables are given

rest_bound : (o : Option Tree) (v : Bool) (t : Tree) → is_some (option_or o (if v then Some t else None)) ≡ (is_some o || v)
rest_bound (Some u) v t = refl
rest_bound None true t = refl
rest_bound None false t = refl

rest_same : (o : Option Tree) (v : Bool) (t : Tree) → unwrap_or (option_or o (if v then Some t else None)) t ≡ unwrap_or o t
rest_same (Some u) v t = refl
rest_same None true t = refl
rest_same None false t = refl

-- what stands for itself is given what it is given where it is not bound
rest_given : (v : (number sort : ℕ) → Bool) (σ τ : List Bound) → BindsRest v σ τ → substitution_of τ ≡ substitution_of σ
rest_given v σ τ h = λ i n s. (ap (λ o. unwrap_or o (Var n s)) (h n s) ∙ rest_same (found σ n s) (v n s) (Var n s)) i

pub goal_given : (h : Goal) (σ τ : List Bound) → BindsGoal h σ τ → substitution_of τ ≡ substitution_of σ
goal_given h σ τ b = rest_given (have_pair_variable h.conds) b.between τ b.conds ∙ rest_given (have_pair_variable (sides h ∷ [])) σ b.between b.sides

sides_bound : (r : HypothesisRule) (σ τ : List Bound) → BindsOld r σ → BindsRest (have_pair_variable (sides r.hypothesis ∷ [])) σ τ → BindsSides r.hypothesis τ
sides_bound r σ τ old rest n s =
    ap is_some (rest n s) ∙ rest_bound (found σ n s) ((left || right) || false) (Var n s) ∙ ap (λ b. b || ((left || right) || false)) (old n s) ∙ go r.way
  where
    left : Bool
    left = has_variable r.hypothesis.left n s

    right : Bool
    right = has_variable r.hypothesis.right n s

    among : (a b : Bool) → (a || ((a || b) || false)) ≡ (a || b)
    among true b = refl
    among false true = refl
    among false false = refl

    among_last : (a b : Bool) → (b || ((a || b) || false)) ≡ (a || b)
    among_last true true = refl
    among_last true false = refl
    among_last false true = refl
    among_last false false = refl

    go : (w : Way) → (has_variable (from_side w (sides r.hypothesis)) n s || ((left || right) || false)) ≡ (left || right)
    go Forth = among left right
    go Back = among_last left right

-- the bound terms are what the hypothesis's variables are given
pub rule_terms : (r : HypothesisRule) (σ τ : List Bound) → BindsOld r σ → BindsGoal r.hypothesis σ τ → IsStrictlySortedBy bound_cmp τ
    → map (λ b. b.term) τ ≡ terms_by (substitution_of σ) (hypothesis_variables r.hypothesis)
rule_terms r σ τ old b o =
    hypothesis_terms r.hypothesis b.between τ (sides_bound r σ b.between old b.sides) b.conds o
    ∙ ap (λ ρ. terms_by ρ (hypothesis_variables r.hypothesis)) (rest_given (have_pair_variable (sides r.hypothesis ∷ [])) σ b.between b.sides)

-- ---- what is tried

module _ (f : Normaliser) (r : HypothesisRule) (q : List ℕ) (t : Tree) (σ : Substitution) (k : ℕ) where
  abbrev made : Passes → HypothesisUse
  made passes = use_passing r.number r.way q (terms_by σ (hypothesis_variables r.hypothesis)) passes (instance σ (new_side r))

  abbrev trying : Work (Option HypothesisUse)
  trying = map_found made (tried (Some f) σ r.hypothesis.conds k)

  pub not_taken : may_take r (instance σ (new_side r)) t ≡ false → rule_use_by f r q t σ k ≡ Made None k
  not_taken e = ap (λ b. if b then trying else Made None k) e

  module _ (may : may_take r (instance σ (new_side r)) t ≡ true) where
    taken : rule_use_by f r q t σ k ≡ trying
    taken = ap (λ b. if b then trying else Made None k) may

    pub use_hindered : (e : RewriteFault) (l : ℕ) → Hinders e l (tried (Some f) σ r.hypothesis.conds k) → Hinders e l (rule_use_by f r q t σ k)
    use_hindered e l x = hinders_same e l (rule_use_by f r q t σ k) trying taken (hinders_map made e l (tried (Some f) σ r.hypothesis.conds k) x)

    pub no_use_made : (l : ℕ) → tried (Some f) σ r.hypothesis.conds k ≡ Made None l → rule_use_by f r q t σ k ≡ Made None l
    no_use_made l e = taken ∙ ap (map_found made) e

    pub use_made : {path : List ℕ} {terms : List Tree} {conds : ChainsOf Tree} {new : Tree} (l : ℕ) (passes : Passes)
        → tried (Some f) σ r.hypothesis.conds k ≡ Made (Some passes) l → path ≡ q → terms ≡ terms_by σ (hypothesis_variables r.hypothesis)
        → conds ≡ chains_by passes → new ≡ instance σ (new_side r)
        → rule_use_by f r q t σ k ≡ Made (Some (record { number = r.number; way = r.way; path = path; terms = terms; conds = conds; new = new })) l
    use_made {path} {terms} {conds} {new} l passes e is_path are_terms are_conds is_new =
        let u : HypothesisUse = record { number = r.number; way = r.way; path = path; terms = terms; conds = conds; new = new } in
        let same : u ≡ made passes = λ i. record { number = r.number; way = r.way; path = is_path i; terms = are_terms i; conds = are_conds i; new = is_new i } in
        taken ∙ ap (map_found made) e ∙ ap (λ x. Made (Some x) l) (sym same)
