-- Uses that are made once conditions hold.
use Rattle.std.proofs.Common.{◌≡◌, ℕ, ◌/◌, List, Some, None, ap, sym, ◌∙◌}
use Rattle.circ_term.specs.Tree.{Tree}
use Rattle.circ_term.specs.Substitution.{Substitution, instance}
use Rattle.circ_theory.specs.Goal.{Goal}
use Rattle.circ_theory.specs.declared.way.Way.{Way}
use Rattle.circ_theory.specs.declared.way.Way.TheVariants.{Forth}
use Rattle.circ_proof.specs.Plain.{ChainsOf}
use Rattle.circ_rewrite.specs.Due.{rule_variables, terms_by}
use Rattle.circ_rewrite.specs.Links.{chains_by}
use Rattle.circ_rewrite.specs.Replacement.{Passes}
use Rattle.circ_rewrite.specs.declared.fault.RewriteFault.{RewriteFault}
use Rattle.circ_rewrite.specs.declared.parts.Rule.{Rule}
use Rattle.circ_conditional_norm.specs.Tries.{Normaliser, tried}
use Rattle.circ_conditional_norm.specs.Work.{Made, map_found}
use Rattle.circ_tries.specs.Trying.{Hinders}
use Rattle.circ_tries.proofs.Faulting.{hinders_map}
use Rattle.circ_plain_search.specs.Joining.{HypothesisUse, hypothesis_variables, rule_number}
use Rattle.circ_conditional_search.specs.Joining.{use_passing}
use Rattle.circ_join.specs.Hypotheses.{way_at}
use Rattle.circ_join.specs.Trying.{use_by, lemma_use_by}

-- ---- of a hypothesis

module _ (f : Normaliser) (p : ℕ) (h : Goal) (q : List ℕ) (new : Tree) (σ : Substitution) (k : ℕ) where
  abbrev made : Passes → HypothesisUse
  made passes = use_passing (p / 2) (way_at p) q (terms_by σ (hypothesis_variables h)) passes new

  pub use_hindered : (e : RewriteFault) (l : ℕ) → Hinders e l (tried (Some f) σ h.conds k) → Hinders e l (use_by f p h q new σ k)
  use_hindered e l x = hinders_map made e l (tried (Some f) σ h.conds k) x

  pub no_use_made : (l : ℕ) → tried (Some f) σ h.conds k ≡ Made None l → use_by f p h q new σ k ≡ Made None l
  no_use_made l e = ap (map_found made) e

  pub use_made : {number : ℕ} {way : Way} {path : List ℕ} {terms : List Tree} {conds : ChainsOf Tree} {given : Tree} (l : ℕ) (passes : Passes)
      → tried (Some f) σ h.conds k ≡ Made (Some passes) l → number ≡ p / 2 → way ≡ way_at p → path ≡ q → terms ≡ terms_by σ (hypothesis_variables h)
      → conds ≡ chains_by passes → given ≡ new
      → use_by f p h q new σ k ≡ Made (Some (record { number = number; way = way; path = path; terms = terms; conds = conds; new = given })) l
  use_made {number} {way} {path} {terms} {conds} {given} l passes e is_number is_way is_path are_terms are_conds is_new =
      let u : HypothesisUse = record { number = number; way = way; path = path; terms = terms; conds = conds; new = given } in
      let same : u ≡ made passes = λ i. record { number = is_number i; way = is_way i; path = is_path i; terms = are_terms i; conds = are_conds i; new = is_new i } in
      ap (map_found made) e ∙ ap (λ x. Made (Some x) l) (sym same)

-- ---- of a lemma

module _ (f : Normaliser) (r : Rule) (q : List ℕ) (σ : Substitution) (k : ℕ) where
  abbrev due : Passes → HypothesisUse
  due passes = use_passing (rule_number r.name) Forth q (terms_by σ (rule_variables r)) passes (instance σ r.right)

  pub lemma_hindered : (e : RewriteFault) (l : ℕ) → Hinders e l (tried (Some f) σ r.conds k) → Hinders e l (lemma_use_by f r q σ k)
  lemma_hindered e l x = hinders_map due e l (tried (Some f) σ r.conds k) x

  pub no_lemma_due : (l : ℕ) → tried (Some f) σ r.conds k ≡ Made None l → lemma_use_by f r q σ k ≡ Made None l
  no_lemma_due l e = ap (map_found due) e

  pub lemma_due : {number : ℕ} {path : List ℕ} {terms : List Tree} {conds : ChainsOf Tree} {new : Tree} (l : ℕ) (passes : Passes)
      → tried (Some f) σ r.conds k ≡ Made (Some passes) l → number ≡ rule_number r.name → path ≡ q → terms ≡ terms_by σ (rule_variables r)
      → conds ≡ chains_by passes → new ≡ instance σ r.right
      → lemma_use_by f r q σ k ≡ Made (Some (record { number = number; way = Forth; path = path; terms = terms; conds = conds; new = new })) l
  lemma_due {number} {path} {terms} {conds} {new} l passes e is_number is_path are_terms are_conds is_new =
      let u : HypothesisUse = record { number = number; way = Forth; path = path; terms = terms; conds = conds; new = new } in
      let same : u ≡ due passes = λ i. record { number = is_number i; way = Forth; path = is_path i; terms = are_terms i; conds = are_conds i; new = is_new i } in
      ap (map_found due) e ∙ ap (λ x. Made (Some x) l) (sym same)
