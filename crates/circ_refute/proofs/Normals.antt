-- Normal forms by a theory's rules are derivable from their terms, and keep sorts, limits and numbers of variables.
use Rattle.std.proofs.Common.{◌≡◌, ℕ, ◌+◌, ◌≤◌, List, [], ◌∷◌, map, refl, sym, ◌∙◌, subst, arith}
use Rattle.circ_term.specs.Tree.{Tree}
use Rattle.circ_term.specs.Limits.{IsWithinLimits}
use Rattle.circ_term.specs.Substitution.{Substitution}
use Rattle.circ_theory.specs.Signature.{IsWellSorted}
use Rattle.circ_theory.specs.Theory.{Theory, Pair}
use Rattle.circ_theory.specs.WellFormed.{IsWellFormed}
use Rattle.circ_theory.specs.Fresh.{above}
use Rattle.circ_theory.specs.Derivable.{by_same, by_chain}
use Rattle.circ_theory.proofs.Congruence.{KeepsDerivable}
use Rattle.circ_theory.proofs.Lists.{all_by}
use Rattle.circ_proof.specs.Plain.{LinkOf, LinksOf, ChainsOf, Equation_link, Hypothesis_link, Assumption_link, Content_link, no_link, more_links, no_chain, more_chains}
use Rattle.circ_proof.specs.Link.{Setting, setting, Leads, RowLeads, ConditionsLead, AllOfLink, AllOfLinks, UsesNoHypothesis, RowUsesNoHypothesis, ChainsUseNoHypothesis}
use Rattle.circ_proof.specs.Runs.{Runs}
use Rattle.circ_proof.proofs.Leading.{IsSortedSetting, sorted_setting, link_follows}
use Rattle.circ_proof.proofs.Members.{nothing}
use Rattle.circ_proof.proofs.Sorted.{sorted_none}
use Rattle.circ_rewrite.specs.Links.{link_of}
use Rattle.circ_rewrite.specs.Norm.{Normal_form}
use Rattle.circ_rewrite.specs.Replacement.{Traced}
use Rattle.circ_rewrite.specs.TheoryRules.{theory_rules}
use Rattle.circ_rewrite.proofs.RuleLists.{rules_are}
use Rattle.circ_plain_search.proofs.Led.{link_by_terms}
use Rattle.circ_plain_search.proofs.Terms.{Fine}
use Rattle.circ_conditional_search.proofs.Led.{Led}
use Rattle.circ_conditional_search.proofs.Normals.{normal_form_led}
use Rattle.circ_refute.specs.PlainRefutation.{normal}
use Rattle.circ_refute.specs.Progress.{IsLowPair}

module _ (th : Theory) (ok : IsWellFormed th) where
  abbrev here : Setting
  here = setting th [] [] []

  sorted_here : IsSortedSetting here
  sorted_here = sorted_setting th ok [] [] [] (sorted_none th) (λ p c. nothing p c)

  -- no hypothesis is used where there is none
  mutual
    uses_none : (l : LinkOf Tree) (t u : Tree) → Leads here l t u → UsesNoHypothesis l
    uses_none (Equation_link number way path terms conds) t u r = chains_use_none _ _ conds r.1
    uses_none (Hypothesis_link number way path terms conds) t u r = absurd (let never = r.0.listed in cc)
    uses_none (Assumption_link number way path) t u r = tt
    uses_none (Content_link op path term) t u r = tt

    row_uses_none : (ls : LinksOf Tree) (t u : Tree) → RowLeads here ls t u → RowUsesNoHypothesis ls
    row_uses_none no_link t u r = tt
    row_uses_none (more_links l ls) t u r = (uses_none l t r.0 r.1, row_uses_none ls r.0 u r.2)

    chains_use_none : (σ : Substitution) (E : List Pair) (cs : ChainsOf Tree) → ConditionsLead here σ E cs → ChainsUseNoHypothesis cs
    chains_use_none σ [] no_chain r = tt
    chains_use_none σ [] (more_chains ls rs cs) r = absurd r
    chains_use_none σ (p ∷ ps) no_chain r = tt
    chains_use_none σ (p ∷ ps) (more_chains ls rs cs) r = (row_uses_none ls _ _ r.2.1, row_uses_none rs _ _ r.2.2, chains_use_none σ ps cs r.3)

  links_derive : (ls : List (LinkOf Tree)) (t u : Tree) → IsWellSorted th.signature t → AllOfLinks (IsWellSorted th.signature) ls → Runs (Leads here) ls t u
      → KeepsDerivable th [] t u
  links_derive [] t u w a e =
      let P : Tree → Type 0 = KeepsDerivable th [] t in subst P e (record { derivable = by_same t w; well_sorted = w; same_sort = refl })
  links_derive (l ∷ ls) t u w a r =
      let x = link_follows here sorted_here l a.0 (uses_none l t r.0 r.1) t r.0 w r.1 in
      let y = links_derive ls r.0 u x.well_sorted a.1 r.2 in
      record { derivable = by_chain r.0 x.derivable y.derivable; well_sorted = y.well_sorted; same_sort = y.same_sort ∙ x.same_sort }

  led : (m : ℕ) → 1 ≤ m → (n : ℕ) (t u : Tree) (ts : List Traced) (k : ℕ) → Fine th m t → normal th n t ≡ Normal_form u ts k → Led here m (map link_of ts) t u
  led m one n t u ts k f e = normal_form_led th ok m one [] (theory_rules th) (rules_are th ok []) [] tt [] t u ts n k f e

  pub normal_keeps : (n : ℕ) (t u : Tree) (ts : List Traced) (k : ℕ) → IsWellSorted th.signature t → IsWithinLimits t → normal th n t ≡ Normal_form u ts k
      → KeepsDerivable th [] t u × IsWithinLimits u
  normal_keeps n t u ts k w within e =
      let x = led (above t + 1) (omega arith) n t u ts k (record { sorted = w; within = within; low = omega arith }) e in
      let sorted = all_by (AllOfLink (Fine th (above t + 1))) (AllOfLink (IsWellSorted th.signature)) (map link_of ts)
      (λ l a. link_by_terms (Fine th (above t + 1)) (IsWellSorted th.signature) (λ v f. f.sorted) l a) x.terms in
      (links_derive (map link_of ts) t u w sorted x.leads, x.fine.within)

  -- two terms in normal form
  pub normal_pair : (bound : ℕ) → 1 ≤ bound → (a b : Tree) → IsLowPair th bound a b → IsWithinLimits a → IsWithinLimits b
      → (n k j : ℕ) (l m : Tree) (ts us : List Traced) → normal th n a ≡ Normal_form l ts k → normal th k b ≡ Normal_form m us j → IsLowPair th bound l m
  normal_pair bound one a b p wa wb n k j l m ts us e f =
      let x = led bound one n a l ts k (record { sorted = p.sorted.left; within = wa; low = p.left }) e in
      let y = led bound one k b m us j (record { sorted = p.sorted.right; within = wb; low = p.right }) f in
      record {
        sorted = record { left = x.fine.sorted; right = y.fine.sorted; same_sort = y.same_sort ∙ p.sorted.same_sort ∙ sym x.same_sort };
        left = x.fine.low;
        right = y.fine.low;
      }
