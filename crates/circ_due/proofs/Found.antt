-- Rules that are passed over do not match, and what is due before rules.
use Rattle.std.proofs.Common.{◌≡◌, ℕ, ◌≤◌, zero, suc, Bool, true, false, List, [], ◌∷◌, length, Option, Some, None, if◌then◌else◌, refl, ap, sym, subst, ◌∙◌, arith}
use Rattle.std.specs.Prelude.{nat_eq}
use Rattle.std.specs.List.{slice_get, AllByRecursion}
use Rattle.std.specs.Map.{lookup}
use Rattle.std.specs.Option.{option_or}
use Rattle.std.proofs.lemmas.Option.{same_Some}
use Rattle.circ_term.specs.Tree.{Tree, Var, App, operator_number}
use Rattle.circ_term.specs.Order.{is_same}
use Rattle.circ_term.proofs.Order.{same_here}
use Rattle.circ_theory.specs.Signature.{Signature}
use Rattle.circ_theory.proofs.Lists.{all_at}
use Rattle.circ_aci.specs.Canonical.{canonical_under}
use Rattle.circ_index.specs.Finding.{NoneMatches}
use Rattle.circ_nodes.specs.Named.{IsNamed}
use Rattle.circ_rewrite.specs.Replacement.{Replacement, By_assumption, By_content}
use Rattle.circ_rewrite.specs.Due.{assumed, content_due, rule_due, ruled, IsRewriteRule}
use Rattle.circ_rewrite.specs.declared.parts.Rule.{Rule}
use Rattle.circ_rewrite.proofs.MatchingFacts.{no_match, is_same_term}
use Rattle.circ_due.specs.Assuming.{choice_of}
use Rattle.circ_due.specs.Chosen.{IsReady, Chooses}
use Rattle.circ_due.specs.Finding.{NoneFits}
use Rattle.circ_due.specs.declared.assuming.Assumed.{Assumed}
use Rattle.circ_due.specs.declared.choice.Choice.{Choice}
use Rattle.circ_due.specs.declared.choice.Choice.TheVariants as choice
use Rattle.circ_due.specs.declared.means.Means.{Means}
use Rattle.circ_due.proofs.Keeping.{assumed_found}
use Rattle.circ_due.proofs.Walking.{RuleMatches}

pub none_fits : (t : Tree) (rs : List Rule) (from to : ℕ) → AllByRecursion IsRewriteRule rs → NoneMatches (RuleMatches t) rs from to → NoneFits rs t from to
none_fits t rs from to ok h = λ n rule a b g. no_match rule.left t (h n rule a b g (all_at IsRewriteRule rs n rule ok g))

pub none_fits_on : (t : Tree) (rs : List Rule) (from to most : ℕ) → most ≤ to → NoneFits rs t from to → NoneFits rs t from most
none_fits_on t rs from to most e h = λ n rule a b g. h n rule a (omega (arith, b, e)) g

next_none : (t : Tree) (q : Rule) (rs : List Rule) (to : ℕ) → NoneFits (q ∷ rs) t zero (suc to) → NoneFits rs t zero to
next_none t q rs to h = λ n rule a b g. h (suc n) rule (omega arith) (omega (arith, b)) g

-- the first whose left side matches is due, and where there is none, none is
pub none_ruled : (t : Tree) (rs : List Rule) → NoneFits rs t zero (length rs) → ruled rs t ≡ None
none_ruled t [] h = refl
none_ruled t (q ∷ rs) h = rw (h zero q (omega arith) (omega arith) refl) (none_ruled t rs (next_none t q rs (length rs) h))

pub first_ruled : (t : Tree) (rs : List Rule) (n : ℕ) (r : Rule) (d : Replacement) → NoneFits rs t zero n → slice_get rs n ≡ Some r → rule_due r t ≡ Some d → ruled rs t ≡ Some d
first_ruled t [] n r d h g e = absurd (cc)
first_ruled t (q ∷ rs) zero r d h g e =
    let here : rule_due q t ≡ Some d = ap (λ x. rule_due x t) (same_Some q r g) ∙ e in
    rw here refl
first_ruled t (q ∷ rs) (suc n) r d h g e = rw (h zero q (omega arith) (omega arith) refl) (first_ruled t rs n r d (next_none t q rs n h) g e)

-- ---- before rules

-- a choice by an assumption
pub chosen_first : (nodes : List Tree) (m : Means) (n : ℕ) (t : Tree) (c : Choice) → IsReady nodes m → IsNamed nodes n t
    → choice_of (lookup (nat_eq n) m.assumed.entries) ≡ Some c
    → Chooses nodes m t (option_or (assumed 0 m.assumptions t) (content_due m.theory.now.signature t)) (Some c)
chosen_first nodes m n t c ready named e = go (lookup (nat_eq n) m.assumed.entries) refl
  where
    go : (o : Option Assumed) → lookup (nat_eq n) m.assumed.entries ≡ o
        → Chooses nodes m t (option_or (assumed 0 m.assumptions t) (content_due m.theory.now.signature t)) (Some c)
    go None f = absurd (let never : None ≡ Some c = rw f at e in cc)
    go (Some a) f =
        let here : Some (choice.Assumed a.number a.right) ≡ Some c = rw f at e in
        let found = assumed_found nodes m.assumptions m.assumed.entries n t a ready.kept named f in
        subst (λ (x : Choice). Chooses nodes m t (option_or (assumed 0 m.assumptions t) (content_due m.theory.now.signature t)) (Some x))
        (same_Some (choice.Assumed a.number a.right) c here)
        (record { reason = By_assumption a.number; new = found.0 }, rw found.1 refl, (refl, found.2))

-- the canonical form of an application is another term, or it is the same
pub content_other : (sig : Signature) (t : Tree) (f : ℕ) → operator_number t ≡ Some f → (canonical_under sig f t ≡ t → ⊥)
    → content_due sig t ≡ Some (record { reason = By_content f (canonical_under sig f t); new = canonical_under sig f t })
content_other sig (Var n s) f o h = absurd (cc)
content_other sig (App g s ts) f o h = go (same_Some g f o) (is_same (canonical_under sig g (App g s ts)) (App g s ts)) refl
  where
    form : ℕ → Tree
    form k = canonical_under sig k (App g s ts)

    other : ℕ → Replacement
    other k = record { reason = By_content k (form k); new = form k }

    go : g ≡ f → (b : Bool) → is_same (form g) (App g s ts) ≡ b → (if b then None else Some (other g)) ≡ Some (other f)
    go same true e = absurd (h (ap form (sym same) ∙ same_here (form g) (App g s ts) e))
    go same false e = ap (λ k. Some (other k)) same

pub content_same : (sig : Signature) (t : Tree) (f : ℕ) → operator_number t ≡ Some f → canonical_under sig f t ≡ t → content_due sig t ≡ None
content_same sig (Var n s) f o h = refl
content_same sig (App g s ts) f o h =
    rw (is_same_term (canonical_under sig g (App g s ts)) (App g s ts) (ap (λ k. canonical_under sig k (App g s ts)) (same_Some g f o) ∙ h)) refl
