-- How conditions are tried, and what work answers that takes steps of a budget.
use Rattle.std.specs.Prelude.{◌≡◌, ℕ, ◌/◌, ◌==◌, ◌&&◌, if◌then◌else◌, Bool, true, false, List, [], ◌++◌, Option, Some, None, Result, Ok, Err}
use Rattle.circ_term.specs.Tree.{Tree, Var, App}
use Rattle.circ_theory.specs.Goal.{Goal}
use Rattle.circ_special.specs.declared.place.Place.{Place}
use Rattle.circ_term.specs.Substitution.{Substitution, instance}
use Rattle.circ_theory.specs.declared.way.Way.TheVariants.{Forth}
use Rattle.circ_rewrite.specs.Due.{rule_variables, terms_by}
use Rattle.circ_rewrite.specs.Replacement.{Passes}
use Rattle.circ_rewrite.specs.declared.fault.RewriteFault.{RewriteFault}
use Rattle.circ_rewrite.specs.declared.parts.Pass.{Pass}
use Rattle.circ_rewrite.specs.declared.parts.Rule.{Rule}
use Rattle.circ_conditional_norm.specs.Norm.{conditional_norm}
use Rattle.circ_conditional_norm.specs.Tries.{Normaliser, same_forms, tried}
use Rattle.circ_conditional_norm.specs.Work.{Work, Made, map_found}
use Rattle.circ_memo.specs.Value.{Rewriting}
use Rattle.circ_tries.specs.Trying.{Hinders, pass_before}
use Rattle.circ_plain_search.specs.Joining.{HypothesisUse, hypothesis_variables, rule_number}
use Rattle.circ_conditional_search.specs.Joining.{use_passing, all_joined_trying, no_join}
use Rattle.circ_join.specs.Hypotheses.{way_at}

-- how the conditions of hypotheses and lemmas are normalised, whose own try is one that stands around them
abbrev pub normaliser_of : Rewriting → Normaliser
normaliser_of r = conditional_norm 1 r.theory.signature r.rules r.assumptions

-- the answer is the value, with what is left; or says why there is none
abbrev pub Works : {A X : Type 0} → (X → A) → (left : ℕ) → Work A → Result X RewriteFault → Type 0
Works view left w (Ok x) = w ≡ Made (view x) left
Works view left w (Err e) = Hinders e left w

-- The uses or moves of a Join are appended; or it is no Join; or the answer says why neither is known.
abbrev pub Joins : {A : Type 0} → Work (Option (List A)) → (left : ℕ) → (old new : List A) → Result Bool RewriteFault → Type 0
Joins {A} w left old new (Ok true) = (us : List A) × (w ≡ Made (Some us) left) × (new ≡ old ++ us)
Joins w left old new (Ok false) = w ≡ Made None left
Joins w left old new (Err e) = Hinders e left w

-- Join of two terms that differ, where no hypothesis is used on them: that of their arguments
abbrev pub inside_trying : Normaliser → List Place → List Goal → (q : List ℕ) → (a b : Tree) → (budget : ℕ) → Work (Option (List HypothesisUse))
inside_trying normal G H q (Var n s) b = no_join
inside_trying normal G H q (App f s ts) (Var m j) = no_join
inside_trying normal G H q (App f s ts) (App g j us) =
    if (f == g) && (s == j) then all_joined_trying normal G H f q 0 ts us else no_join

-- the answer is the pass of two terms that have one normal form, or that they have not, whatever the conditions behind come to
abbrev pub TestsForms : Normaliser → (a b : Tree) → (budget left : ℕ) → Result (Option Pass) RewriteFault → Type 0
TestsForms normal a b k left (Ok None) = (rest : ℕ → Work (Option Passes)) → same_forms normal a b k rest ≡ Made None left
TestsForms normal a b k left (Ok (Some pass)) =
    (rest : ℕ → Work (Option Passes)) → same_forms normal a b k rest ≡ map_found (pass_before pass) (rest left)
TestsForms normal a b k left (Err e) = (rest : ℕ → Work (Option Passes)) → Hinders e left (same_forms normal a b k rest)

-- one argument: it is equal, or stands at a place of the set and joins
abbrev pub beside_alone : {A : Type 0} → (same at_place : Bool) → (one : ℕ → Work (Option (List A))) → (budget : ℕ) → Work (Option (List A))
beside_alone true p one k = Made (Some []) k
beside_alone false false one k = Made None k
beside_alone false true one k = one k

-- the use of a hypothesis at a place of the index, by what its sides are matched with, where its conditions hold
abbrev pub use_by : Normaliser → (place : ℕ) → Goal → List ℕ → (new : Tree) → Substitution → (budget : ℕ) → Work (Option HypothesisUse)
use_by normal p h q new σ k =
    map_found (λ passes. use_passing (p / 2) (way_at p) q (terms_by σ (hypothesis_variables h)) passes new) (tried (Some normal) σ h.conds k)

-- the use of a lemma, by what its left side is matched with, where its conditions hold
abbrev pub lemma_use_by : Normaliser → Rule → List ℕ → Substitution → (budget : ℕ) → Work (Option HypothesisUse)
lemma_use_by normal r q σ k =
    map_found (λ passes. use_passing (rule_number r.name) Forth q (terms_by σ (rule_variables r)) passes (instance σ r.right))
    (tried (Some normal) σ r.conds k)
