-- One condition: both sides are built, then normalised, then compared.
use Rattle.std.proofs.Common.{◌≡◌, ℕ, Bool, true, false, if◌then◌else◌, List, ◌∷◌, Option, Some, None, Ok, refl, ap, sym, subst, ◌∙◌}
use Rattle.circ_term.specs.Tree.{Tree}
use Rattle.circ_term.specs.Limits.{Limit, Big, Deep, first_limit, or_else, Names}
use Rattle.circ_term.specs.Order.{is_same}
use Rattle.circ_term.specs.Substitution.{Substitution, instance}
use Rattle.circ_term.specs.declared.fault.TermFault.{TermFault}
use Rattle.circ_term.specs.declared.fault.TermFault.TheVariants as term
use Rattle.circ_term.proofs.Order.{same_here}
use Rattle.circ_theory.specs.Theory.{Pair}
use Rattle.circ_nodes.specs.Named.{IsNamed, IsOnce}
use Rattle.circ_nodes.proofs.Numbers.{named_one}
use Rattle.circ_rewrite.proofs.MatchingFacts.{is_same_term}
use Rattle.circ_rewrite.specs.Norm.{Normal_form}
use Rattle.circ_rewrite.specs.Plain.{Faults, plain_traces, rewrite_fault}
use Rattle.circ_rewrite.specs.Replacement.{Passes, more_passes, Traced, trace_row}
use Rattle.circ_rewrite.specs.declared.fault.RewriteFault.{RewriteFault}
use Rattle.circ_rewrite.specs.declared.parts.Pass.{Pass}
use Rattle.circ_rewrite.specs.declared.parts.Trace.{Trace}
use Rattle.circ_conditional_norm.specs.Tries.{Normaliser, same_forms, condition_holds, conditions_hold}
use Rattle.circ_conditional_norm.specs.Work.{Work, Made, Past, map_found, unless_limit, normal_then}
use Rattle.circ_tries.specs.Trying.{Hinders, IsPassOf, TestsCondition, passes_before}
use Rattle.circ_tries.proofs.Faulting.{hinders_map, hinders_normal, hinders_same}

module _ (f : Normaliser) (σ : Substitution) (p : Pair) (k : ℕ) (rest : ℕ → Work (Option Passes)) where
  abbrev a : Tree
  a = instance σ p.left

  abbrev b : Tree
  b = instance σ p.right

  abbrev whole : Work (Option Passes)
  whole = condition_holds f σ p k rest

  -- what comes of the results, and of the first
  abbrev compared : Tree → List Traced → Tree → List Traced → ℕ → Work (Option Passes)
  compared x ts y us m = if is_same x y then map_found (more_passes (trace_row ts) (trace_row us)) (rest m) else Made None m

  abbrev second : Tree → List Traced → ℕ → Work (Option Passes)
  second x ts l = normal_then (f l b) (compared x ts)

  left_past : (l : Limit) → first_limit a ≡ Some l → whole ≡ Past l k
  left_past l e = ap (λ o. unless_limit (or_else o (first_limit b)) k (same_forms f a b k rest)) e

  right_past : (l : Limit) → first_limit a ≡ None → first_limit b ≡ Some l → whole ≡ Past l k
  right_past l e g =
      ap (λ o. unless_limit (or_else o (first_limit b)) k (same_forms f a b k rest)) e ∙ ap (λ o. unless_limit o k (same_forms f a b k rest)) g

  -- a side passes a limit
  pub left_hinders : (e : TermFault) → Names e (first_limit a) → Hinders (rewrite_fault e) k whole
  left_hinders (term.TooBig n) h = left_past (Big n) h
  left_hinders (term.TooDeep n) h = left_past (Deep n) h
  left_hinders term.Memory h = tt

  pub right_hinders : (e : TermFault) → first_limit a ≡ None → Names e (first_limit b) → Hinders (rewrite_fault e) k whole
  right_hinders (term.TooBig n) w h = right_past (Big n) w h
  right_hinders (term.TooDeep n) w h = right_past (Deep n) w h
  right_hinders term.Memory w h = tt

  module _ (v : first_limit a ≡ None) (w : first_limit b ≡ None) where
    both_in : whole ≡ normal_then (f k a) second
    both_in = ap (λ o. unless_limit (or_else o (first_limit b)) k (same_forms f a b k rest)) v ∙ ap (λ o. unless_limit o k (same_forms f a b k rest)) w

    pub first_hinders : (e : RewriteFault) (l : ℕ) → Faults e l (f k a) → Hinders e l whole
    first_hinders e l h = hinders_same e l whole (normal_then (f k a) second) both_in (hinders_normal second e l (f k a) h)

    module _ (x : Tree) (ts : List Traced) (l : ℕ) (formed : f k a ≡ Normal_form x ts l) where
      then_second : whole ≡ normal_then (f l b) (compared x ts)
      then_second = both_in ∙ ap (λ o. normal_then o second) formed

      pub second_hinders : (e : RewriteFault) (m : ℕ) → Faults e m (f l b) → Hinders e m whole
      second_hinders e m h = hinders_same e m whole (normal_then (f l b) (compared x ts)) then_second (hinders_normal (compared x ts) e m (f l b) h)

      module _ (y : Tree) (us : List Traced) (m : ℕ) (also : f l b ≡ Normal_form y us m) where
        both_formed : whole ≡ compared x ts y us m
        both_formed = then_second ∙ ap (λ o. normal_then o (compared x ts)) also

        pub forms_differ : is_same x y ≡ false → whole ≡ Made None m
        forms_differ e = both_formed ∙ ap (λ (c : Bool). if c then map_found (more_passes (trace_row ts) (trace_row us)) (rest m) else Made None m) e

        pub forms_same : is_same x y ≡ true → whole ≡ map_found (more_passes (trace_row ts) (trace_row us)) (rest m)
        forms_same e = both_formed ∙ ap (λ (c : Bool). if c then map_found (more_passes (trace_row ts) (trace_row us)) (rest m) else Made None m) e

-- what hinders one condition hinders all
pub cond_hinders : (f : Normaliser) (σ : Substitution) (all : List Pair) (p : Pair) (rest : List Pair) (first k l : ℕ) (done : List Pass) (e : RewriteFault)
    → conditions_hold f σ all first ≡ map_found (passes_before done) (conditions_hold f σ (p ∷ rest) k)
    → ((later : ℕ → Work (Option Passes)) → Hinders e l (condition_holds f σ p k later)) → Hinders e l (conditions_hold f σ all first)
cond_hinders f σ all p rest first k l done e h x =
    hinders_same e l (conditions_hold f σ all first) (map_found (passes_before done) (conditions_hold f σ (p ∷ rest) k)) h
    (hinders_map (passes_before done) e l (conditions_hold f σ (p ∷ rest) k) (x (conditions_hold f σ rest)))

-- results are the same exactly where their numbers are
pub other_numbers : (nodes : List Tree) (n m : ℕ) (x y : Tree) → IsOnce nodes → IsNamed nodes n x → IsNamed nodes m y → (n ≡ m → ⊥) → is_same x y ≡ false
other_numbers nodes n m x y once h k different = go (is_same x y) refl
  where
    go : (b : Bool) → is_same x y ≡ b → is_same x y ≡ false
    go false e = e
    go true e = absurd (different (once n m y (subst (IsNamed nodes n) (same_here x y e) h) k))

pub same_numbers : (nodes : List Tree) (n m : ℕ) (x y : Tree) → IsNamed nodes n x → IsNamed nodes m y → n ≡ m → is_same x y ≡ true
same_numbers nodes n m x y h k e = is_same_term x y (named_one nodes m x y (subst (λ i. IsNamed nodes i x) e h) k)

-- what comes of both results
module _ (f : Normaliser) (σ : Substitution) (p : Pair) (k : ℕ) (v : first_limit (instance σ p.left) ≡ None) (w : first_limit (instance σ p.right) ≡ None) where
  pub numbers_tested : (nodes : List Tree) (n m : ℕ) (x y : Tree) (left right : List Trace) (l less : ℕ) → IsOnce nodes → IsNamed nodes n x → IsNamed nodes m y
      → f k (instance σ p.left) ≡ Normal_form x (plain_traces left) l → f l (instance σ p.right) ≡ Normal_form y (plain_traces right) less
      → (o : Option Pass) → IsPassOf n left m right o → TestsCondition f σ p k less (Ok o)
  numbers_tested nodes n m x y left right l less once h g e also None differ = λ rest.
      forms_differ f σ p k rest v w x (plain_traces left) l e y (plain_traces right) less also (other_numbers nodes n m x y once h g differ)
  numbers_tested nodes n m x y left right l less once h g e also (Some pass) same = λ rest.
      forms_same f σ p k rest v w x (plain_traces left) l e y (plain_traces right) less also (same_numbers nodes n m x y h g same.0)
      ∙ ap (λ (ts : List Trace). map_found (more_passes (trace_row (plain_traces ts)) (trace_row (plain_traces right))) (rest less)) (sym same.1)
      ∙ ap (λ (us : List Trace). map_found (more_passes (trace_row (plain_traces pass.left.items)) (trace_row (plain_traces us))) (rest less)) (sym same.2)
