-- Rewriting by an equation leads to a derivable term.
use Rattle.std.proofs.Common.{◌≡◌, ◌<◌, ℕ, zero, suc, Bool, true, false, ◌==◌, ◌&&◌, if◌then◌else◌, List, [], ◌∷◌, length, get_or, Some}
use Rattle.std.proofs.Common.{unwrap_or, refl, ap, sym, subst, ◌∙◌, arith}
use Rattle.std.specs.List.{slice_get, AllByRecursion, Contains}
use Rattle.std.specs.Option.{option_map}
use Rattle.std.proofs.lemmas.Bool.{eqb-true, and_parts}
use Rattle.std.proofs.lemmas.Option.{same_Some, slice_get_within, slice_get_read, get_or_from_slice_get}
use Rattle.circ_term.specs.Tree.{Tree, Var, sort_of}
use Rattle.circ_term.specs.Substitution.{Substitution, instance}
use Rattle.circ_theory.specs.Signature.{Signature, IsSort, IsWellSorted, IsSubstitution}
use Rattle.circ_pairs.specs.declared.goals.Goal.{Goal}
use Rattle.circ_pairs.specs.Pair.{Pair}
use Rattle.circ_pairs.specs.Goal.{sides, goal_of}
use Rattle.circ_theory.specs.Theory.{Theory, IsEquation, listed, IsWellSortedPair}
use Rattle.circ_pairs.specs.Variables.{Variable, sorts_of, FitVariables, given}
use Rattle.circ_theory.specs.Derivable.{Derivable, by_equation, by_symmetry}
use Rattle.circ_theory.specs.WellFormed.{IsWellFormed}
use Rattle.circ_theory.proofs.Instances.{instance_well_sorted}
use Rattle.circ_theory.proofs.Sorting.{sorted_to, sort_instances}
use Rattle.circ_theory.proofs.Congruence.{KeepsDerivable, replaced_keeps}
use Rattle.circ_theory.specs.Rewriting.{from_side, to_side, Replaces, named}
use Rattle.circ_pairs.specs.declared.goals.Equation.{Equation}
use Rattle.circ_theory.specs.declared.way.Way.{Way}
use Rattle.circ_theory.specs.declared.way.Way.TheVariants.{Forth, Back}

pub contains_at : {X : Type 0} (xs : List X) (i : ℕ) (x : X) → slice_get xs i ≡ Some x → Contains xs x
contains_at xs i x g = (i, slice_get_within xs i x g, get_or_from_slice_get xs i x x g)

pub named_well_sorted : (sig : Signature) (table : List Tree) (n : ℕ) → AllByRecursion (IsWellSorted sig) table → n < length table
    → IsWellSorted sig (named table n)
named_well_sorted sig [] n a h = absurd (omega arith)
named_well_sorted sig (t ∷ ts) zero a h = a.0
named_well_sorted sig (t ∷ ts) (suc n) a h = named_well_sorted sig ts n a.1 (omega arith)

-- well-sorted terms of the variables' sorts make a substitution
pub given_substitution : (sig : Signature) (vs : List Variable) (ts : List Tree) → FitVariables vs ts → AllByRecursion (IsWellSorted sig) ts
    → IsSubstitution sig (given vs ts)
given_substitution sig [] ts f a = λ n s h. (refl, h)
given_substitution sig (v ∷ vs) [] f a = absurd f
given_substitution sig (v ∷ vs) (t ∷ ts) f a = λ n s h. go n s h (given_substitution sig vs ts f.1 a.1 n s h) ((v.number == n) && (v.sort == s)) refl
  where
    go : (n s : ℕ) → IsSort sig s → (sort_of (given vs ts n s) ≡ s) × IsWellSorted sig (given vs ts n s) → (b : Bool) → ((v.number == n) && (v.sort == s)) ≡ b
        → (sort_of (if b then t else given vs ts n s) ≡ s) × IsWellSorted sig (if b then t else given vs ts n s)
    go n s h ih true e = (f.0 ∙ eqb-true v.sort s (and_parts (v.number == n) (v.sort == s) e).1, a.0)
    go n s h ih false e = ih

-- the conditions of a goal hold under a substitution, by the theory and the premises
abbrev pub ConditionsHold : Theory → List Pair → Substitution → List Pair → Type 0
ConditionsHold th A σ E = (p : Pair) → Contains E p → Derivable th A (instance σ p.left) (instance σ p.right)

pub none_hold : (th : Theory) (A : List Pair) (σ : Substitution) (E : List Pair) → E ≡ [] → ConditionsHold th A σ E
none_hold th A σ E none p c = let P : List Pair → Type 0 = λ ps. Contains ps p in let k = subst P none c in absurd (omega (arith, k.1))

sides_derivable : (th : Theory) (A : List Pair) (w : Way) (g : Goal) (σ : Substitution) → IsEquation th g → IsSubstitution th.signature σ → ConditionsHold th A σ g.conds
    → Derivable th A (instance σ (from_side w (sides g))) (instance σ (to_side w (sides g)))
sides_derivable th A Forth g σ e s h = by_equation g σ e s h
sides_derivable th A Back g σ e s h = by_symmetry (by_equation g σ e s h)

-- the instance of one side of an equation, replaced by that of the other
pub rewrite_keeps : (th : Theory) → IsWellFormed th → (A : List Pair) (e : Equation) (w : Way) (σ : Substitution) (path : List ℕ) (t u : Tree)
    → Contains th.equations e → IsSubstitution th.signature σ → ConditionsHold th A σ e.conds → IsWellSorted th.signature t
    → Replaces t path (instance σ (from_side w (sides (goal_of e)))) (instance σ (to_side w (sides (goal_of e)))) u → KeepsDerivable th A t u
rewrite_keeps th ok A e w σ path t u c s holds wt r =
    let p : Pair = sides (goal_of e) in
    let h : IsWellSortedPair th.signature p = (ok.equations e c).sorted in
    replaced_keeps th A path t (instance σ (from_side w p)) (instance σ (to_side w p)) u wt r.there
    (instance_well_sorted th.signature σ (to_side w p) s (sorted_to th.signature w p h)) (sort_instances th.signature w p σ h s)
    (sides_derivable th A w (goal_of e) σ (listed e c) s holds) r.made

pub named_at : (table : List Tree) (n : ℕ) (t : Tree) → n < length table → t ≡ get_or table n t → named table n ≡ t
named_at table n t h e = ap (λ o. unwrap_or o (Var 0 0)) (slice_get_read table (length table) n t refl h e)

-- the sorts that go with an equation
pub sorts_are : (es : List Equation) (number : ℕ) (e : Equation) (ss : List ℕ) → Some e ≡ slice_get es number
    → Some ss ≡ option_map (λ d. sorts_of (goal_of d)) (slice_get es number) → ss ≡ sorts_of (goal_of e)
sorts_are es number e ss p q = same_Some ss (sorts_of (goal_of e)) (q ∙ ap (option_map (λ d. sorts_of (goal_of d))) (sym p))

pub fit_length : (vs : List Variable) (ts : List Tree) → FitVariables vs ts → length vs ≡ length ts
fit_length [] [] h = refl
fit_length [] (t ∷ ts) h = absurd h
fit_length (v ∷ vs) [] h = absurd h
fit_length (v ∷ vs) (t ∷ ts) h = let e = fit_length vs ts h.1 in omega arith
