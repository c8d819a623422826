-- Steps keep states well-sorted, and Done changes none.
use Rattle.std.proofs.Common.{◌≡◌, ◌<◌, ◌==◌, ℕ, Bool, true, false, List, [], ◌∷◌, map, length, Result, Ok, Err, refl, sym, subst, arith}
use Rattle.std.specs.Prelude.{IfOk}
use Rattle.std.specs.Result.{OnErr}
use Rattle.std.specs.List.{AllByRecursion}
use Rattle.std.proofs.lemmas.Bool.{eqb-true}
use Rattle.std.proofs.lemmas.List.{length-map}
use Rattle.circ_term.specs.Tree.{Tree}
use Rattle.circ_theory.specs.Signature.{Signature, IsWellSorted}
use Rattle.circ_theory.specs.Theory.{Theory}
use Rattle.circ_theory.specs.WellFormed.{IsWellFormed}
use Rattle.circ_theory.specs.Rewriting.{named}
use Rattle.circ_theory.specs.Goal.{Goal}
use Rattle.circ_theory.proofs.Rewriting.{named_well_sorted}
use Rattle.circ_special.specs.declared.place.Place.{Place}
use Rattle.circ_proof.specs.PlainProof.{plain_step}
use Rattle.circ_proof.specs.declared.proof.Step.{Step}
use Rattle.circ_proof.specs.Rules.{State, state, ProofStep, Simplify, Reduce, Derive, Cases, Done, map_step, AllOfStep, IsSortedState}
use Rattle.circ_proof.proofs.Leading.{chain_resolved, why_resolved}
use Rattle.circ_proof.proofs.Stepping.{step_sorted}
use Rattle.circ_nodes.specs.Named.{tree_at}
use Rattle.circ_rules.specs.Answers.{Applies}
use Rattle.circ_shared.specs.Patterns.{goal_at}
use Rattle.circ_steps.specs.declared.states.SharedGoal.{SharedGoal}
use Rattle.circ_steps.specs.declared.states.SharedState.{SharedState}
use Rattle.circ_steps.specs.States.{shared_goals, state_at, IsStateThere}

-- the terms that a step names are well-sorted
step_resolved : (sig : Signature) (table : List Tree) → AllByRecursion (IsWellSorted sig) table → (s : ProofStep ℕ) → AllOfStep (λ n. n < length table) s
    → AllOfStep (IsWellSorted sig) (map_step (named table) s)
step_resolved sig table a (Simplify chain) h = chain_resolved sig table a chain h
step_resolved sig table a (Reduce why) h = why_resolved sig table a why h
step_resolved sig table a Derive h = tt
step_resolved sig table a (Cases term) h = named_well_sorted sig table term a h
step_resolved sig table a Done h = tt

pub applied_sorted : {E : Type 0} (th : Theory) → IsWellFormed th → (G : List Place) (nodes : List Tree) (ns : List ℕ)
    → AllByRecursion (IsWellSorted th.signature) (map (tree_at nodes) ns) → (s : ProofStep ℕ) → AllOfStep (λ n. n < length ns) s → (a b : State)
    → IsSortedState th a → (r : Result Bool E) → IfOk r (Applies th G (map_step (named (map (tree_at nodes) ns)) s) a b) → OnErr r (b ≡ a)
    → IsSortedState th b
applied_sorted th ok G nodes ns ts s h a b w (Ok true) x k =
    let table : List Tree = map (tree_at nodes) ns in
    let P : ℕ → Type 0 = λ m. AllOfStep (λ n. n < m) s in
    step_sorted th ok G (map_step (named table) s) (step_resolved th.signature table ts s (subst P (sym (length-map ns (tree_at nodes))) h)) a b w x
applied_sorted th ok G nodes ns ts s h a b w (Ok false) x k = subst (IsSortedState th) (sym x.1) w
applied_sorted th ok G nodes ns ts s h a b w (Err e) x k = subst (IsSortedState th) (sym k) w

pub done_applies : (th : Theory) (G : List Place) (nodes : List Tree) (s : SharedState) (b : Bool) → b ≡ (length s.goals.items == 0)
    → Applies th G Done (state_at nodes s) (state_at nodes s) b
done_applies th G nodes s b e = go s.goals.items b e
  where
    H : List Goal
    H = map (goal_at nodes) s.hyps.items

    go : (gs : List SharedGoal) (b : Bool) → b ≡ (length gs == 0) → Applies th G Done (state H (shared_goals nodes gs)) (state H (shared_goals nodes gs)) b
    go [] true e = refl
    go [] false e = absurd (cc)
    go (g ∷ gs) true e = absurd (omega (arith, eqb-true (length (g ∷ gs)) 0 (sym e)))
    go (g ∷ gs) false e = ((λ c r. r), refl)

-- ---- a step of which the kind is known

pub named_by : (k : ℕ) (s t : Step ℕ) → s ≡ t → AllOfStep (λ n. n < k) (plain_step s) → AllOfStep (λ n. n < k) (plain_step t)
named_by k s t e h = let P : Step ℕ → Type 0 = λ x. AllOfStep (λ n. n < k) (plain_step x) in subst P e h

module _ {E : Type 0} (th : Theory) (G : List Place) where
  -- the step with the terms of this table leads from a to b, or there is an error
  abbrev pub Told : (table : List Tree) (a b : State) → Result Bool E → Step ℕ → Type 0
  Told table a b r s = IfOk r (Applies th G (map_step (named table) (plain_step s)) a b)

  pub told : (table : List Tree) (a b : State) (r : Result Bool E) (s t : Step ℕ) → s ≡ t → Told table a b r t → Told table a b r s
  told table a b r s t e h = subst (Told table a b r) (sym e) h

  -- where the table of terms is as before
  pub still_told : (old new : List Tree) → new ≡ old → (table : List Tree) (a b : SharedState) (r : Result Bool E) (s t : Step ℕ) → s ≡ t
      → Told table (state_at old a) (state_at old b) r t → Told table (state_at old a) (state_at new b) r s
  still_told old new same table a b r s t e h =
      let P : List Tree → Type 0 = λ ns. Told table (state_at old a) (state_at ns b) r s in
      subst P (sym same) (told table (state_at old a) (state_at old b) r s t e h)

pub still_there : (old new : List Tree) → new ≡ old → (b : SharedState) → IsStateThere old b → IsStateThere new b
still_there old new same b h = let P : List Tree → Type 0 = λ ns. IsStateThere ns b in subst P (sym same) h

pub still_kept : {E : Type 0} (old new : List Tree) → new ≡ old → (a b : SharedState) (r : Result Bool E) → OnErr r (state_at old b ≡ state_at old a)
    → OnErr r (state_at new b ≡ state_at old a)
still_kept old new same a b r h = let P : List Tree → Type 0 = λ ns. OnErr r (state_at ns b ≡ state_at old a) in subst P (sym same) h
