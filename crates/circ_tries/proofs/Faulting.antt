-- Faults of the work, and what they say of the work around it.
use Rattle.std.proofs.Common.{◌≡◌, ℕ, List, [], Option, Some, None, refl, ap, sym, ◌∙◌}
use Rattle.circ_term.specs.Tree.{Tree}
use Rattle.circ_term.specs.Limits.{Big, Deep, first_limit, Names, IsWithinLimits}
use Rattle.circ_term.specs.declared.fault.TermFault.{TermFault}
use Rattle.circ_term.specs.declared.fault.TermFault.TheVariants as term
use Rattle.circ_rewrite.specs.Norm.{Normalised}
use Rattle.circ_rewrite.specs.Plain.{Faults, rewrite_fault}
use Rattle.circ_rewrite.specs.Replacement.{Replacement, Traced}
use Rattle.circ_rewrite.specs.declared.fault.RewriteFault.{RewriteFault}
use Rattle.circ_rewrite.specs.declared.fault.RewriteFault.TheVariants.{Spent, TooBig, TooDeep, Memory}
use Rattle.circ_conditional_norm.specs.Norm.{run_from}
use Rattle.circ_conditional_norm.specs.Within.{run_in, whole_form}
use Rattle.circ_conditional_norm.specs.Work.{Work, or_next, map_found, normal_then}
use Rattle.circ_conditional_norm.proofs.Stepping.{root_out, root_past}
use Rattle.circ_tries.specs.declared.parts.Room.{Room}
use Rattle.circ_tries.specs.declared.parts.Stop.TheVariants as stop
use Rattle.circ_tries.specs.Turning.{plain_room, FaultsAt, IsAtRoot, IsOutgrown}
use Rattle.circ_tries.specs.Trying.{Hinders}

-- work that is hindered hinders what comes behind it
pub hinders_map : {A B : Type 0} (g : A → B) (e : RewriteFault) (l : ℕ) (w : Work (Option A)) → Hinders e l w → Hinders e l (map_found g w)
hinders_map g Spent l w h = (ap (map_found g) h.0, h.1)
hinders_map g (TooBig n) l w h = ap (map_found g) h
hinders_map g (TooDeep n) l w h = ap (map_found g) h
hinders_map g Memory l w h = tt

pub hinders_next : {A : Type 0} (f : ℕ → Work (Option A)) (e : RewriteFault) (l : ℕ) (w : Work (Option A)) → Hinders e l w → Hinders e l (or_next w f)
hinders_next f Spent l w h = (ap (λ x. or_next x f) h.0, h.1)
hinders_next f (TooBig n) l w h = ap (λ x. or_next x f) h
hinders_next f (TooDeep n) l w h = ap (λ x. or_next x f) h
hinders_next f Memory l w h = tt

pub hinders_normal : {B : Type 0} (f : Tree → List Traced → ℕ → Work B) (e : RewriteFault) (l : ℕ) (o : Normalised) → Faults e l o → Hinders e l (normal_then o f)
hinders_normal f Spent l o h = (ap (λ x. normal_then x f) h.0, h.1)
hinders_normal f (TooBig n) l o h = ap (λ x. normal_then x f) h
hinders_normal f (TooDeep n) l o h = ap (λ x. normal_then x f) h
hinders_normal f Memory l o h = tt

pub hinders_same : {A : Type 0} (e : RewriteFault) (l : ℕ) (v w : Work A) → v ≡ w → Hinders e l w → Hinders e l v
hinders_same Spent l v w e h = (e ∙ h.0, h.1)
hinders_same (TooBig n) l v w e h = e ∙ h
hinders_same (TooDeep n) l v w e h = e ∙ h
hinders_same Memory l v w e h = tt

-- a term that is put together is within the limits, or it passes one
pub put_fault : (u : Tree) (e : TermFault) → Names e (first_limit u) → IsWithinLimits u → stop.Fault (rewrite_fault e) ≡ stop.Fault Memory
put_fault u (term.TooBig n) h w = absurd (let never : Some (Big n) ≡ None = sym h ∙ w in cc)
put_fault u (term.TooDeep n) h w = absurd (let never : Some (Deep n) ≡ None = sym h ∙ w in cc)
put_fault u term.Memory h w = refl

pub outgrown_fault : (nodes : List Tree) (u : Tree) (e : TermFault) → Names e (first_limit u) → IsOutgrown nodes u (stop.Fault (rewrite_fault e))
outgrown_fault nodes u (term.TooBig n) h = h
outgrown_fault nodes u (term.TooDeep n) h = h
outgrown_fault nodes u term.Memory h = tt

module _ (due : (budget : ℕ) → Tree → Work (Option Replacement)) where
  -- at the root
  pub root_faults : (b : Room) (nodes : List Tree) (from : List ℕ) (t : Tree) (k l : ℕ) (e : RewriteFault) → IsAtRoot due from t → Hinders e l (due k t) → FaultsAt due b nodes from t k l e
  root_faults b nodes from t k l Spent r h = (λ us. root_out due (plain_room b) from t us k (r k) k h.0, h.1)
  root_faults b nodes from t k l (TooBig n) r h = λ us. root_past due (plain_room b) from t us k (r k) k l (Big n) h
  root_faults b nodes from t k l (TooDeep n) r h = λ us. root_past due (plain_room b) from t us k (r k) k l (Deep n) h
  root_faults b nodes from t k l Memory r h = tt

  -- of a whole term
  pub whole_faults : (b : Room) (nodes : List Tree) (t : Tree) (k l : ℕ) (e : RewriteFault) → whole_form (run_in due (plain_room b) k [] t [] k) ≡ run_from due k [] t [] k
      → FaultsAt due b nodes [] t k l e → Faults e l (run_from due k [] t [] k)
  whole_faults b nodes t k l Spent w h = (sym w ∙ ap whole_form (h.0 []), h.1)
  whole_faults b nodes t k l (TooBig n) w h = sym w ∙ ap whole_form (h [])
  whole_faults b nodes t k l (TooDeep n) w h = sym w ∙ ap whole_form (h [])
  whole_faults b nodes t k l Memory w h = tt
