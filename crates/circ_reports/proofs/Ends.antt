-- How the terms of a script end.
use Rattle.std.proofs.Common.{◌≡◌, ℕ, List, refl, sym, ◌∙◌, subst}
use Rattle.circ_term.specs.Tree.{Tree}
use Rattle.circ_term.specs.Limits.{Limit, Big, Deep}
use Rattle.circ_theory.specs.Theory.{Theory}
use Rattle.circ_rewrite.specs.declared.fault.RewriteFault.{RewriteFault}
use Rattle.circ_rewrite.specs.declared.fault.RewriteFault.TheVariants as fault
use Rattle.circ_outer.specs.Shelf.{ShelfState}
use Rattle.circ_script.specs.Script.{Script}
use Rattle.circ_script.specs.declared.job.Job.TheVariants as job
use Rattle.circ_files.specs.ScriptFile.{TakesScript}
use Rattle.circ_files.specs.TheoryFile.{TakesTheory}
use Rattle.circ_reports.specs.Reduce.{Reduced, Results, Spent, Past_limit, EndsWith, Ends, FaultEnds, reduced, limit_status, fault_status}
use Rattle.circ_reports.specs.Reduce.{RefusesReduce, theory_fault, term_ends}
use Rattle.circ_status.specs.declared.status.Status.{Status}
use Rattle.circ_status.specs.declared.status.Status.TheVariants as status

-- the answers with which terms can end
abbrev pub IsEnd : Status → Type 0
IsEnd (status.Spent r d s) = Unit {0}
IsEnd (status.TooBig n) = Unit {0}
IsEnd (status.TooDeep n) = Unit {0}
IsEnd _ = ⊥

limit_end : (l : Limit) → IsEnd (limit_status l)
limit_end (Big n) = tt
limit_end (Deep n) = tt

module _ (budget : ℕ) where
  pub is_end : (r : Reduced) (s : Status) → EndsWith budget r s → IsEnd s
  is_end (Results results left) s e = absurd e
  is_end Spent s e = subst IsEnd (sym e) tt
  is_end (Past_limit l) s e = subst IsEnd (sym e) (limit_end l)

  -- no other answer is an end
  pub no_end : (r : Reduced) (s u : Status) → (IsEnd u → ⊥) → EndsWith budget r s → s ≡ u → ⊥
  no_end r s u not e same = not (subst IsEnd same (is_end r s e))

  pub one_end : (r : Reduced) (s u : Status) → EndsWith budget r s → EndsWith budget r u → s ≡ u
  one_end (Results results left) s u a b = absurd a
  one_end Spent s u a b = a ∙ sym b
  one_end (Past_limit l) s u a b = a ∙ sym b

  -- terms that all have normal forms do not end before
  pub no_early_end : (r : Reduced) (results : List Tree) (left : ℕ) (s : Status) → r ≡ Results results left → EndsWith budget r s → ⊥
  no_early_end r results left s e x = let P : Reduced → Type 0 = λ y. EndsWith budget y s in subst P e x

  -- they have normal forms, or end
  pub forms_or_end : (r : Reduced) → ((results : List Tree) (left : ℕ) → r ≡ Results results left → ⊥) → ((s : Status) → EndsWith budget r s → ⊥) → ⊥
  forms_or_end (Results results left) f g = f results left refl
  forms_or_end Spent f g = g (status.Spent budget 0 0) refl
  forms_or_end (Past_limit l) f g = g (limit_status l) refl

  -- the status of a fault
  pub fault_end : (th : Theory) (terms : List Tree) (f : RewriteFault) → FaultEnds (reduced th budget terms) f → Ends th budget terms (fault_status budget f)
  fault_end th terms fault.Spent e = let P : Reduced → Type 0 = λ y. EndsWith budget y (status.Spent budget 0 0) in subst P (sym e) refl
  fault_end th terms (fault.TooBig n) e = let P : Reduced → Type 0 = λ y. EndsWith budget y (status.TooBig n) in subst P (sym e) refl
  fault_end th terms (fault.TooDeep n) e = let P : Reduced → Type 0 = λ y. EndsWith budget y (status.TooDeep n) in subst P (sym e) refl
  fault_end th terms fault.Memory e = tt

module _ (budget : ℕ) (theory script : List ℕ) (before after : ShelfState) where
  -- terms that end, or want of memory, refuse a `reduce` whose files read
  pub ends_refuse : (th : Theory) (sc : Script) → TakesTheory theory th before → TakesScript script th job.Reduce sc before
      → (s : Status) → Ends th budget sc.terms s → RefusesReduce budget theory script before after s
  ends_refuse th sc a b status.Memory e = theory_fault status.Memory tt
  ends_refuse th sc a b s e = term_ends s (record { th = th; sc = sc; ends = e; takes_theory = a; takes_script = b })
