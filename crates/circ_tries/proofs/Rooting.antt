-- A replacement that is made at the root, in a table that grows.
use Rattle.std.proofs.Common.{◌≡◌, ℕ, ◌<◌, zero, suc, Bool, true, false, List, [], ◌∷◌, ◌++◌, Option, Some, None, refl, ap, sym, subst, ◌∙◌, append-nil}
use Rattle.circ_term.specs.Tree.{Tree}
use Rattle.circ_term.specs.Limits.{Limit, Big, Deep, first_limit, Names, IsWithinLimits}
use Rattle.circ_term.specs.Growing.{Grows}
use Rattle.circ_term.specs.Subst.{substitution_of}
use Rattle.circ_term.specs.Subst as terms
use Rattle.circ_term.specs.Substitution.{instance}
use Rattle.circ_term.specs.declared.fault.TermFault.{TermFault}
use Rattle.circ_term.specs.declared.fault.TermFault.TheVariants as term
use Rattle.circ_match.specs.Matcher.{IsMatcher, Makes, has_variable}
use Rattle.circ_rewrite.specs.Due.{rule_variables, terms_by}
use Rattle.circ_rewrite.specs.Plain.{plain_trace, plain_traces, rewrite_fault}
use Rattle.circ_rewrite.specs.Replacement.{By_rule, Passes, no_pass, Replacement, placed, Traced, traced}
use Rattle.circ_rewrite.specs.declared.fault.RewriteFault.TheVariants.{Spent}
use Rattle.circ_rewrite.specs.declared.parts.Rule.{Rule}
use Rattle.circ_rewrite.specs.declared.parts.Trace.{Trace}
use Rattle.circ_nodes.specs.Named.{IsNamed}
use Rattle.circ_nodes.proofs.Numbers.{named_later}
use Rattle.circ_due.specs.Chosen.{IsFit, IsChoice, by_rule}
use Rattle.circ_due.specs.declared.choice.Bound.{Bound}
use Rattle.circ_due.specs.declared.choice.Choice.{Choice}
use Rattle.circ_due.specs.declared.choice.Choice.TheVariants.{Assumed, Content, Ruled}
use Rattle.circ_due.specs.declared.means.Means.{Means}
use Rattle.circ_due.proofs.Givens.{bounds_later, are_bound_later}
use Rattle.circ_conditional_norm.specs.Within.{IsInRoom, bounded, is_past, run_in}
use Rattle.circ_conditional_norm.specs.Work.{Work, Made}
use Rattle.circ_conditional_norm.proofs.Stepping.{root_made, root_unpaid}
use Rattle.circ_conditional_norm.proofs.Within.{stays_inside}
use Rattle.circ_tries.proofs.Going.{map_append}
use Rattle.circ_tries.specs.declared.parts.Course.{Course}
use Rattle.circ_tries.specs.declared.parts.Found.{Found}
use Rattle.circ_tries.specs.declared.parts.Room.{Room}
use Rattle.circ_tries.specs.declared.parts.Stop.TheVariants as stop
use Rattle.circ_tries.specs.Trying.{IsFound, passing, with_passes}
use Rattle.circ_tries.specs.Turning.{plain_room, Writes, IsAtRoot, IsFallingDue, StopsAt, StepsTo}

-- the number is that of the term, which is within the limits
abbrev pub IsNamedWithin : (nodes : List Tree) (n : ℕ) → Tree → Type 0
IsNamedWithin nodes n t = IsNamed nodes n t × IsWithinLimits t

-- ---- in a table that has grown

module _ (old new : List Tree) (grows : Grows old new) where
  pub fit_later : (r : Rule) (t : Tree) (given : List Bound) → IsFit old r t given → IsFit new r t given
  fit_later r t given f = record {
    bound = are_bound_later old new given grows f.bound;
    matches = subst (IsMatcher (Makes r.left t) (has_variable r.left)) (sym (bounds_later old new given grows f.bound)) f.matches;
  }

  pub choice_later : (m : Means) (t : Tree) (c : Choice) (r : Replacement) → IsChoice old m t c r → IsChoice new m t c r
  choice_later m t (Assumed number right) r h = (h.0, named_later old new right r.new grows h.1)
  choice_later m t (Content op) r h = h
  choice_later m t (Ruled number given) r h =
      (h.0, h.1, fit_later h.0 t given.items h.2, h.3 ∙ sym (by_later h.0 h.2))
    where
      by : Rule → List terms.Bound → Replacement
      by rule bs = record { reason = By_rule rule.name (terms_by (substitution_of bs) (rule_variables rule)) no_pass; new = instance (substitution_of bs) rule.right }

      by_later : (rule : Rule) → IsFit old rule t given.items → by_rule new rule given.items ≡ by_rule old rule given.items
      by_later rule f = ap (by rule) (bounds_later old new given.items grows f.bound)

  pub found_later : (m : Means) (t : Tree) (found : Found) (d : Replacement) → IsFound old m t found d → IsFound new m t found d
  found_later m t found d h = (h.0, choice_later m t found.choice h.0 h.1, h.2)

-- ---- at the root

module _ (due : (budget : ℕ) → Tree → Work (Option Replacement)) (falls : IsFallingDue due) (b : Room) (table : List Tree) (from : List ℕ) (t : Tree) (d : Replacement) (k : ℕ)
    (root : IsAtRoot due from t) where
  -- what comes of the new term
  made_is : (l : ℕ) → due k t ≡ Made (Some d) (suc l) → (lim : Option Limit) → first_limit d.new ≡ lim → (past : Bool) → is_past (plain_room b) d.new ≡ past → (us : List Traced)
      → run_in due (plain_room b) k from t us k ≡ bounded lim past d.new (suc l) (run_in due (plain_room b) l [] d.new (us ++ traced (placed [] d) ∷ []) l)
  made_is l e lim f past g us =
      root_made due falls (plain_room b) from t us k l d (root k) e
      ∙ ap (λ x. bounded x (is_past (plain_room b) d.new) d.new (suc l) (run_in due (plain_room b) l [] d.new (us ++ traced (placed [] d) ∷ []) l)) f
      ∙ ap (λ x. bounded lim x d.new (suc l) (run_in due (plain_room b) l [] d.new (us ++ traced (placed [] d) ∷ []) l)) g

  pub make_spent : due k t ≡ Made (Some d) zero → (left : ℕ) → left ≡ 0 → StopsAt due b table from t k left (stop.Fault Spent)
  make_spent e left z = (λ us. root_unpaid due (plain_room b) from t us k (root k) k d e, z)

  pub make_faults : (l : ℕ) → due k t ≡ Made (Some d) (suc l) → (e : TermFault) → Names e (first_limit d.new) → StopsAt due b table from t k (suc l) (stop.Fault (rewrite_fault e))
  make_faults l e (term.TooBig n) h = λ us. made_is l e (Some (Big n)) h (is_past (plain_room b) d.new) refl us
  make_faults l e (term.TooDeep n) h = λ us. made_is l e (Some (Deep n)) h (is_past (plain_room b) d.new) refl us
  make_faults l e term.Memory h = tt

  pub make_outgrows : (l m : ℕ) → due k t ≡ Made (Some d) (suc l) → IsNamed table m d.new → IsWithinLimits d.new → is_past (plain_room b) d.new ≡ true
      → StopsAt due b table from t k (suc l) (stop.Outgrows m)
  make_outgrows l m e named w g = (d.new, named, λ us. made_is l e None w true g us)

  pub make_steps : (path : List ℕ) (x y : Course) (l m : ℕ) → due k t ≡ Made (Some d) (suc l) → l < k → IsNamed table m d.new → IsWithinLimits d.new → IsInRoom (plain_room b) d.new
      → Writes path x y (traced (placed [] d) ∷ []) → StepsTo due b table path x y from t k l m
  make_steps path x y l m e less named w inside writes = (
    d.new,
    traced (placed [] d) ∷ [],
    named,
    (λ us. made_is l e None w false (stays_inside (plain_room b) d.new inside.small inside.shallow) us),
    writes,
    inside,
    less,
  )

-- the trace of a replacement at the root, in the whole
pub writes_one : (path : List ℕ) (x y : Course) (one : Trace) (d : Replacement) → y.traces.items ≡ x.traces.items ++ one ∷ []
    → plain_trace one ≡ traced (placed path d) → y.path.items ≡ path → Writes path x y (traced (placed [] d) ∷ [])
writes_one path x y one d e h p = (
  ap plain_traces e ∙ map_append plain_trace x.traces.items (one ∷ [])
      ∙ ap (λ tr. plain_traces x.traces.items ++ tr ∷ []) (h ∙ ap (λ q. traced (placed q d)) (sym (append-nil path))),
  p,
)

-- the trace with the passes of its conditions is that of the replacement with them
pub traced_passing : (path : List ℕ) (tr : Traced) (r d : Replacement) (ps : Passes) → tr ≡ traced (placed path r) → d ≡ passing ps r
    → record { path = tr.path; reason = with_passes ps tr.reason } ≡ traced (placed path d)
traced_passing path tr r d ps e h = ap done e ∙ sym (ap (λ x. traced (placed path x)) h)
  where
    done : Traced → Traced
    done x = record { path = x.path; reason = with_passes ps x.reason }
