-- How the work of `expand` on an accepted proof ends: in one way, and with statuses of its own.
use Rattle.std.proofs.Common.{◌≡◌, ◌≢◌, ◌==◌, ◌+◌, ◌-◌, ℕ, Bool, List, true, false, arith, refl, sym, ◌∙◌, ap, subst, Option, Some, None, Err, if◌then◌else◌}
use Rattle.std.proofs.lemmas.Option.{same_Some}
use Rattle.std.specs.List.{slice_get}
use Rattle.std.proofs.lemmas.Bool.{eq-eqb}
use Rattle.circ_term.specs.Limits.{Big, Deep}
use Rattle.circ_term.specs.Tree.{sort_of}
use Rattle.circ_theory.specs.Theory.{Theory}
use Rattle.circ_theory.specs.Goal.{Goal}
use Rattle.circ_proof.specs.Accepted.{Accepted}
use Rattle.circ_proof.specs.Proof.{Proof}
use Rattle.circ_entry.specs.Entries.{Written, FitsWritten}
use Rattle.circ_expand.specs.Expand.{Spending, Yields, Long, Past, Stopped, expansion}
use Rattle.circ_expand.specs.Pieces.{Pieces}
use Rattle.circ_expand.specs.Outcomes.{IsWrittenOut}
use Rattle.circ_expand.specs.declared.fault.ExpandFault.{ExpandFault}
use Rattle.circ_expand.specs.declared.fault.ExpandFault.TheVariants as fault
use Rattle.circ_expand.specs.Goals.{all_goals, goal_misfit, FitGoal}
use Rattle.circ_status.specs.declared.status.Status.{Status}
use Rattle.circ_status.specs.declared.status.Status.TheVariants as status
use Rattle.circ_reports.specs.Expand.{Expanded, Written_out, Not_written, by_units, by_misfit, by_goal, number_before, by_number, expanded, fresh_experiment, Writes, EndsAs, WritesNone, fault_answer}
use Rattle.circ_reports.specs.Expand.{GivesNone, none_written, no_memory}

-- a status with which the work may end if there is no derivation
abbrev pub IsNoneEnd : Status → Type 0
IsNoneEnd (status.Expansion n) = Unit {0}
IsNoneEnd (status.Misfit n) = Unit {0}
IsNoneEnd (status.TooBig n) = Unit {0}
IsNoneEnd (status.TooDeep n) = Unit {0}
IsNoneEnd s = ⊥

abbrev OnlyEnds : Expanded → Type 0
OnlyEnds (Written_out ws g xs) = Unit {0}
OnlyEnds (Not_written s) = IsNoneEnd s

units_end : (ws : List Written) (g : Goal) (o : _) → OnlyEnds (by_units ws g o)
units_end ws g (Yields xs left) = tt
units_end ws g (Past (Big n)) = tt
units_end ws g (Past (Deep n)) = tt
units_end ws g Long = tt
units_end ws g Stopped = tt

misfit_end : (o : Option ℕ) (e : Expanded) → OnlyEnds e → OnlyEnds (by_misfit o e)
misfit_end (Some n) e h = tt
misfit_end None e h = h

goal_end : (th : Theory) (p : Proof) (n : ℕ) (ks : List ℕ) (o : Option Goal) → OnlyEnds (by_goal th p n ks o)
goal_end th p n ks None = tt
goal_end th p n ks (Some g) =
    let ws = fresh_experiment th g ks in
    misfit_end (goal_misfit th p n ws) (by_units ws g (expansion 100000 th p n ws)) (units_end ws g (expansion 100000 th p n ws))

number_end : (th : Theory) (p : Proof) (ks : List ℕ) (o : Option ℕ) → OnlyEnds (by_number th p ks o)
number_end th p ks None = tt
number_end th p ks (Some n) = goal_end th p n ks (slice_get (all_goals p.blocks) n)

expanded_end : (th : Theory) (p : Proof) (goal : ℕ) (ks : List ℕ) → OnlyEnds (expanded th p goal ks)
expanded_end th p goal ks = number_end th p ks (number_before goal)

none_is : (e : Expanded) (s : Status) → OnlyEnds e → EndsAs e s → IsNoneEnd s
none_is (Written_out ws g xs) s h x = absurd x
none_is (Not_written r) s h x = subst IsNoneEnd (sym x) h

pub none_end : (th : Theory) (p : Proof) (goal : ℕ) (ks : List ℕ) (s : Status) → EndsAs (expanded th p goal ks) s → IsNoneEnd s
none_end th p goal ks s x = none_is (expanded th p goal ks) s (expanded_end th p goal ks) x

pub not_end : (th : Theory) (p : Proof) (goal : ℕ) (ks : List ℕ) (s r : Status) → EndsAs (expanded th p goal ks) s → s ≡ r → (IsNoneEnd r → ⊥) → ⊥
not_end th p goal ks s r x e not = not (subst IsNoneEnd e (none_end th p goal ks s x))

pub one_text : (th : Theory) (e : Expanded) (text other : List ℕ) → Writes th e text → Writes th e other → text ≡ other
one_text th (Written_out ws g xs) text other a b = a ∙ sym b
one_text th (Not_written s) text other a b = absurd a

pub one_none : (e : Expanded) (s r : Status) → EndsAs e s → EndsAs e r → s ≡ r
one_none (Written_out ws g xs) s r a b = absurd a
one_none (Not_written x) s r a b = a ∙ sym b

pub not_both : (th : Theory) (e : Expanded) (text : List ℕ) (s : Status) → Writes th e text → EndsAs e s → ⊥
not_both th (Written_out ws g xs) text s a b = b
not_both th (Not_written x) text s a b = a

-- there is a derivation, or another answer
pub text_or_none : {A : Type 0} (th : Theory) (e : Expanded) → ((text : List ℕ) → Writes th e text → A) → ((s : Status) → EndsAs e s → A) → A
text_or_none th (Written_out ws g xs) written none = written _ refl
text_or_none th (Not_written s) written none = none s refl

-- ---- what the calls below answer

pub fault_none : (ws : List Written) (g : Goal) (o : Spending Pieces) (f : ExpandFault) → IsWrittenOut o (Err f) → WritesNone (by_units ws g o) (fault_answer f)
fault_none ws g o (fault.Long units) x =
    let P : Spending Pieces → Type 0 = λ y. EndsAs (by_units ws g y) (status.Expansion units) in subst P (sym x.0) (ap status.Expansion x.1)
fault_none ws g o (fault.TooBig nodes) x = let P : Spending Pieces → Type 0 = λ y. EndsAs (by_units ws g y) (status.TooBig nodes) in subst P (sym x) refl
fault_none ws g o (fault.TooDeep depth) x = let P : Spending Pieces → Type 0 = λ y. EndsAs (by_units ws g y) (status.TooDeep depth) in subst P (sym x) refl
fault_none ws g o fault.Memory x = tt

pub none_by_memory : (e : Expanded) (s : Status) → s ≡ status.Memory → WritesNone e s
none_by_memory e s m = let P : Status → Type 0 = WritesNone e in subst P (sym m) tt

pub nothing_by_memory : (th : Theory) (p : Proof) (goal : ℕ) (ks : List ℕ) (s : Status) → s ≡ status.Memory → GivesNone th p goal ks s
nothing_by_memory th p goal ks s m = let P : Status → Type 0 = GivesNone th p goal ks in subst P (sym m) no_memory

pub ruleset refusing = (none_by_memory, nothing_by_memory)

-- no derivation of an accepted proof
pub gives_none : (th : Theory) (p : Proof) (goal : ℕ) (ks : List ℕ) (s : Status) → Accepted th p → WritesNone (expanded th p goal ks) s → GivesNone th p goal ks s
gives_none th p goal ks status.Memory a x = no_memory
gives_none th p goal ks s a x = none_written s a x

-- a goal's number counted from 1, and from 0
pub before_is : (goal n : ℕ) → Some n ≡ number_before goal → n + 1 ≡ goal
before_is goal n e = go (goal == 0) refl e
  where
    go : (b : Bool) → (goal == 0) ≡ b → Some n ≡ (if b then None else Some (goal - 1)) → n + 1 ≡ goal
    go true i f = absurd (cc)
    go false i f =
        let same = same_Some n (goal - 1) f in
        let apart : goal ≢ 0 = λ z. let t = eq-eqb goal 0 z in let never : true ≡ false = sym t ∙ i in cc in
        omega (arith, same, apart)

-- the goal is there, and the experiment fits
pub goal_done : (th : Theory) (p : Proof) (n : ℕ) (ks : List ℕ) (g : Goal) (ws : List Written) (o : Option Goal) → o ≡ Some g
    → ws ≡ fresh_experiment th g ks → goal_misfit th p n ws ≡ None → by_units ws g (expansion 100000 th p n ws) ≡ by_goal th p n ks o
goal_done th p n ks g ws o is e m =
    let all : Expanded = by_units (fresh_experiment th g ks) g (expansion 100000 th p n (fresh_experiment th g ks)) in
    let Q : List Written → Type 0 = λ x. goal_misfit th p n x ≡ None → by_units x g (expansion 100000 th p n x) ≡ by_goal th p n ks (Some g) in
    subst Q (sym e) (λ k. sym (ap (λ z. by_misfit z all) k)) m ∙ ap (by_goal th p n ks) (sym is)

pub fits_there : (th : Theory) (p : Proof) (n : ℕ) (ws : List Written) (g : Goal) → FitGoal th p n ws → slice_get (all_goals p.blocks) n ≡ Some g
    → FitsWritten th ws (sort_of g.left)
fits_there th p n ws g f e = let L : Goal → Type 0 = λ x. FitsWritten th ws (sort_of x.left) in subst L (same_Some f.0 g (sym f.1 ∙ e)) f.2
