-- The entries of an experiment that fits are entries.
use Rattle.std.proofs.Common.{◌≡◌, ◌<◌, ℕ, zero, suc, length, get_or, List, [], ◌∷◌, Result, Ok, Err, sym, subst, arith}
use Rattle.std.specs.Prelude.{IfOk}
use Rattle.std.specs.List.{AllByRecursion}
use Rattle.circ_term.specs.Tree.{sort_of}
use Rattle.circ_theory.specs.Theory.{Theory}
use Rattle.circ_theory.specs.Goal.{Goal}
use Rattle.circ_entry.specs.Entries.{Written, FitsWritten}
use Rattle.circ_entry.specs.Plain.{plain_entry, plain_entries}
use Rattle.circ_entry.specs.declared.entries.Entry.{Entry}
use Rattle.circ_show.specs.EntryText.{IsEntry}
use Rattle.circ_refute.specs.PlainRefutation.{Refuted, Told_apart, Alike, Spent, Past_limit, Decision, PlainRefutation, goals_in}
use Rattle.circ_refute.specs.Difference.{IsRightOf, IsRightDecision}
use Rattle.circ_found.specs.Differing.{AreEntries, DifferEnds, decision_ending}
use Rattle.circ_status.specs.Ending.{plain_ending}
use Rattle.circ_status.specs.declared.ending.Ending.{Ending as TheEnding}

fitting_entries : (th : Theory) (ws : List Written) (s : ℕ) → FitsWritten th ws s → AllByRecursion (IsEntry th) ws
fitting_entries th [] s f = tt
fitting_entries th (w ∷ ws) s f = ((s, f.0, f.1), fitting_entries th ws (sort_of f.0.body) f.2)

pub right_entries : (th : Theory) (i : ℕ) (gs : List Goal) (n : ℕ) (r : Refuted) → IsRightOf th i gs n r → AreEntries th r
right_entries th i gs n (Told_apart ws l m) x = fitting_entries th ws (sort_of x.0.left) x.2.fits
right_entries th i gs n Alike x = tt
right_entries th i gs n Spent x = tt
right_entries th i gs n (Past_limit limit) x = tt

pub entry_at : (th : Theory) (es : List Entry) (i : ℕ) (e : Entry) → AllByRecursion (IsEntry th) (plain_entries es) → i < length es → e ≡ get_or es i e
    → IsEntry th (plain_entry e)
entry_at th [] i e a h g = absurd (omega (arith, h))
entry_at th (f ∷ es) zero e a h g = let P : Entry → Type 0 = λ x. IsEntry th (plain_entry x) in subst P (sym g) a.0
entry_at th (f ∷ es) (suc i) e a h g = entry_at th es i e a.1 (omega (arith, h)) g

-- what is found is answered
pub answered : {E : Type 0} (th : Theory) (n d : ℕ) (bs : List (List Goal)) (x : Decision) → PlainRefutation th bs d n x → IsRightDecision th (goals_in bs) x
    → (r : Result TheEnding E) → IfOk r (λ e. plain_ending e ≡ decision_ending th n d x) → IfOk r (λ e. DifferEnds th n d bs (plain_ending e))
answered th n d bs x f right (Ok e) is = record { decision = x; found = f; right = right; is = sym is }
answered th n d bs x f right (Err e) is = tt
