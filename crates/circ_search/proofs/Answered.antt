-- What is answered is what the search finds.
use Rattle.std.proofs.Common.{◌≡◌, List, Option, Some, Result, Ok, Err, subst, ◌∙◌}
use Rattle.std.specs.Prelude.{IfOk}
use Rattle.std.proofs.lemmas.Option.{same_Some}
use Rattle.circ_theory.specs.Theory.{Theory}
use Rattle.circ_theory.specs.Goal.{Goal}
use Rattle.circ_special.specs.declared.place.Place.{Place}
use Rattle.circ_rewrite.specs.Replacement.{Traced}
use Rattle.circ_proof.specs.Proof.{Proof}
use Rattle.circ_plain_search.specs.Greatest.{GreatestSpecialSet}
use Rattle.circ_plain_search.specs.Search.{Standing, Ending}
use Rattle.circ_plain_search.specs.Numbering.{Proved, Special}
use Rattle.circ_plain_search.specs.PlainSearch.{IsProofOf}
use Rattle.circ_attempt.specs.RewritingSearch.{RewritingSearch, first_going}
use Rattle.circ_attempt.specs.Search.{Conduct, FinishesRewriting}
use Rattle.circ_conditional_search.specs.Versions.{versioned_found}
use Rattle.circ_turn.specs.Ending.{IsEnd, RunEnds}
use Rattle.circ_turn.specs.declared.end.End.{End}
use Rattle.circ_turn.specs.declared.end.End.TheVariants as end
use Rattle.circ_search.specs.Plain.{plain_found, ending_of, ending_at, special_with, IfProved}
use Rattle.circ_search.specs.declared.found.Found.{Found}
use Rattle.circ_search.specs.declared.found.Found.TheVariants as found

is_ended : (R : Ending → Type 0) (e : End) (x : Ending) → ending_of e ≡ Some x → IsEnd R e → R x
is_ended R (end.Stuck b g s t A) x h r = let y = same_Some _ x h in subst R y r
is_ended R (end.Spent r1 d m) x h r = let y = same_Some _ x h in subst R y r
is_ended R (end.TooBig n) x h r = let y = same_Some _ x h in subst R y r
is_ended R (end.TooDeep n) x h r = let y = same_Some _ x h in subst R y r
is_ended R end.Memory x h r = absurd (cc)

-- what holds of how a run ends holds of its ending
pub run_ending : {X : Type 0} (R : Ending → Type 0) (st : Standing) (r : Result X End) (x : Ending) → ending_at st r ≡ Some x → RunEnds R st r → R x
run_ending R st (Ok y) x h r = let z = same_Some _ x h in subst R z r
run_ending R st (Err e) x h r = is_ended R e x h r

-- what is found at an ending that a run comes to
pub found_there : {X E : Type 0} (s : Special) (st : Standing) (end : Result X End) (e : Ending) → ending_at st end ≡ Some e → (r : Result Found E)
    → IfOk r (λ f. plain_found f ≡ versioned_found s e) → IfOk r (λ f. (x : Ending) × (ending_at st end ≡ Some x) × (plain_found f ≡ versioned_found s x))
found_there s st end e h (Ok f) is = (e, h, is)
found_there s st end e h (Err x) is = tt

pub found_so : {X E : Type 0} (s : Special) (st : Standing) (end : Result X End) (o : Option Ending) → ending_at st end ≡ o → (r : Result Found E)
    → IfOk r (λ f. (x : Ending) × (o ≡ Some x) × (plain_found f ≡ versioned_found s x))
    → IfOk r (λ f. (x : Ending) × (ending_at st end ≡ Some x) × (plain_found f ≡ versioned_found s x))
found_so s st end o h (Ok f) is = (is.0, h ∙ is.1, is.2)
found_so s st end o h (Err x) is = tt

module _ (th : Theory) (blocks : List (List Goal)) (m : Conduct) (G : List Place) (traces : List (List Traced)) (greatest : GreatestSpecialSet th m.manner.limits.steps G traces) where
  pub found_searched : {X E : Type 0} (st : Standing) (end : Result X End) → RunEnds (FinishesRewriting th G m (first_going m blocks)) st end → (r : Result Found E)
      → IfOk r (λ f. (x : Ending) × (ending_at st end ≡ Some x) × (plain_found f ≡ versioned_found (special_with G traces) x))
      → IfOk r (λ f. RewritingSearch th blocks m (plain_found f))
  found_searched st end run (Ok f) is = record {
    places = G;
    traces = traces;
    greatest = greatest;
    ending = is.0;
    run = run_ending (FinishesRewriting th G m (first_going m blocks)) st end is.0 is.1 run;
    is = is.2;
  }
  found_searched st end run (Err x) is = tt

-- what is proved is accepted
pub proofs_hold : {E : Type 0} (th : Theory) (blocks : List (List Goal)) (m : Conduct) (r : Result Found E)
    → ((p : Proof) → RewritingSearch th blocks m (Proved p) → IsProofOf th blocks p) → IfOk r (λ f. RewritingSearch th blocks m (plain_found f))
    → IfOk r (λ f. IfProved f (IsProofOf th blocks))
proofs_hold th blocks m (Ok f) law h = go f h
  where
    go : (f : Found) → RewritingSearch th blocks m (plain_found f) → IfProved f (IsProofOf th blocks)
    go (found.Proved proof) p = law _ p
    go (found.LongTable terms) p = tt
    go (found.Stuck b g s t A) p = tt
    go (found.Spent r1 d m) p = tt
    go (found.TooBig n) p = tt
    go (found.TooDeep n) p = tt
proofs_hold th blocks m (Err x) law h = tt
