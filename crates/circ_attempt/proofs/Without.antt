-- Without the flag each turn is that of the search with conditions, and so is what is found; and a turn whose attempt closes nothing.
use Rattle.std.proofs.Common.{◌≡◌, ℕ, true, false, if◌then◌else◌, List, [], None, refl, ap, sym, ◌∙◌}
use Rattle.circ_theory.specs.Theory.{Theory}
use Rattle.circ_theory.specs.Goal.{Goal}
use Rattle.circ_special.specs.declared.place.Place.{Place}
use Rattle.circ_conditional_norm.specs.Work.{Made}
use Rattle.circ_plain_search.specs.Numbering.{Found}
use Rattle.circ_plain_search.specs.Search.{Standing, Ending, start}
use Rattle.circ_conditional_search.specs.ConditionalSearch.{ConditionalSearch}
use Rattle.circ_conditional_search.specs.Search.{Manner, open_turn_trying, worked, turn_trying, Finishes, stops, goes_on}
use Rattle.circ_attempt.specs.RewritingSearch.{RewritingSearch, first_going}
use Rattle.circ_attempt.specs.Search.{Conduct, Going, going, afresh, is_attempted, attempt_here, attempted_turn, attempt_turn, turn_rewriting_at, turn_rewriting, FinishesRewriting, stops_so, goes_on_so}
use Rattle.circ_attempt.proofs.Ends.{afresh_ends}
use Rattle.circ_attempt.proofs.Turns.{afresh_is}

module _ (th : Theory) (G : List Place) (l : Conduct) (off : l.rewrite ≡ false) where
  abbrev m : Manner
  m = l.manner

  pub turn_same : (x : Going) → turn_rewriting th G l x ≡ afresh (turn_trying th G m x.standing)
  turn_same x = ap (λ v. if v then turn_rewriting_at th G m x.standing x.passed x.standing.queue else afresh (turn_trying th G m x.standing)) off

  finishes_trying : (x : Going) (e : Ending) → FinishesRewriting th G l x e → Finishes th G m x.standing e
  finishes_trying x e (stops_so _ _ t) = stops x.standing e (afresh_ends (turn_trying th G m x.standing) e (sym (turn_same x) ∙ t))
  finishes_trying x e (goes_on_so _ y _ t r) =
      goes_on x.standing y.standing e (afresh_is (turn_trying th G m x.standing) y (sym (turn_same x) ∙ t)) (finishes_trying y e r)

  pub finishes_rewriting : (st : Standing) (x : Going) (e : Ending) → x.standing ≡ st → Finishes th G m st e → FinishesRewriting th G l x e
  finishes_rewriting st x e is (stops _ _ t) = stops_so x e (turn_same x ∙ ap (λ s. afresh (turn_trying th G m s)) is ∙ ap afresh t)
  finishes_rewriting st x e is (goes_on _ next _ t r) =
      goes_on_so x (going next []) e (turn_same x ∙ ap (λ s. afresh (turn_trying th G m s)) is ∙ ap afresh t) (finishes_rewriting next (going next []) e refl r)

pub to_conditional : (th : Theory) (blocks : List (List Goal)) (l : Conduct) (f : Found) → l.rewrite ≡ false → RewritingSearch th blocks l f
    → ConditionalSearch th blocks l.manner f
to_conditional th blocks l f off s = record {
  places = s.places;
  traces = s.traces;
  greatest = s.greatest;
  ending = s.ending;
  run = finishes_trying th s.places l off (first_going l blocks) s.ending s.run;
  is = s.is;
}

pub from_conditional : (th : Theory) (blocks : List (List Goal)) (l : Conduct) (f : Found) → l.rewrite ≡ false → ConditionalSearch th blocks l.manner f
    → RewritingSearch th blocks l f
from_conditional th blocks l f off s = record {
  places = s.places;
  traces = s.traces;
  greatest = s.greatest;
  ending = s.ending;
  run = finishes_rewriting th s.places l off (start l.manner.limits blocks) (first_going l blocks) s.ending refl s.run;
  is = s.is;
}

pub forgotten : (th : Theory) (G : List Place) (m : Manner) (st : Standing) (g : Goal) (rest : List Goal) (k : ℕ) → is_attempted th st g ≡ true
    → attempt_here th G st g ≡ Made None k → attempt_turn th G m st g rest ≡ open_turn_trying th m (record st { budget = k }) g rest
forgotten th G m st g rest k is none =
    ap (λ v. if v then worked m.limits st (attempt_here th G st g) (λ o x. attempted_turn th m x g rest o) else open_turn_trying th m st g rest) is
    ∙ ap (λ w. worked m.limits st w (λ o x. attempted_turn th m x g rest o)) none
